-- `table_csv::field` returns the digits of the field at the front, a part of the text.
use Rattle.std.proofs.Common.{◌≡◌, sym, ap}
use lib.Seq.{length-take-le}
use Rattle.rules.specs.Text.{digits, inner}
use Rattle.table_csv.proofs.Fields.{digits_take, digits_le, without_quote}
use Rattle.table_csv.proofs.field.Goals as goal

pub slice_bounds-result-end : goal.slice_bounds-result-end
slice_bounds-result-end c = sym (length-take-le _ _ (rw c.run-n.ensures (digits_le _)))

pub returns : goal.returns
returns c =
    let plain : c.unwrap_or-t.result.now ≡ inner c.args.text.now =
    rw c.unwrap_or-t.ensures (without_quote c.args.text _ c.unquoted.ensures) in
    rw (c.run-n.ensures, digits_take) (ap digits plain)
