-- `table_csv::read_row` meets its contract by the laws of its loop.
use Rattle.std.proofs.Common.{◌-◌, sym, ap, ◌∙◌}
use Rattle.rules.specs.Text.{number}
use Rattle.table_csv.proofs.Rows.{ends_so, ending_short, filling_bad, filling_turn, filling_done}
use Rattle.table_csv.proofs.read_row.Goals as goal

pub returns-in_err-ending : goal.returns-in_err-ending
returns-in_err-ending c =
    rw c.from_residual.ensures
    (filling_bad c.args.text.now c.loop-k.value-items c.loop-k.t.now c.loop-k.k c.loop-k.invariant c.loop-k-test.true
    (ap (λ o. ends_so o (7 - c.loop-k.k)) (sym c.in_err-ending.ensures)))

pub returns-then-not-fits_at : goal.returns-then-not-fits_at
returns-then-not-fits_at c =
    filling_bad c.args.text.now c.loop-k.value-items c.loop-k.t.now c.loop-k.k c.loop-k.invariant c.loop-k-test.true
    (ap (λ o. ends_so o (7 - c.loop-k.k)) (sym c.in_ok-ending.ensures) ∙ sym c.fits_at.ensures ∙ c.if-not-fits_at.true)

pub number_of-requires : goal.number_of-requires
number_of-requires c = rw c.field-d.ensures (ending_short c.loop-k.t.now _ (sym c.in_ok-ending.ensures))

pub loop-k-preserved : goal.loop-k-preserved
loop-k-preserved c =
    let turn =
    filling_turn c.args.text.now c.loop-k.value-items c.loop-k.t.now c.loop-k.k c.loop-k.invariant c.loop-k-test.true
    (c.in_ok-ending.ending, c.in_ok-ending.rest.now) (sym c.in_ok-ending.ensures) (sym c.fits_at.ensures ∙ c.if-not-fits_at.false)
    in
    rw (c.number_of.ensures ∙ ap (number 0) c.field-d.ensures) turn

pub returns : goal.returns
returns c = filling_done c.args.text.now c.loop-k.value-items c.loop-k.t.now c.loop-k.k c.loop-k.invariant c.loop-k-test.false
