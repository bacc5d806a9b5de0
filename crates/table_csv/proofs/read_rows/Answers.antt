-- `table_csv::read_rows` meets its contract by the laws of its loop.
use Rattle.std.proofs.Common.{◌≡◌, ◌<◌, length, set, arith, refl, sym, ap, ◌∙◌, rules}
use Rattle.std.proofs.Math.ListN.{length-set}
use lib.Seq.{set_out}
use Rattle.table_csv.proofs.Lines.{rows_so_far, none_refused, row_less, taking_start, taking_bad, taking_turn, taking_done}
use Rattle.table_csv.proofs.read_rows.Goals as goal
use Rattle.table_csv.proofs.read_rows.Goals.{then-count-lt-MAX_ROWS, else-count-lt-MAX_ROWS}

pub returns-in_default : goal.returns-in_default
returns-in_default c = rw c.into-in_default.ensures (none_refused c.args.text.now (omega arith) c.in_default.ensures)

pub loop-t-init : goal.loop-t-init
loop-t-init c = rw c.blank-rows.ensures (taking_start c.args.text.now _ c.in-Some.ensures, refl)

pub returns-in_default-read_row : goal.returns-in_default-read_row
returns-in_default-read_row c =
    let some : 0 < length c.loop-t.t.now = search rules in
    rw c.into-in_default-read_row.ensures
    (taking_bad c.args.text.now (omega arith) _ c.in-Some.ensures (rows_so_far c.loop-t.rows c.loop-t.count) c.loop-t.t.now
    c.loop-t.invariant.0 some c.in_default-read_row.ensures)

pub loop-t-smaller : goal.loop-t-smaller
loop-t-smaller c =
    let some : 0 < length c.loop-t.t.now = search rules in
    row_less c.loop-t.t.now some c.in-Some-read_row.row c.in-Some-read_row.rest.now c.in-Some-read_row.ensures

pub loop-t-preserved : goal.loop-t-preserved
loop-t-preserved c =
    let some : 0 < length c.loop-t.t.now = search rules in
    let turn =
    taking_turn c.args.text.now (rows_so_far c.loop-t.rows c.loop-t.count) c.loop-t.t.now c.loop-t.invariant.0 some
    c.in-Some-read_row.row c.in-Some-read_row.rest.now c.in-Some-read_row.ensures
    in
    -- past sixteen nothing is stored, and nothing would be
    let stored : c.if-count-lt-MAX_ROWS.rows ≡ set c.loop-t.rows c.loop-t.count c.in-Some-read_row.row =
    elim c.if-count-lt-MAX_ROWS.branch [
      | then-count-lt-MAX_ROWS w ↦ w.rows-is
      | else-count-lt-MAX_ROWS w ↦ w.rows-is ∙ sym (set_out c.loop-t.rows c.loop-t.count c.in-Some-read_row.row (omega arith))
    ]
    in (rw stored turn, ap length stored ∙ length-set c.loop-t.rows c.loop-t.count c.in-Some-read_row.row ∙ c.loop-t.invariant.1)

pub returns : goal.returns
returns c =
    let none : length c.loop-t.t.now ≡ 0 = search rules in
    taking_done c.args.text.now (omega arith) _ c.in-Some.ensures (rows_so_far c.loop-t.rows c.loop-t.count) c.loop-t.t.now
    c.loop-t.invariant.0 none
