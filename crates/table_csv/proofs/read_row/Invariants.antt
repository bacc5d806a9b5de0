-- `table_csv::read_row` reads the line at the front: at each turn the fields read and those to come are the line's fields.
use Rattle.table_csv.proofs.Rows.{Filling}
use Rattle.table_csv.proofs.read_row.Given as goal

abbrev pub invariant-loop-k : goal.invariant-loop-k
invariant-loop-k l = Filling l.text l.value-items l.t l.k
