-- `table_csv::read_rows` reads the whole text: at each turn the lines read and those to come are the text's lines.
use Rattle.std.proofs.Common.{length, ◌≡◌}
use Rattle.table_csv.proofs.Lines.{Taking, rows_so_far}
use Rattle.table_csv.proofs.read_rows.Given as goal

abbrev pub invariant-loop-t : goal.invariant-loop-t
invariant-loop-t l = Taking l.text (rows_so_far l.rows l.count) l.t × (length l.rows ≡ 16)

abbrev pub decreases-loop-t : goal.decreases-loop-t
decreases-loop-t l = length l.t
