-- `table_csv::run` counts the digits at the front: those passed and those to come are all of them.
use Rattle.std.proofs.Common.{length, drop, ◌+◌, ◌≡◌}
use Rattle.rules.specs.Text.{digits}
use Rattle.table_csv.proofs.run.Given as goal

abbrev pub invariant-loop-i : goal.invariant-loop-i
invariant-loop-i l = length (digits l.text) ≡ l.i + length (digits (drop l.i l.text))
