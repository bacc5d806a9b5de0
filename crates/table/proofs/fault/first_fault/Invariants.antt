-- `table::fault::first_fault` makes the row checks in their order: none that is passed fails.
use Rattle.std.proofs.Common.{◌≡◌, drop, map}
use Rattle.rules.specs.Checks.{row_checks, first_fault}
use Rattle.table.specs.Tables.{number_of}
use Rattle.table.proofs.fault.first_fault.Given as goal

abbrev pub invariant-loop-check : goal.invariant-loop-check
invariant-loop-check l = first_fault row_checks l.rows ≡ first_fault (map number_of (drop l.check-index l.check-items)) l.rows
