-- `table_csv::number_of` reads its digits from the left, within 32 bits.
use Rattle.std.proofs.Common.{drop, ◌+◌, ◌*◌, ◌^◌, ◌≡◌, ◌≤◌}
use Rattle.rules.specs.Text.{number}
use Rattle.table_csv.proofs.number_of.Given as goal

abbrev pub invariant-loop-b : goal.invariant-loop-b
invariant-loop-b l = (l.a + 23 ≤ 23 * 10 ^ l.b-index) × (number 0 l.ds ≡ number l.a (drop l.b-index l.ds))
