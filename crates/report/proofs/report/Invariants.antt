-- The lines of the policies passed.
use Rattle.std.proofs.Common.{◌-◌, ◌*◌, ◌≤◌, length}
use Rattle.report.proofs.Laid.{Laid}
use Rattle.report.proofs.report.Given as goal

abbrev pub invariant-loop-policy : goal.invariant-loop-policy
invariant-loop-policy l = Laid l.text (l.policy - 1) l.lines × (length l.lines ≤ 73 * (l.policy - 1))
