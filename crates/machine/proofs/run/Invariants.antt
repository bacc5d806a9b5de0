-- The loop over events: `Going` holds at its head, and `Joining` while jobs join.
use Rattle.std.proofs.Common.{◌-◌, ◌+◌, ◌*◌}
use Rattle.machine.proofs.Joins.{Joining}
use Rattle.machine.proofs.Places.{head_of, measure, Going}
use Rattle.machine.proofs.run.Given as goal

abbrev pub invariant-loop-s-2 : goal.invariant-loop-s-2
invariant-loop-s-2 l = Joining l.policy l.t l.requests l.loadings l.time l.initial.s l.s

abbrev pub decreases-loop-s-2 : goal.decreases-loop-s-2
decreases-loop-s-2 l = (l.time + 1) * 16 - l.s.next

abbrev pub invariant-loop-s : goal.invariant-loop-s
invariant-loop-s l = Going (head_of l.policy l.t l.requests l.loadings l.first l.end l.fn.slots l.slots l.s l.was l.mark l.time)

abbrev pub decreases-loop-s : goal.decreases-loop-s
decreases-loop-s l = measure (head_of l.policy l.t l.requests l.loadings l.first l.end l.fn.slots l.slots l.s l.was l.mark l.time)
