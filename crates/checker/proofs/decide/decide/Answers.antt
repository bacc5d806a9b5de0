-- `decide` meets its contract: what the run up to the allowance says of the slots needed, by `Needed`.
use Rattle.std.proofs.Common.{refl}
use Rattle.checker.proofs.Needed.{missed_end, accepted_end, undecided_end}
use Rattle.checker.proofs.decide.decide.Goals as goal
use Rattle.checker.proofs.decide.decide.Goals.{in-Missed, in-Repeats, in-Ended}

pub returns : goal.returns
returns c =
    let ran = rw c.min.ensures at c.run-q.ensures.ran in
    elim c.match-q.branch [
      | in-Missed w ↦ rw w.verdict-is (missed_end _ _ c.requires _ _ ran _ w.in-Missed.is refl)
      | in-Repeats w ↦ rw w.verdict-is (accepted_end _ _ c.requires _ _ ran w.in-Repeats.is)
      | in-Ended w ↦ rw w.verdict-is (undecided_end _ _ c.requires _ _ ran w.in-Ended.is)
    ]
