-- The ids of the rows passed, and then the bytes as they were.
use Rattle.std.proofs.Common.{◌≡◌, take, drop}
use Rattle.checker.specs.Outcomes.{ids_in}
use Rattle.checker.proofs.labels.write_ids.Given as goal

abbrev pub invariant-loop-i : goal.invariant-loop-i
invariant-loop-i l = (take l.i l.ids ≡ ids_in (take l.i l.rows)) × (drop l.i l.ids ≡ drop l.i l.fn.ids)
