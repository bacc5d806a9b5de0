-- The rows before i are filled in.
use Rattle.machine.specs.Begun.{Begun}
use Rattle.machine.proofs.state.begin.Given as goal

abbrev pub invariant-loop-i : goal.invariant-loop-i
invariant-loop-i l = Begun l.rows l.i l.s
