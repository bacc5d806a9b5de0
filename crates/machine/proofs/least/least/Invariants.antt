-- m is the least of the blocks passed.
use Rattle.std.proofs.Common.{◌*◌}
use Rattle.machine.specs.Least.{Least}
use Rattle.machine.proofs.least.least.Given as goal

abbrev pub invariant-loop-four : goal.invariant-loop-four
invariant-loop-four l = Least (4 * l.four-index) l.a l.m
