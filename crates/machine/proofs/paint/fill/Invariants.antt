-- The slots before u are painted, and u is at most the last asked for.
use Rattle.std.proofs.Common.{◌-◌, ◌+◌, ◌≤◌}
use Rattle.machine.specs.Paint.{Painted}
use Rattle.machine.proofs.paint.fill.Given as goal

abbrev pub invariant-loop-u : goal.invariant-loop-u
invariant-loop-u l = record {
  painted : Painted (λ v. l.id) (λ v. l.byte) l.from l.u l.initial.slots l.slots;
  high : l.u ≤ l.from + (l.to - l.from);
}
