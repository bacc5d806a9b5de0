-- `table::hyper::divisor` meets its contract by the laws of its loop.
use Rattle.std.proofs.Common.{arith}
use Rattle.table.proofs.Multiples.{dividing_start, dividing_turn, dividing_done}
use Rattle.table.proofs.hyper.divisor.Goals as goal

pub loop-b-init : goal.loop-b-init
loop-b-init c = dividing_start c.args.h c.args.p c.requires.0

pub loop-b-preserved : goal.loop-b-preserved
loop-b-preserved c = dividing_turn c.args.h c.args.p c.loop-b.a c.loop-b.b c.loop-b.invariant (omega arith)

pub returns : goal.returns
returns c = dividing_done c.args.h c.args.p c.loop-b.a c.loop-b.b c.loop-b.invariant c.loop-b-test.false
