-- Rests on the law of one row more.
use Rattle.machine.proofs.Begin.{begun_turn}
use Rattle.machine.proofs.state.begin.Goals as goal

pub loop-i-preserved : goal.loop-i-preserved
loop-i-preserved c =
    let at = c.loop-i in
    begun_turn c.args.rows.now at.i c.loop-i-test.true c.requires at.s at.invariant _ c.tagged-o.ensures _ c.min.ensures
