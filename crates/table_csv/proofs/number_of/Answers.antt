-- `table_csv::number_of` meets its contract by the laws of its loop.
use Rattle.std.proofs.Common.{◌≡◌, ◌-◌, ◌≤◌, slice_index_or, arith, sym, ◌∙◌}
use Rattle.table_csv.proofs.Numbers.{number_cons, number_end, bound_step}
use Rattle.table_csv.proofs.number_of.Goals as goal

pub loop-b-preserved : goal.loop-b-preserved
loop-b-preserved c =
    let digit : c.from.result ≡ slice_index_or c.args.ds.now c.loop-b.b-index 0 - 48 = c.from.ensures ∙ c.saturating_sub.ensures in
    let small : c.from.result ≤ 207 = omega (arith, c.type_inv.ds c.loop-b.b-index) in (
      bound_step _ _ _ small c.loop-b.invariant.0,
      c.loop-b.invariant.1 ∙ rw digit (number_cons c.args.ds.now c.loop-b.a c.loop-b.b-index c.loop-b-test.true),
    )

pub returns : goal.returns
returns c = sym (c.loop-b.invariant.1 ∙ number_end c.args.ds.now c.loop-b.a c.loop-b.b-index c.loop-b-test.false)
