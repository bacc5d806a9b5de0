-- `table::fault::RowCheck::fails_at` counts the rows that have the key.
use Rattle.std.proofs.Common.{rules, tests}
use Rattle.std.proofs.lemmas.Iterator.{YieldsList-from_slice}
use Rattle.std.proofs.lemmas.Iterator.Consumers.{YieldsList-from_filter, count_from_yields_List}
use Rattle.rules.specs.Checks.{fault}
use Rattle.table.proofs.Faults.{key_shared}
use Rattle.table.proofs.fault.RowCheck.fails_at.Goals as goal

pub returns-in-IdRepeated : goal.returns-in-IdRepeated
unfolding fault
returns-in-IdRepeated c = rw c.in-IdRepeated.is (key_shared 7 _ c.args.rows.now c.args.r (count_from_yields_List _ _ c.count.ensures.ran
    (YieldsList-from_filter _ _ (YieldsList-from_slice c.args.rows.now cc) c.filter.ensures.closure (λ x r q k. search (rules, tests)))))

pub returns-in-PriorityShared : goal.returns-in-PriorityShared
unfolding fault
returns-in-PriorityShared c = rw c.in-PriorityShared.is (key_shared 10 _ c.args.rows.now c.args.r
    (count_from_yields_List _ _ c.count-in-PriorityShared.ensures.ran
    (YieldsList-from_filter _ _ (YieldsList-from_slice c.args.rows.now cc) c.filter-in-PriorityShared.ensures.closure
    (λ x r q k. search (rules, tests)))))
