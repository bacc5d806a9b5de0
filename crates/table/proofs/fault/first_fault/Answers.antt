-- `table::fault::first_fault` meets its contract by the laws of its loop.
use Rattle.std.proofs.Common.{◌∙◌, sym}
use Rattle.table.proofs.Faults.{fault_none, fault_stop, fault_next}
use Rattle.table.proofs.fault.first_fault.Goals as goal

pub returns-in-Some : goal.returns-in-Some
returns-in-Some c = fault_stop _ _ c.loop-check.check-index c.loop-check-test.true _ c.loop-check.invariant _ _ c.number.ensures
    (sym c.in-Some.is ∙ c.place.ensures)

pub loop-check-preserved : goal.loop-check-preserved
loop-check-preserved c = fault_next _ _ c.loop-check.check-index c.loop-check-test.true _ c.loop-check.invariant
    (sym c.in_default.is ∙ c.place.ensures)

pub returns : goal.returns
returns c = fault_none _ _ c.loop-check.check-index c.loop-check-test.false c.loop-check.invariant
