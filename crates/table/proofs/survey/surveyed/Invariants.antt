-- `table::survey::surveyed` goes over the rows once: those passed are fine.
use Rattle.table.proofs.OnePass.{Surveying}
use Rattle.table.proofs.survey.surveyed.Given as goal

abbrev pub invariant-loop-r : goal.invariant-loop-r
invariant-loop-r l = Surveying l.rows l.ids l.priorities l.omax l.hyper l.r-index
