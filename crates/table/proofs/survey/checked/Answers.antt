-- `table::survey::checked` meets its contract by a law for each way through it.
use Rattle.table.proofs.Checked.{fault_refused, hyper_refused, sorted_accepted, read_accepted}
use Rattle.table.proofs.survey.checked.Goals as goal

pub returns-in_default : goal.returns-in_default
returns-in_default c = fault_refused c.args.t _ c.surveyed.ensures c.in_default.is _ c.first_fault.ensures _ c.unwrap.ensures

pub returns-then-survey-gt-MAX_H : goal.returns-then-survey-gt-MAX_H
returns-then-survey-gt-MAX_H c = hyper_refused c.args.t _ c.surveyed.ensures _ c.in-Some.is c.if-survey-gt-MAX_H.true _ c.into.ensures

pub returns-then-is_ascending : goal.returns-then-is_ascending
returns-then-is_ascending c = read_accepted c.args.t _ c.surveyed.ensures _ c.in-Some.is c.if-survey-gt-MAX_H.false
    (c.is_ascending.ensures c.if-is_ascending.true) _ c.table.ensures

pub returns : goal.returns
returns c = sorted_accepted c.args.t _ c.surveyed.ensures _ c.in-Some.is c.if-survey-gt-MAX_H.false _ c.sorted.ensures _ c.table-2.ensures
