-- `table::hyper::divisor` finds the greatest common divisor by remainders, which fall.
use Rattle.table.proofs.Multiples.{Dividing}
use Rattle.table.proofs.hyper.divisor.Given as goal

abbrev pub invariant-loop-b : goal.invariant-loop-b
invariant-loop-b l = Dividing l.h l.p l.a l.b

-- a remainder is below what divides
abbrev pub decreases-loop-b : goal.decreases-loop-b
decreases-loop-b l = l.b
