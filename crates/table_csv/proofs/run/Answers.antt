-- `table_csv::run` stops at the first byte that is no digit, or at the end.
use Rattle.std.proofs.Common.{sym, arith}
use Rattle.table_csv.proofs.Fields.{digits_none, digits_more, digits_end}
use Rattle.table_csv.proofs.run.Goals as goal

pub returns-then-not-is_ascii_digit : goal.returns-then-not-is_ascii_digit
returns-then-not-is_ascii_digit c =
    omega (arith, digits_none _ _ c.loop-i-test.true (sym c.if-not-is_ascii_digit.ensures.value), c.loop-i.invariant)

pub loop-i-preserved : goal.loop-i-preserved
loop-i-preserved c = omega (arith, digits_more _ _ c.loop-i-test.true (sym c.if-not-is_ascii_digit.ensures.value), c.loop-i.invariant)

pub returns : goal.returns
returns c = omega (arith, digits_end c.args.text.now _ c.loop-i-test.false, c.loop-i.invariant)
