-- `report`: each turn of the loop puts one line more; the four stand at the front of the lent bytes.
use Rattle.std.proofs.Common.{◌≡◌, ◌-◌, ◌++◌, refl, ap, length, drop, arith}
use Rattle.report.proofs.Laid.{Laid, one_more, four, at_front}
use Rattle.report.proofs.report.Goals as goal

pub loop-policy-preserved : goal.loop-policy-preserved
loop-policy-preserved c = (
  one_more c.args.text.now c.loop-policy.policy (c.loop-policy.policy - 1) _ _ (omega arith) c.loop-policy.invariant.0
      (record { reply = c.verdict.result; right = c.verdict.ensures; bytes = refl }) c.put_line.ensures.line,
  omega (arith, c.put_line.ensures.upper_bound),
)

pub returns-clause-reports : goal.returns-clause-reports
returns-clause-reports c =
    let all : c.loop-policy.policy - 1 ≡ 4 = omega arith in
    let laid : Laid c.args.text.now 4 c.as_slice-bytes.result.now =
    rw (all, ← c.as_slice-bytes.ensures.value) at c.loop-policy.invariant.0 in
    record {
      short = λ h. absurd (omega arith);
      lines = λ h. (
        _,
        four c.args.text.now _ laid,
        at_front _ c.args.out.now _ (omega (arith, c.as_slice-bytes.ensures.upper_bound))
            (ap (λ l. l ++ drop (length c.as_slice-bytes.result.now) c.args.out.now) c.copy_from_slice.ensures.after),
      );
    }
