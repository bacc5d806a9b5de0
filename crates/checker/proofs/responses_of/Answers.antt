-- `responses_of`: where it is accepted, the worst responses stand in the lent numbers.
use Rattle.std.proofs.Common.{rules, ◌≡◌, ◌≤◌, ap, ◌++◌, drop, length}
use Rattle.checker.proofs.Replied.{decided, accepted_leaves}
use Rattle.checker.proofs.responses_of.Goals as goal

pub returns-in-Accepted : goal.returns-in-Accepted
returns-in-Accepted g c =
    let passes = rw (c.in-Ok.is, c.too_few.ensures) at c.checked.ensures in
    let sixteen : length c.decide-o.result.worst ≡ 16 = search rules in
    let few : c.in-Ok.t.count ≤ 16 = search rules in
    let room : c.in-Ok.t.count ≤ length c.args.numbers.now = search rules in
    let front = ap (λ l. l ++ drop c.in-Ok.t.count c.args.numbers.now) c.copy_from_slice.ensures.after in
    record {
      reply = decided passes c.decide-o.ensures;
      buffer = accepted_leaves passes c.decide-o.ensures _ room sixteen few c.in-Accepted.is front;
    }
