-- `same`: `heads` says what `==` of the executed slots decides.
use Rattle.std.proofs.Common.{rules, ◌≡◌, refl, sym, ◌∙◌, ◌≤◌, length}
use Rattle.basics.specs.Cases.{clash}
use Rattle.machine.proofs.Compared.{heads}
use Rattle.machine.proofs.marks.same.Goals as goal

pub returns-then-eq-clause-alike : goal.returns-then-eq-clause-alike
returns-then-eq-clause-alike c = λ t.
    let l : (c.args.here.last ≡ c.in-Some.m.last) × (c.args.here.left.0 ≡ c.in-Some.m.left.0) = search rules in
    let a : c.args.rows ≤ length c.args.here.executed = search rules in
    let b : c.args.rows ≤ length c.in-Some.m.executed = search rules in
    rw c.in-Some.is (record { executed = (heads (λ a b. refl) _ _ _ a b).0 (sym c.eq-then-eq.ensures ∙ t); last = l.0; left = l.1 })

pub returns-then-eq-clause-unlike : goal.returns-then-eq-clause-unlike
returns-then-eq-clause-unlike c = λ t e.
    let a : c.args.rows ≤ length c.args.here.executed = search rules in
    let b : c.args.rows ≤ length c.in-Some.m.executed = search rules in
    clash ((heads (λ a b. refl) _ _ _ a b).1 (rw c.in-Some.is at e).executed) (sym c.eq-then-eq.ensures ∙ t)
