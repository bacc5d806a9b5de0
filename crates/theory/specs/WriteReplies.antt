-- Two replies of a call that writes bytes, which meet the contract, are equal, with the bytes that they leave.
use Rattle.std.specs.Prelude.{◌≡◌, List, ℕ, Result}
use Rattle.std.proofs.Common.{sym, ◌∙◌}
use Rattle.rules.specs.declared.Refusal.{Refusal}
use Rattle.rules.specs.Written.{Puts}
use Rattle.basics.specs.Cases.{eq_case}

pub puts_one : (f : Refusal) (n : ℕ) (bytes before x z : List ℕ) (r q : Result ℕ Refusal)
    → Puts f n bytes before x r → Puts f n bytes before z q → (r ≡ q) × (x ≡ z)
puts_one f n bytes before x z r q u v = eq_case f.number 0
    (λ e. let a = u.written e in let b = v.written e in (a.0 ∙ sym b.0, a.1 ∙ sym b.1))
    (λ e. let a = u.refused e in let b = v.refused e in (a.0 ∙ sym b.0, a.1 ∙ sym b.1))
