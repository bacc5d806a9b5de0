-- Two marks are compared by `==` of the executed slots of so many tasks: that decides whether they are equal task by task.
use Rattle.std.specs.Prelude.{◌≡◌, refl, Bool, Decides, List, [], ◌∷◌, ℕ, zero, suc, ◌≤◌, ◌<◌, eqb, get_or, take, length}
use Rattle.std.specs.Cmp.Lexicographic.{pointwise}
use Rattle.std.proofs.Common.{sym, ◌∙◌, arith, eqb-true}
use Rattle.rules.specs.declared.Executed.{Executed}
use Rattle.basics.specs.Cases.{both_true}
use Rattle.machine.specs.Machine.{nothing}
use borrow.Author.Tests.{eq-eqb}

pub heads : {E : Executed → Executed → Bool} → ((a b : Executed) → E a b ≡ eqb a.0 b.0) → (n : ℕ) (xs ys : List Executed)
    → n ≤ length xs → n ≤ length ys
    → Decides (pointwise E (take n xs) (take n ys)) ((i : ℕ) → i < n → (get_or xs i nothing).0 ≡ (get_or ys i nothing).0)
heads e zero xs ys h k = (λ t i l. absurd (omega arith), λ f. refl)
heads e (suc n) [] ys h k = absurd (omega arith)
heads e (suc n) (x ∷ xs) [] h k = absurd (omega arith)
heads {E} e (suc n) (x ∷ xs) (y ∷ ys) h k =
    let r = heads e n xs ys (omega arith) (omega arith) in (
      λ t. let b = both_true (E x y) (pointwise E (take n xs) (take n ys)) t in each_of (eqb-true x.0 y.0 (sym (e x y) ∙ b.0)) (r.0 b.1),
      λ f. rw (e x y, eq-eqb x.0 y.0 (f 0 (omega arith)), r.1 (λ i l. f (suc i) (omega arith))) refl,
    )
  where
    each_of : x.0 ≡ y.0 → ((i : ℕ) → i < n → (get_or xs i nothing).0 ≡ (get_or ys i nothing).0)
        → (i : ℕ) → i < suc n → (get_or (x ∷ xs) i nothing).0 ≡ (get_or (y ∷ ys) i nothing).0
    each_of p q zero l = p
    each_of p q (suc i) l = q i (omega arith)
