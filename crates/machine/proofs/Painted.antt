-- Laws of a painted buffer: nothing painted, one range after another, the same bytes said in another way. The functions
-- that paint use them, and the loop that calls these.
use mathlib.Core.Path.{◌≡◌, refl, ◌∙◌}
use mathlib.Core.Logic.{inl, inr, ⊎_elim}
use mathlib.Core.List.{List}
use Prim.Native.Nat.{ℕ, ◌+◌, ◌*◌, ◌≤◌, ◌<◌}
use native.Mathlib.Omega.{arith}
use Rattle.basics.specs.Cases.{le_case}
use Rattle.machine.specs.Paint.{Painted}

-- no slot is asked for
pub painted_none : (f g : ℕ → ℕ) {a b : ℕ} (x : List ℕ) → b ≤ a → Painted f g a b x x
painted_none f g x h = record {
  size = refl;
  id = λ u low high room. absurd (omega arith);
  kind = λ u low high room. absurd (omega arith);
  stays = λ i out. refl;
}

module _ {f g : ℕ → ℕ} where
  -- slots a .. b, and then b .. c
  pub painted_join : {a b c : ℕ} {x y z : List ℕ} → a ≤ b → b ≤ c → Painted f g a b x y → Painted f g b c y z → Painted f g a c x z
  painted_join {b = b} low high p q = record {
    size = q.size ∙ p.size;
    id = λ u from to room. le_case b u
        (λ h. q.id u h to (omega (arith, p.size)))
        (λ h. q.stays (u * 2) (inl (omega arith)) ∙ p.id u from h room);
    kind = λ u from to room. le_case b u
        (λ h. q.kind u h to (omega (arith, p.size)))
        (λ h. q.stays (u * 2 + 1) (inl (omega arith)) ∙ p.kind u from h room);
    stays = λ i out. ⊎_elim
        (λ h. q.stays i (inl (omega arith)) ∙ p.stays i (inl h))
        (λ h. q.stays i (inr h) ∙ p.stays i (inr (omega arith)))
        out;
  }

  -- other functions that give the same bytes at slots a .. b
  pub painted_as : {h k : ℕ → ℕ} {a b : ℕ} {x y : List ℕ} → ((u : ℕ) → a ≤ u → u < b → f u ≡ h u) → ((u : ℕ) → a ≤ u → u < b → g u ≡ k u)
      → Painted f g a b x y → Painted h k a b x y
  painted_as same_id same_kind p = record {
    size = p.size;
    id = λ u from to room. p.id u from to room ∙ same_id u from to;
    kind = λ u from to room. p.kind u from to room ∙ same_kind u from to;
    stays = p.stays;
  }
