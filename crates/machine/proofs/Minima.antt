-- Laws about the least of an array: one place more, a place that is filled, a place that is emptied.
use mathlib.Core.Path.{◌≡◌, refl, sym, ◌∙◌}
use mathlib.Core.Logic.{◌⊎◌, inl, inr, ◌≢◌}
use mathlib.Core.List.{List}
use Prim.Native.Nat.{ℕ, suc, ◌*◌, ◌/◌, ◌≤◌, ◌<◌, min}
use native.Mathlib.Omega.{arith}
use lib.ListN.{get_or, length, set, take}
use lib.Seq.{get_or-set_same, get_or-set_other, get_or-take, length-take-le}
use Rattle.basics.specs.Cases.{le_case, eq_case, upto}
use Rattle.slots.specs.Jobs.{never}
use Rattle.machine.specs.Least.{Least, Places, LeastOf}

-- one place more
pub least_more : (n : ℕ) (l : List ℕ) (m : ℕ) → Least n l m → Least (suc n) l (min m (get_or l n never))
least_more n l m h = le_case m (get_or l n never)
    (λ e. let q : min m (get_or l n never) ≡ m = omega arith in
    rw q (record { low = upto (λ i. m ≤ get_or l i never) n h.low e; top = h.top; hit = wider h.hit }))
    (λ e. let q : min m (get_or l n never) ≡ get_or l n never = omega arith in
    rw q (record {
      low = upto (λ i. get_or l n never ≤ get_or l i never) n (λ i k. omega (arith, h.low i k)) (omega arith);
      top = omega (arith, h.top);
      hit = inr (n, omega arith, refl);
    }))
  where
    wider : (m ≡ never) ⊎ ((i : ℕ) × (i < n) × (get_or l i never ≡ m)) → (m ≡ never) ⊎ ((i : ℕ) × (i < suc n) × (get_or l i never ≡ m))
    wider (inl e) = inl e
    wider (inr k) = inr (k.0, omega (arith, k.1), k.2)

-- the blocks of four that hold n rows; the places from n on are empty
pub least_part : (n k : ℕ) (l : List ℕ) (m : ℕ) → Places n k → length l ≡ 16 → ((i : ℕ) → n ≤ i → get_or l i never ≡ never)
    → LeastOf (take k l) m → Least n l m
least_part n k l m e full rest h = record {
  low = λ i b. rw (get_or-take k l i never (omega (arith, e))) at (h.low i (omega (arith, whole, e)));
  top = h.top;
  hit = go h.hit;
}
  where
    whole : length (take k l) / 4 * 4 ≡ k
    whole = rw (length-take-le k l (omega (arith, e, full))) (sym e.2)

    go : (m ≡ never) ⊎ ((i : ℕ) × (i < length (take k l) / 4 * 4) × (get_or (take k l) i never ≡ m))
        → (m ≡ never) ⊎ ((i : ℕ) × (i < n) × (get_or l i never ≡ m))
    go (inl q) = inl q
    go (inr x) =
        let r : get_or l x.0 never ≡ m = sym (get_or-take k l x.0 never (omega (arith, x.1, whole))) ∙ x.2 in
        le_case n x.0 (λ g. inl (sym r ∙ rest x.0 g)) (λ g. inr (x.0, g, r))

-- an empty place stays so where one is emptied
pub stays_empty : (l : List ℕ) (i k : ℕ) → i < length l → get_or l k never ≡ never → get_or (set l i never) k never ≡ never
stays_empty l i k inside e = eq_case k i (λ g. rw g (get_or-set_same l i never never inside)) (λ g. get_or-set_other l i k never never g ∙ e)

module _ (n : ℕ) (l : List ℕ) (m i : ℕ) (inside : i < length l) (h : Least n l m) where
  -- a place that was empty holds x
  pub least_put : (x : ℕ) → i < n → get_or l i never ≡ never → Least n (set l i x) (min m x)
  least_put x below empty = le_case m x
      (λ e. let q : min m x ≡ m = omega arith in rw q (record {
        low = λ k b. eq_case k i
            (λ g. rw (g, get_or-set_same l i x never inside) e)
            (λ g. rw (get_or-set_other l i k x never g) (h.low k b));
        top = h.top;
        hit = go h.hit;
      }))
      (λ e. let q : min m x ≡ x = omega arith in rw q (record {
        low = λ k b. eq_case k i
            (λ g. rw (g, get_or-set_same l i x never inside) (omega arith))
            (λ g. rw (get_or-set_other l i k x never g) (omega (arith, h.low k b)));
        top = omega (arith, h.top);
        hit = inr (i, below, get_or-set_same l i x never inside);
      }))
    where
      go : (m ≡ never) ⊎ ((k : ℕ) × (k < n) × (get_or l k never ≡ m)) → (m ≡ never) ⊎ ((k : ℕ) × (k < n) × (get_or (set l i x) k never ≡ m))
      go (inl q) = inl q
      go (inr y) = eq_case y.0 i
          (λ g. inl (sym (rw g at y.2) ∙ empty))
          (λ g. inr (y.0, y.1, get_or-set_other l i y.0 x never g ∙ y.2))

  -- a place that did not hold the least is emptied
  pub least_drop : get_or l i never ≢ m → Least n (set l i never) m
  least_drop apart = record {
    low = λ k b. eq_case k i
        (λ g. rw (g, get_or-set_same l i never never inside) h.top)
        (λ g. rw (get_or-set_other l i k never never g) (h.low k b));
    top = h.top;
    hit = go h.hit;
  }
    where
      go : (m ≡ never) ⊎ ((k : ℕ) × (k < n) × (get_or l k never ≡ m)) → (m ≡ never) ⊎ ((k : ℕ) × (k < n) × (get_or (set l i never) k never ≡ m))
      go (inl q) = inl q
      go (inr y) = eq_case y.0 i
          (λ g. absurd (apart (rw g at y.2)))
          (λ g. inr (y.0, y.1, get_or-set_other l i y.0 never never g ∙ y.2))
