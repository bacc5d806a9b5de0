-- The order of the rows changes nothing: of two sources with no refusal of their own, whose rows are permutations of each other, the
-- refusals are equal with their places, or the tasks are (`perm_alike`). For the promise on row order; no code uses it.
use Rattle.std.specs.Prelude.{◌≡◌, refl, ◌≢◌, Bool, true, false, cond, List, [], ◌∷◌, ℕ, ◌+◌, ◌<◌, ◌≤◌, eqb, ltb}
use Rattle.std.proofs.Common.{ap, ◌∙◌, arith, ne_eqb, lt-ltb, le-ltb}
use Rattle.std.proofs.Math.Path.{fun_ext}
use Rattle.rules.specs.declared.Row.{Row}
use Rattle.rules.specs.Sources.{Source}
use Rattle.rules.specs.Checks.{key, fault, better, smallest, place, found, checks, first_fault, refusal_of}
use Rattle.basics.specs.Cases.{eq_case, le_case}
use Rattle.reordering.specs.Permutations.{Perm, done, keep, swap, then, length_perm, times_perm, hyper_perm}
use Rattle.reordering.specs.Canonical.{canonical_perm}
use Rattle.reordering.specs.Passed.{passed}
use Rattle.reordering.specs.Alike.{Alike}

fault_perm : (n : ℕ) {a b : List Row} → Perm a b → (r : Row) → fault n a r ≡ fault n b r
unfolding fault
fault_perm n p r = rw (times_perm 7 (key 7 r) p, times_perm 10 (key 10 r) p)

-- the smallest id: of two rows either may come first. `best k b` is `better true` with k for the id and one

best : ℕ → ℕ → ℕ
best k b = cond (eqb b 0) k (cond (ltb k b) k b)

best_none : (k : ℕ) → best k 0 ≡ k
unfolding best
best_none k = refl

best_low : (k b : ℕ) → b ≢ 0 → k < b → best k b ≡ k
unfolding best
best_low k b n h = rw (ne_eqb b 0 n, lt-ltb k b h)

best_high : (k b : ℕ) → b ≢ 0 → b ≤ k → best k b ≡ b
unfolding best
best_high k b n h = rw (ne_eqb b 0 n, le-ltb k b h)

best_swap : (x y b : ℕ) → best (x + 1) (best (y + 1) b) ≡ best (y + 1) (best (x + 1) b)
best_swap x y b = eq_case b 0
    (λ z. rw (z, best_none (x + 1), best_none (y + 1)) (both x y))
    (λ n. le_case b (x + 1)
    (λ p. le_case b (y + 1)
    (λ q. simp (best_high (x + 1) b n p, best_high (y + 1) b n q))
    (λ q. simp (best_high (x + 1) b n p, best_low (y + 1) b n q, best_high (x + 1) (y + 1) (λ e. omega arith) (omega arith))))
    (λ p. le_case b (y + 1)
    (λ q. simp (best_low (x + 1) b n p, best_high (y + 1) b n q, best_low (x + 1) b n p, best_high (y + 1) (x + 1) (λ e. omega arith) (omega arith)))
    (λ q. simp (best_low (x + 1) b n p, best_low (y + 1) b n q) (both x y))))
  where
    both : (x y : ℕ) → best (x + 1) (y + 1) ≡ best (y + 1) (x + 1)
    both x y = le_case (y + 1) (x + 1)
        (λ p. eq_case x y (λ e. rw e) (λ e. simp (best_high (x + 1) (y + 1) (λ z. omega arith) p, best_low (y + 1) (x + 1) (λ z. omega arith) (omega arith))))
        (λ p. simp (best_low (x + 1) (y + 1) (λ z. omega arith) p, best_high (y + 1) (x + 1) (λ z. omega arith) (omega arith)))

better_swap : (u v : Bool) (x y b : ℕ) → better u x (better v y b) ≡ better v y (better u x b)
unfolding best
better_swap true true x y b = best_swap x y b
better_swap true false x y b = refl
better_swap false v x y b = refl

smallest_perm : (f : Row → Bool) {a b : List Row} → Perm a b → (m : ℕ) → smallest f m a ≡ smallest f m b
unfolding smallest
smallest_perm f done m = refl
smallest_perm f (keep {x} p) m = smallest_perm f p (better (f x) x.id m)
smallest_perm f (swap {x} {y} {a}) m = ap (λ (k : ℕ). smallest f k a) (better_swap (f y) (f x) y.id x.id m)
smallest_perm f (then p q) m = smallest_perm f p m ∙ smallest_perm f q m

place_perm : (n : ℕ) {a b : List Row} → Perm a b → place n a ≡ place n b
unfolding place
place_perm n {a} {b} p = smallest_perm (fault n a) p 0 ∙ ap (λ (f : Row → Bool). smallest f 0 b) (fun_ext (fault_perm n p))

found_perm : (n : ℕ) {a b : List Row} → Perm a b → found n a ≡ found n b
unfolding found
found_perm n p = rw (length_perm p, hyper_perm p, place_perm n p)

faults_perm : (ns : List ℕ) {a b : List Row} → Perm a b → first_fault ns a ≡ first_fault ns b
unfolding first_fault
faults_perm [] p = refl
faults_perm (n ∷ ns) p = rw (found_perm n p, faults_perm ns p)

-- the tasks of a source that is refused are not asked for, and the others have no id twice
pub perm_alike : (s t : Source) → s.refusal.number ≡ 0 → t.refusal.number ≡ 0 → Perm s.rows t.rows → Alike s t
unfolding refusal_of
perm_alike s t own its p = record {
  refusal = rw (own, its) (faults_perm checks p);
  tasks = λ fine. canonical_perm p (passed s fine).1.id_once;
}
