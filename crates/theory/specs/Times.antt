-- Releases, newest releases and deadlines repeat with a number of slots that every period divides. All arithmetic of remainders
-- comes from two lemmas, `mod_turn` and `no_rest`. And the hypotheses that the other files ask of a table.
use Rattle.std.specs.Prelude.{◌≡◌, ◌↔◌, true, false, ℕ, zero, suc, ◌+◌, ◌-◌, ◌*◌, ◌/◌, ◌%◌, ◌≤◌, ◌<◌, leb, eqb}
use Rattle.std.proofs.Common.{sym, ◌∙◌, add-zero, mod-eq_of_lt, div-add-mod'}
use Rattle.std.proofs.Math.Nat.{add-mod, mod-mod, mod-le, zero-mod, sub_self, mul-mod_left}
use native.Mathlib.Omega.{arith}
use borrow.Author.Tests.{leb-true, eqb-true, le-leb}
use Rattle.rules.specs.declared.Row.{Row}
use Rattle.rules.specs.Policies.{System}
use Rattle.rules.specs.Slots.{released, newest, due, delay}
use Rattle.basics.specs.Cases.{test, le_case, both_true}

pub mod_turn : (x h p : ℕ) → h % p ≡ 0 → (x + h) % p ≡ x % p
mod_turn x h p e = add-mod x h p ∙ (rw (e, add-zero (x % p)) (mod-mod x p))

-- between two multiples of p that differ lies at least p
pub no_rest : (x z p : ℕ) → x % p ≡ 0 → (z + x) % p ≡ 0 → z < p → z ≡ 0
no_rest x z p e f k = sym (mod-eq_of_lt k) ∙ sym (mod_turn z x p e) ∙ f

pub period_top : (h p : ℕ) → h % p ≡ 0 → 0 < h → p ≤ h
period_top h p e k = le_case p h (λ q. q) (λ q. let z : h % p ≡ h = mod-eq_of_lt q in absurd (omega arith))

module _ (w : Row) (h : ℕ) (e : h % w.period ≡ 0) (t : ℕ) where
  since : w.offset ≤ t → (t + h - w.offset) % w.period ≡ (t - w.offset) % w.period
  since g = let k : t + h - w.offset ≡ (t - w.offset) + h = omega arith in rw k (mod_turn (t - w.offset) h w.period e)

  pub released_again : w.offset ≤ t → released w (t + h) ≡ released w t
  unfolding released
  released_again g = rw (since g, le-leb w.offset t g, le-leb w.offset (t + h) (omega arith))

  pub newest_again : w.offset ≤ t → newest w (t + h) ≡ newest w t + h
  unfolding newest
  newest_again g = rw (since g) (omega (arith, mod-le (t - w.offset) w.period))

-- what the tests say
pub released_is : (w : Row) (t : ℕ) → released w t ≡ true → (w.offset ≤ t) × ((t - w.offset) % w.period ≡ 0)
unfolding released
released_is w t h = let k = both_true (leb w.offset t) (eqb ((t - w.offset) % w.period) 0) h in (leb-true _ _ k.0, eqb-true _ _ k.1)

pub is_released : (w : Row) (t : ℕ) → w.offset ≤ t → (t - w.offset) % w.period ≡ 0 → released w t ≡ true
unfolding released
is_released w t h e = rw (le-leb w.offset t h, e)

-- "Job k (1, 2, ..) of a task is released at offset + (k−1) × period", and at no other time
pub job_released : (w : Row) (k : ℕ) → released w (w.offset + k * w.period) ≡ true
job_released w k =
    let e : w.offset + k * w.period - w.offset ≡ k * w.period = omega arith in
    is_released w (w.offset + k * w.period) (omega arith) (rw e (mul-mod_left k w.period))

pub released_job : (w : Row) (t : ℕ) → released w t ≡ true → t ≡ w.offset + (t - w.offset) / w.period * w.period
released_job w t e = let k = released_is w t e in omega (arith, k.0, k.1, div-add-mod' (t - w.offset) w.period)

pub released_from : (w : Row) (t : ℕ) → released w t ≡ true → w.offset ≤ t
released_from w t h = (released_is w t h).0

pub released_first : (w : Row) → released w w.offset ≡ true
unfolding released
released_first w = rw (le-leb w.offset w.offset (omega arith), sub_self w.offset, zero-mod w.period)

-- after a release there is none for a period
pub released_alone : (w : Row) (u x : ℕ) → released w u ≡ true → u < x → x < u + w.period → released w x ≡ false
released_alone w u x e a b = test (released w x) (λ f. absurd (none (released_is w u e) (released_is w x f))) (λ f. f)
  where
    none : (w.offset ≤ u) × ((u - w.offset) % w.period ≡ 0) → (w.offset ≤ x) × ((x - w.offset) % w.period ≡ 0) → ⊥
    none k l =
        let c : x - u + (u - w.offset) ≡ x - w.offset = omega arith in
        let z = no_rest _ (x - u) w.period k.1 (rw c l.1) (omega arith) in
        omega arith

-- a release within a period before t + h has a cousin, if there was a release before t
pub released_before : (w : Row) (h : ℕ) → h % w.period ≡ 0 → (t v : ℕ) → w.offset < t → released w v ≡ true → t + h ≤ v + w.period → w.offset + h ≤ v
released_before w h e t v a f b = le_case (w.offset + h) v (λ k. k) (λ k. absurd (none k (released_is w v f)))
  where
    none : v < w.offset + h → (w.offset ≤ v) × ((v - w.offset) % w.period ≡ 0) → ⊥
    none k l =
        let c : w.offset + h - v + (v - w.offset) ≡ h = omega arith in
        let z = no_rest _ (w.offset + h - v) w.period l.1 (rw c e) (omega arith) in
        omega arith

pub due_is : (w : Row) (t : ℕ) → due w t ≡ true → (w.deadline ≤ t) × (released w (t - w.deadline) ≡ true)
unfolding due
due_is w t h = let k = both_true (leb w.deadline t) (released w (t - w.deadline)) h in (leb-true _ _ k.0, k.1)

pub is_due : (w : Row) (t : ℕ) → w.deadline ≤ t → released w (t - w.deadline) ≡ true → due w t ≡ true
unfolding due
is_due w t h e = rw (le-leb w.deadline t h, e)

pub due_from : (w : Row) (t : ℕ) → due w t ≡ true → w.deadline + w.offset ≤ t
due_from w t h = let k = due_is w t h in omega (arith, k.0, released_from w (t - w.deadline) k.1)

-- deadlines repeat from the first release on, where none is beyond the period
module _ (w : Row) (h : ℕ) (e : h % w.period ≡ 0) (t : ℕ) where
  pub due_later : w.deadline + w.offset ≤ t → due w (t + h) ≡ due w t
  unfolding due
  due_later k =
      let a : t + h - w.deadline ≡ (t - w.deadline) + h = omega arith in
      rw (a, released_again w h e (t - w.deadline) (omega arith), le-leb w.deadline t (omega arith), le-leb w.deadline (t + h) (omega arith))

  -- a deadline at t + h is that of a job with a cousin h slots earlier: else h would leave a rest
  reaches : w.deadline ≤ w.period → w.offset < t → due w (t + h) ≡ true → w.deadline + w.offset ≤ t
  reaches short from r = le_case (w.deadline + w.offset) t (λ k. k) (λ k. absurd (none k))
    where
      none : t < w.deadline + w.offset → ⊥
      none k =
          let a = due_is w (t + h) r in
          let b = released_is w (t + h - w.deadline) a.1 in
          let c : w.deadline + w.offset - t + (t + h - w.deadline - w.offset) ≡ h = omega (arith, a.0, b.0) in
          let z = no_rest _ (w.deadline + w.offset - t) w.period b.1 (rw c e) (omega arith) in
          omega arith

  pub due_again : w.deadline ≤ w.period → w.offset < t → due w (t + h) ≡ due w t
  due_again short from = test (due w (t + h)) (λ r. due_later (reaches short from r)) (λ r. test (due w t) (λ q. due_later (due_from w t q)) (λ q. r ∙ sym q))

-- WHAT THE LAWS ASK of a table, and of a number of slots with which it repeats. Domination alone uses `Quick` and `Free`

-- a job may be preempted at any slot
abbrev pub Free : System → Type 0
Free y = (i m : ℕ) → y.held i m ≡ false

abbrev pub Quick : System → Type 0
Quick y = (i : ℕ) → (y.row i).resume ≤ (y.row i).start

abbrev pub Short : System → Type 0
Short y = (i : ℕ) → (y.row i).deadline ≤ (y.row i).period

pub record Turn (y : System) (h : ℕ) : Type 0 where
  pub whole : (i : ℕ) → h % (y.row i).period ≡ 0
  pub again : (i j r s : ℕ) → (y.key i r ≤ y.key j s) ↔ (y.key i (r + h) ≤ y.key j (s + h))

pub no_turn : (y : System) → Turn y 0
no_turn y = record { whole = λ i. zero-mod (y.row i).period; again = λ i j r s. rw (add-zero r, add-zero s) (λ e. e, λ e. e) }

pub delay_anti : (w : Row) → w.resume ≤ w.start → (m n : ℕ) → m ≤ n → delay w n ≤ delay w m
delay_anti w h zero zero k = omega arith
delay_anti w h zero (suc n) k = h
delay_anti w h (suc m) zero k = absurd (omega arith)
delay_anti w h (suc m) (suc n) k = omega arith
