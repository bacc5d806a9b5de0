-- What code may keep instead of absolute times: one countdown to the next release for each task. A release is when it is at 0; the
-- newest release, and so the absolute deadline, is found from it.
use Rattle.std.specs.Prelude.{◌≡◌, true, cond, ◌&&◌, ltb, eqb}
use Rattle.std.proofs.Common.{sym, ◌∙◌, mod-eq_of_lt, eqb-true, eq-eqb, ne_eqb, lt-ltb, le-ltb, ltb-true}
use Prim.Native.Nat.{ℕ, zero, suc, ◌+◌, ◌-◌, ◌*◌, ◌/◌, ◌%◌, ◌≤◌, ◌<◌, pred}
use Rattle.std.proofs.Math.Nat.{mod_self, zero-mod, mod-le, div-add-mod, mul-mod_right}
use native.Mathlib.Omega.{arith}
use Rattle.std.proofs.lemmas.Bool.{eqb-false}
use Rattle.rules.specs.declared.Row.{Row}
use Rattle.rules.specs.Slots.{released, newest, due}
use Rattle.basics.specs.Cases.{test, le_case, clash, both_true}
use Rattle.theory.specs.Times.{mod_turn, no_rest, released_is, is_released, released_from, due_is, is_due, period_top}

-- slots until the next release; 0: it is now
unfoldable pub until : Row → ℕ → ℕ
until w zero = w.offset
until w (suc t) = cond (eqb (until w t) 0) (pred w.period) (pred (until w t))

-- it counts down to a release, and from the offset on that is within a period
pub record Counts (w : Row) (t u : ℕ) : Type 0 where
  pub before : t ≤ w.offset → t + u ≡ w.offset
  pub from : w.offset ≤ t + u
  pub meets : (t + u - w.offset) % w.period ≡ 0
  pub soon : w.offset < t → u < w.period

module _ (w : Row) (pos : 0 < w.period) where
  counts_wrap : (t : ℕ) → Counts w t 0 → Counts w (suc t) (pred w.period)
  counts_wrap t c =
      let a : suc t + pred w.period - w.offset ≡ t + 0 - w.offset + w.period = omega (arith, c.from) in
      record {
        before = λ e. absurd (omega (arith, c.before (omega arith)));
        from = omega (arith, c.from);
        meets = rw a (mod_turn (t + 0 - w.offset) w.period w.period (mod_self w.period) ∙ c.meets);
        soon = λ e. omega arith;
      }

  counts_down : (t u : ℕ) → 0 < u → Counts w t u → Counts w (suc t) (pred u)
  counts_down t u k c =
      let a : suc t + pred u ≡ t + u = omega arith in
      record {
        before = λ e. omega (arith, c.before (omega arith));
        from = omega (arith, c.from);
        meets = rw a c.meets;
        soon = λ e. le_case t w.offset (λ q. absurd (omega (arith, c.before q))) (λ q. omega (arith, c.soon q));
      }

  counts_next : (t u : ℕ) → Counts w t u → Counts w (suc t) (cond (eqb u 0) (pred w.period) (pred u))
  counts_next t u c = test (eqb u 0)
      (λ e. rw e (counts_wrap t (rw (eqb-true u 0 e) at c)))
      (λ e. let k = eqb-false u 0 e in rw e (counts_down t u (omega arith) c))

  pub counts : (t : ℕ) → Counts w t (until w t)
  unfolding until
  counts zero =
      let a : 0 + w.offset - w.offset ≡ 0 = omega arith in
      record { before = λ e. omega arith; from = omega arith; meets = rw a (zero-mod w.period); soon = λ e. absurd (omega arith) }
  counts (suc t) = counts_next t (until w t) (counts t)

  -- a release is when it is at 0
  pub released_until : (t : ℕ) → released w t ≡ eqb (until w t) 0
  released_until t = test (released w t) (λ e. e ∙ sym (eq-eqb (until w t) 0 (down e))) (λ e. e ∙ sym (ne_eqb (until w t) 0 (λ q. clash (up q) e)))
    where
      c : Counts w t (until w t)
      c = counts t

      down : released w t ≡ true → until w t ≡ 0
      down e =
          let k = released_is w t e in
          let a : until w t + (t - w.offset) ≡ t + until w t - w.offset = omega (arith, k.0) in
          le_case t w.offset (λ q. omega (arith, c.before q, k.0)) (λ q. no_rest (t - w.offset) (until w t) w.period k.1 (rw a c.meets) (c.soon q))

      up : until w t ≡ 0 → released w t ≡ true
      up q =
          let a : t + until w t ≡ t = omega arith in
          is_released w t (omega (arith, c.from)) (rw a at c.meets)

-- the newest release is a release, and the only one within a period before
pub newest_released : (w : Row) (t : ℕ) → w.offset ≤ t → released w (newest w t) ≡ true
unfolding newest
newest_released w t h =
    let d = t - w.offset in
    let a : t - d % w.period - w.offset ≡ w.period * (d / w.period) = omega (arith, div-add-mod d w.period) in
    is_released w (t - d % w.period) (omega (arith, mod-le d w.period)) (rw a (mul-mod_right w.period (d / w.period)))

pub newest_only : (w : Row) (r t : ℕ) → released w r ≡ true → r ≤ t → t < r + w.period → newest w t ≡ r
unfolding newest
newest_only w r t e a b =
    let k = released_is w r e in
    let c : t - w.offset ≡ t - r + (r - w.offset) = omega (arith, k.0) in
    let m : (t - w.offset) % w.period ≡ t - r = rw c (mod_turn (t - r) (r - w.offset) w.period k.1 ∙ mod-eq_of_lt (omega arith)) in
    rw m (omega arith)

-- the job that has its deadline at a time is the newest released before it: the one that a state tells of
pub due_newest : (w : Row) → 0 < w.deadline → w.deadline ≤ w.period → (u : ℕ) → due w (suc u) ≡ true → newest w u + w.deadline ≡ suc u
due_newest w some short u e =
    let k = due_is w (suc u) e in
    omega (arith, k.0, newest_only w (suc u - w.deadline) u k.1 (omega (arith, k.0)) (omega (arith, k.0)))

module _ (w : Row) (pos : 0 < w.period) where
  -- the next release is a period after the newest; so keys by absolute deadline compare as countdowns do
  pub newest_until : (t : ℕ) → w.offset ≤ t → newest w t + w.period ≡ suc t + until w (suc t)
  newest_until t h = omega (arith, newest_only w (x - w.period) t back (omega (arith, soon)) (omega arith), far)
    where
      x : ℕ
      x = suc t + until w (suc t)

      soon : until w (suc t) < w.period
      soon = (counts w pos (suc t)).soon (omega arith)

      far : w.offset + w.period ≤ x
      far = omega (arith, period_top (x - w.offset) w.period (counts w pos (suc t)).meets (omega arith))

      back : released w (x - w.period) ≡ true
      back =
          let a : x - w.offset ≡ x - w.period - w.offset + w.period = omega (arith, far) in
          is_released w (x - w.period) (omega (arith, far))
          (sym (mod_turn (x - w.period - w.offset) w.period w.period (mod_self w.period)) ∙ rw a at (counts w pos (suc t)).meets)

  -- a deadline is when what is left until the next release is the period's excess over the deadline
  module _ (some : 0 < w.deadline) (short : w.deadline ≤ w.period) where
    due_then : (u : ℕ) → due w (suc u) ≡ true → (w.offset < suc u) × (until w (suc u) + w.deadline ≡ w.period)
    due_then u e =
        let k = due_is w (suc u) e in
        let f = released_from w (suc u - w.deadline) k.1 in
        let n = newest_only w (suc u - w.deadline) u k.1 (omega (arith, k.0)) (omega (arith, k.0)) in
        (omega (arith, f), omega (arith, k.0, n, newest_until u (omega (arith, f))))

    then_due : (u : ℕ) → w.offset < suc u → until w (suc u) + w.deadline ≡ w.period → due w (suc u) ≡ true
    then_due u a b =
        let n = newest_until u (omega arith) in
        let c : newest w u ≡ suc u - w.deadline = omega arith in
        is_due w (suc u) (omega arith) (rw c at (newest_released w u (omega arith)))

    pub due_until : (t : ℕ) → due w t ≡ (ltb w.offset t && eqb (until w t + w.deadline) w.period)
    due_until zero = test (due w 0) (λ e. absurd (omega (arith, (due_is w 0 e).0))) (λ e. rw (e, le-ltb w.offset 0 (omega arith)))
    due_until (suc u) = test (due w (suc u))
        (λ e. let k = due_then u e in rw (e, lt-ltb w.offset (suc u) k.0, eq-eqb (until w (suc u) + w.deadline) w.period k.1))
        (λ e. test (ltb w.offset (suc u) && eqb (until w (suc u) + w.deadline) w.period)
        (λ f. let k = both_true (ltb w.offset (suc u)) (eqb (until w (suc u) + w.deadline) w.period) f in
        clash (then_due u (ltb-true w.offset (suc u) k.0) (eqb-true (until w (suc u) + w.deadline) w.period k.1)) e)
        (λ f. e ∙ sym f))
