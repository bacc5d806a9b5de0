-- It always decides: exactly one number is that of the slots needed; the twin computes it; within the limits it is at most 2^48. The
-- weight of the first state bounds the least k at which two states are equal, and a miss, if there is one, comes before the horizon
-- Omax + (k+1) × H. Nothing assumes that one or two hyper-periods suffice: they do not.
use Rattle.std.specs.Prelude.{◌≡◌, refl, ◌≢◌, true, false, ◌&&◌, eqb}
use Rattle.std.proofs.Common.{sym, ap, ◌∙◌, arith, eqb-true, eq-eqb}
use Rattle.std.proofs.Math.Logic.{inl, inr}
use Prim.Native.Nat.{ℕ, zero, suc, ◌+◌, ◌*◌, ◌^◌, ◌≤◌, ◌<◌}
use Rattle.std.proofs.Math.Nat.{mul-le-mul}
use Rattle.std.proofs.lemmas.Bool.{eqb-false, not-true, not-false}
use Rattle.rules.specs.Policies.{System}
use Rattle.rules.specs.Slots.{State, Choice, schedule, stated}
use Rattle.rules.specs.Decided.{Same, missed_at, EarliestMiss, Equal, Settles, SlotsNeeded}
use Rattle.rules.specs.Verdicts.{plain}
use Rattle.basics.specs.Cases.{le_case, eq_case, clash, both_true, upto}
use Rattle.basics.specs.Search.{lowest_below, lowest_holds, lowest_top, lowest_falls}
use Rattle.theory.specs.Times.{Free, Quick, Short, Turn}
use Rattle.theory.proofs.Runs.{full}
use Rattle.theory.proofs.Repetition.{never_missed}
use Rattle.theory.specs.Falls.{weight}
use Rattle.theory.proofs.Falls.{sane, weight_top, falls}
use Rattle.theory.specs.Twin.{executedb, sameb, equalb, missb, settled, slots}
use Rattle.theory.specs.Decides.{Within}

-- the tests say what they should
executedb_is : (n : ℕ) (a b : State) → executedb n a b ≡ true → (i : ℕ) → i < n → a.executed i ≡ b.executed i
executedb_is zero a b h = λ i k. absurd (omega arith)
executedb_is (suc n) a b h = let k = both_true _ _ h in upto (λ i. a.executed i ≡ b.executed i) n (executedb_is n a b k.1) (eqb-true _ _ k.0)

is_executedb : (n : ℕ) (a b : State) → ((i : ℕ) → i < n → a.executed i ≡ b.executed i) → executedb n a b ≡ true
is_executedb zero a b h = refl
is_executedb (suc n) a b h = rw (eq-eqb (a.executed n) (b.executed n) (h n (omega arith)), is_executedb n a b (λ i k. h i (omega arith)))

sameb_is : (n : ℕ) (a b : State) → sameb n a b ≡ true → Same n a b
sameb_is n a b h =
    let k = both_true (eqb a.last b.last) (eqb a.left b.left && executedb n a b) h in
    let m = both_true (eqb a.left b.left) (executedb n a b) k.1 in
    record { executed = executedb_is n a b m.1; last = eqb-true _ _ k.0; left = eqb-true _ _ m.0 }

is_sameb : (n : ℕ) (a b : State) → Same n a b → sameb n a b ≡ true
is_sameb n a b m = rw (eq-eqb a.last b.last m.last, eq-eqb a.left b.left m.left, is_executedb n a b m.executed)

module _ (y : System) (o h : ℕ) where
  pub equalb_is : (k : ℕ) → equalb y o h k ≡ true → Equal y o h k
  unfolding equalb
  equalb_is k = sameb_is y.tasks (schedule y (o + k * h)) (schedule y (o + suc k * h))

  pub equalb_not : (k : ℕ) → equalb y o h k ≡ false → Equal y o h k → ⊥
  unfolding equalb
  equalb_not k e m = clash (is_sameb y.tasks (schedule y (o + k * h)) (schedule y (o + suc k * h)) m) e

pub missb_is : (y : System) (t : ℕ) → missb y t ≡ true → missed_at y (stated y) t ≢ 0
unfolding missb
missb_is y t e = eqb-false (missed_at y (stated y) t) 0 (not-true _ e)

pub missb_not : (y : System) (t : ℕ) → missb y t ≡ false → missed_at y (stated y) t ≡ 0
unfolding missb
missb_not y t e = eqb-true (missed_at y (stated y) t) 0 (not-false _ e)

-- AT MOST ONE
module _ (y : System) where
  pub miss_one : (c : ℕ → Choice) (n m : ℕ) → EarliestMiss y c n → EarliestMiss y c m → n ≡ m
  miss_one c n m a b = le_case n m
      (λ e. eq_case n m (λ q. q) (λ q. absurd (a.misses (b.before n (omega arith)))))
      (λ e. absurd (b.misses (a.before m e)))

  pub settles_one : (o h : ℕ) (cap : ℕ → ℕ) (n m : ℕ) → Settles y o h cap n → Settles y o h cap m → n ≡ m
  settles_one o h cap n m a b = a.number ∙ ap (λ k. cap (o + suc k * h)) same ∙ sym b.number
    where
      same : a.k ≡ b.k
      same = le_case a.k b.k
          (λ e. eq_case a.k b.k (λ q. q) (λ q. absurd (b.least a.k (omega arith) a.equal)))
          (λ e. absurd (a.least b.k e b.equal))

  pub slots_one : (o h : ℕ) (cap : ℕ → ℕ) (n m : ℕ) → SlotsNeeded y o h cap n → SlotsNeeded y o h cap m → n ≡ m
  slots_one o h cap n m (inl a) (inl b) = miss_one (stated y) n m a b
  slots_one o h cap n m (inl a) (inr b) = absurd (a.misses (b.never n))
  slots_one o h cap n m (inr a) (inl b) = absurd (b.misses (a.never m))
  slots_one o h cap n m (inr a) (inr b) = settles_one o h cap n m a b

-- ONE, AND IT COMPUTES
module _ (y : System) (free : Free y) (quick : Quick y) (short : Short y) (o h : ℕ) (turn : Turn y h) (l : Within y o h) where
  next : (k : ℕ) → o + suc k * h ≡ o + k * h + h
  next k = omega arith

  heavy : ℕ → ℕ
  heavy k = weight y.tasks (schedule y (o + k * h))

  lighter : (k : ℕ) → equalb y o h k ≡ false → heavy (suc k) < heavy k
  unfolding heavy
  lighter k e = rw (next k) (falls y free quick h turn l.starts (o + k * h) (λ m. equalb_not y o h k e (rw (next k) m)))

  heavy_first : heavy 0 ≤ 1600330001
  unfolding heavy
  heavy_first = omega (arith, weight_top y.tasks (schedule y (o + 0 * h)) (λ i. omega (arith, (sane y (stated y) (o + 0 * h)).within i, full y (o + 0 * h) i, l.wcets i)), l.tasks)

  pub settled_top : settled y o h ≤ 1600330001
  unfolding settled
  settled_top = omega (arith, lowest_falls (equalb y o h) heavy lighter (2 ^ 48) (omega (arith, heavy_first)), heavy_first)

  settled_true : equalb y o h (settled y o h) ≡ true
  unfolding settled
  settled_true = lowest_holds (equalb y o h) (2 ^ 48) (omega (arith, settled_top))

  settled_first : (i : ℕ) → i < settled y o h → equalb y o h i ≡ false
  unfolding settled
  settled_first = lowest_below (equalb y o h) (2 ^ 48)

  pub settles : Equal y o h (settled y o h) × ((i : ℕ) → i < settled y o h → Equal y o h i → ⊥)
  settles = (equalb_is y o h (settled y o h) settled_true, λ i k. equalb_not y o h i (settled_first i k))

  -- nothing is missed before `slots`; if that is the whole horizon, nothing is ever missed
  horizon : ℕ
  horizon = o + suc (settled y o h) * h

  slots_top : slots y o h ≤ horizon
  unfolding slots horizon
  slots_top = lowest_top (missb y) (o + suc (settled y o h) * h)

  slots_first : (t : ℕ) → t < slots y o h → missed_at y (stated y) t ≡ 0
  unfolding slots
  slots_first t k = missb_not y t (lowest_below (missb y) (o + suc (settled y o h) * h) t k)

  slots_miss : slots y o h < horizon → missed_at y (stated y) (slots y o h) ≢ 0
  unfolding slots horizon
  slots_miss k = missb_is y _ (lowest_holds (missb y) (o + suc (settled y o h) * h) k)

  slots_none : horizon ≤ slots y o h → (t : ℕ) → missed_at y (stated y) t ≡ 0
  unfolding horizon
  slots_none k = never_missed y short h turn l.some (o + settled y o h * h) (λ i. omega (arith, l.offsets i)) (rw (next (settled y o h)) at settles.0)
      (λ v e. slots_first v (omega (arith, next (settled y o h))))

  pub slots_are : SlotsNeeded y o h plain (slots y o h)
  unfolding horizon
  slots_are = le_case horizon (slots y o h)
      (λ e. inr (record { never = slots_none e; k = settled y o h; equal = settles.0; least = settles.1; number = omega (arith, slots_top) }))
      (λ e. inl (record { misses = slots_miss e; before = slots_first }))

  pub slots_limit : slots y o h ≤ 2 ^ 48
  unfolding horizon
  slots_limit =
      let most : suc (settled y o h) * h ≤ 1600330002 * 100000 = mul-le-mul {n₂ = 1600330002} (omega (arith, settled_top)) l.hyper in
      omega (arith, slots_top, most, l.omax)
