-- The two lists of as run, over a jump: entries are used at its first slot alone, since within it nothing is released and no
-- loading begins. For the loop, which looks at the lists once an event.
use Rattle.std.specs.Prelude.{◌≡◌, Bool, false, List, ℕ, zero, suc, ◌+◌, ◌<◌}
use Rattle.std.proofs.Math.Path.{refl, ap}
use Rattle.std.proofs.Common.{sym, ◌∙◌, add-suc, arith, eq-eqb}
use Rattle.std.proofs.Math.ListN.{drop}
use Rattle.rules.specs.Policies.{System}
use Rattle.rules.specs.Slots.{State, joins, joined, who}
use Rattle.rules.specs.AsRun.{one, before, begins, as_run, listed}
use Rattle.theory.specs.AsRun.{as_run_lem}
use Rattle.theory.specs.Jump.{now, whose, loads, Quiet, Busy, Firm}
use Rattle.theory.proofs.Jump.{firm_less, inside}

before_none : (joins : ℕ → Bool) (n : ℕ) → ((i : ℕ) → i < n → joins i ≡ false) → before joins n ≡ 0
before_none joins zero h = refl
before_none joins (suc n) h = rw (before_none joins n (λ i k. h i (omega arith)), h n (omega arith))

begins_none : (y : System) (s : State) (p : ℕ) → s.last ≡ p → begins y s p ≡ false
begins_none y s zero e = refl
begins_none y s (suc j) e = rw (eq-eqb s.last (suc j) e)

module _ (y : System) (pos : (i : ℕ) → i < y.tasks → 0 < (y.row i).period) (xs zs : List ℕ) where
  -- the requests and loadings after slot t
  pub requests_next : (t : ℕ) → (as_run y xs zs (suc t)).requests ≡ drop (before (joins y t) y.tasks) (as_run y xs zs t).requests
  unfolding as_run
  requests_next t = refl

  pub loadings_next : (t : ℕ) → (as_run y xs zs (suc t)).loadings
      ≡ drop (one (begins y (now y (listed y xs zs) t) (whose y (listed y xs zs) t))) (as_run y xs zs t).loadings
  unfolding as_run
  loadings_next t = step t ∙ ap (λ s. drop (one (begins y (joined y (listed y xs zs t) t s) (who y (listed y xs zs t) t s))) (as_run y xs zs t).loadings) (as_run_lem y xs zs t)
    where
      step : (t : ℕ) → (as_run y xs zs (suc t)).loadings
          ≡ drop (one (begins y (joined y (listed y xs zs t) t (as_run y xs zs t).state) (who y (listed y xs zs t) t (as_run y xs zs t).state))) (as_run y xs zs t).loadings
      step t = refl

  module _ (t : ℕ) where
    pub requests_stay : (k : ℕ) → Quiet y t (suc k) → (as_run y xs zs (t + suc k)).requests ≡ (as_run y xs zs (suc t)).requests
    requests_stay zero quiet = let e : t + 1 ≡ suc t = omega arith in rw e
    requests_stay (suc k) quiet = rw (add-suc t (suc k), requests_next (t + suc k), before_none (joins y (t + suc k)) y.tasks (λ i h. quiet i (t + suc k) h (omega arith) (omega arith)))
        (requests_stay k (λ i u h a b. quiet i u h a (omega arith)))

    pub loadings_stay : (k : ℕ) → Quiet y t (suc k) → Busy (now y (listed y xs zs) t) (whose y (listed y xs zs) t) (loads y (listed y xs zs) t) k
        → Firm y t (now y (listed y xs zs) t) (whose y (listed y xs zs) t) (loads y (listed y xs zs) t) k → (as_run y xs zs (t + suc k)).loadings ≡ (as_run y xs zs (suc t)).loadings
    loadings_stay zero quiet busy firm = let e : t + 1 ≡ suc t = omega arith in rw e
    loadings_stay (suc k) quiet busy firm =
        let m = inside y pos (listed y xs zs) t k quiet busy firm in
        rw (add-suc t (suc k), loadings_next (t + suc k), begins_none y (now y (listed y xs zs) (t + suc k)) (whose y (listed y xs zs) (t + suc k)) (m.2 ∙ sym m.0))
        (loadings_stay k (λ i u h a b. quiet i u h a (omega arith)) (λ j e. omega (arith, busy j e)) (firm_less y t (now y (listed y xs zs) t) (whose y (listed y xs zs) t) (loads y (listed y xs zs) t) k (suc k) (omega arith) firm))
