-- Responses of the unbounded schedule: where the states at t and t + h are equal, the largest response over all jobs is that of a job
-- released before t + h, and of one complete by then. A job past the horizon takes as long as its cousin one turn earlier; one that
-- the horizon cuts has a cousin, one turn earlier, that takes as long.
use Rattle.std.specs.Prelude.{◌≡◌, refl, true, false}
use Rattle.std.proofs.Common.{sym, ◌∙◌, true≢false, add-zero, add-suc}
use Rattle.std.proofs.Math.Path.{ap}
use Prim.Native.Nat.{ℕ, zero, suc, ◌+◌, ◌-◌, ◌≤◌, ◌<◌}
use native.Mathlib.Omega.{arith}
use Rattle.rules.specs.Policies.{System}
use Rattle.rules.specs.Slots.{Choice, complete, released, run, stated, schedule}
use Rattle.rules.specs.Decided.{Same}
use Rattle.rules.specs.Verdicts.{response, Worst}
use Rattle.basics.specs.Cases.{le_case, clash}
use Rattle.basics.specs.Search.{lowest_below, lowest_holds, lowest_top, lowest_same, most_top, most_at}
use Rattle.theory.specs.Times.{Short, Turn, released_again, released_first, released_alone, released_before, period_top}
use Rattle.theory.proofs.Runs.{unreleased, keeps, full}
use Rattle.theory.proofs.Repetition.{done_same, same_on}
use Rattle.theory.specs.Responses.{stays, worst}

pub response_some : (y : System) (c : ℕ → Choice) (i r : ℕ) → 0 < response y c i r
unfolding response
response_some y c i r = omega arith

-- it takes that long
pub response_open : (y : System) (c : ℕ → Choice) (i r d : ℕ) → suc d < response y c i r → complete (run y c (r + suc d)) i ≡ false
unfolding response
response_open y c i r d k = lowest_below (λ e. complete (run y c (r + suc e)) i) (y.row i).period d (omega arith)

-- and no longer
pub response_done : (y : System) (c : ℕ → Choice) (i r : ℕ) → response y c i r ≤ (y.row i).period → complete (run y c (r + response y c i r)) i ≡ true
unfolding response
response_done y c i r k = lowest_holds (λ e. complete (run y c (r + suc e)) i) (y.row i).period k

response_top : (y : System) (c : ℕ → Choice) (i r : ℕ) → response y c i r ≤ suc (y.row i).period
unfolding response
response_top y c i r = omega (arith, lowest_top (λ e. complete (run y c (r + suc e)) i) (y.row i).period)

pub keeps_on : (y : System) (c : ℕ → Choice) (i s k : ℕ) → ((x : ℕ) → s ≤ x → x < s + k → released (y.row i) x ≡ false) → complete (run y c s) i ≡ true → complete (run y c (s + k)) i ≡ true
keeps_on y c i s zero f h = rw (add-zero s) h
keeps_on y c i s (suc k) f h = rw (add-suc s k) (keeps y c (s + k) i (f (s + k) (omega arith) (omega arith)) (keeps_on y c i s k (λ x a b. f x a (omega arith)) h))

pub worst_one : (y : System) (i m n : ℕ) → Worst y i m → Worst y i n → m ≡ n
worst_one y i m n a b = omega (arith, a.most b.at b.job, b.most a.at a.job, a.takes, b.takes)

-- WHERE THE SCHEDULE REPEATS: no word on loadings
module _ (y : System) (short : Short y) (h : ℕ) (turn : Turn y h) where
  module _ (pos : 0 < h) (t : ℕ) (o : (i : ℕ) → (y.row i).offset ≤ t) (m : Same y.tasks (schedule y t) (schedule y (t + h))) where
    done_on : (i s : ℕ) → i < y.tasks → t ≤ s → complete (schedule y s) i ≡ complete (schedule y (s + h)) i
    done_on i s b k =
        let u : t + (s - t) ≡ s = omega arith in
        rw u at (done_same y.tasks (schedule y (t + (s - t))) (schedule y (t + (s - t) + h)) (λ j. full y (t + (s - t)) j ∙ sym (full y (t + (s - t) + h) j)) (same_on y short h turn t o m (s - t)) i b)

    -- a job takes as long as its cousin
    pub response_same : (i r : ℕ) → i < y.tasks → t ≤ r → stays y i (r + h) ≡ stays y i r
    unfolding response
    response_same i r b k = ap suc (lowest_same (λ e. complete (schedule y (r + h + suc e)) i) (λ e. complete (schedule y (r + suc e)) i) (y.row i).period (y.row i).period later refl)
      where
        later : (e : ℕ) → complete (schedule y (r + h + suc e)) i ≡ complete (schedule y (r + suc e)) i
        later e = let v : r + h + suc e ≡ r + suc e + h = omega arith in rw v (sym (done_on i (r + suc e) b (omega arith)))

    -- so each job has one released before t + h that takes as long
    covers : (i fuel r : ℕ) → i < y.tasks → r ≤ fuel → released (y.row i) r ≡ true → (v : ℕ) × (v < t + h) × (released (y.row i) v ≡ true) × (stays y i r ≤ stays y i v)
    covers i zero r b k e = (r, omega arith, e, omega arith)
    covers i (suc fuel) r b k e = le_case (t + h) r
        (λ q.
        let w : r - h + h ≡ r = omega arith in
        let p = rw w at (released_again (y.row i) h (turn.whole i) (r - h) (omega (arith, o i))) in
        let x = covers i fuel (r - h) b (omega arith) (sym p ∙ e) in
        (x.0, x.1, x.2, omega (arith, x.3, rw w at (response_same i (r - h) b (omega arith)))))
        (λ q. (r, q, e, omega arith))

    -- the worst response is that of the jobs released before t + h
    pub worst_is : (i : ℕ) → i < y.tasks → Worst y i (worst y i (t + h))
    worst_is i b = record { most = λ r e. let x = covers i r r b (omega arith) e in omega (arith, x.3, top x.0 x.1 x.2); at = x.0; job = x.2; takes = x.3 }
      where
        top : (r : ℕ) → r < t + h → released (y.row i) r ≡ true → stays y i r ≤ worst y i (t + h)
        top = most_top (released (y.row i)) (stays y i) (t + h)

        x : (r : ℕ) × (r < t + h) × (released (y.row i) r ≡ true) × (stays y i r ≡ worst y i (t + h))
        x = most_at (released (y.row i)) (stays y i) (t + h) (omega (arith, response_some y (stated y) i (y.row i).offset, top (y.row i).offset (omega (arith, o i)) (released_first (y.row i))))

    -- a job that is not complete at t + h has a cousin h slots earlier that takes as long
    module _ (i : ℕ) (b : i < y.tasks) (v : ℕ) (k : v < t + h) (e : released (y.row i) v ≡ true) (l : t + h < v + stays y i v) where
      open_now : complete (schedule y t) i ≡ false
      open_now =
          let u : v + suc (t + h - suc v) ≡ t + h = omega arith in
          done_on i t b (omega arith) ∙ rw u at (response_open y (stated y) i v (t + h - suc v) (omega arith))

      early : t + h ≤ v + (y.row i).period
      early = omega (arith, response_top y (stated y) i v)

      cousin : (y.row i).offset + h ≤ v
      cousin = released_before (y.row i) h (turn.whole i) t v (le_case t (y.row i).offset (λ q. clash (unreleased y (stated y) t i q) open_now) (λ q. q)) e early

      cousin_released : released (y.row i) (v - h) ≡ true
      cousin_released = let w : v - h + h ≡ v = omega (arith, cousin) in sym (rw w at (released_again (y.row i) h (turn.whole i) (v - h) (omega (arith, cousin)))) ∙ e

      -- its response, were it shorter_period
      module _ (q : stays y i (v - h) < stays y i v) where
        its : complete (schedule y (v - h + stays y i (v - h))) i ≡ true
        its = response_done y (stated y) i (v - h) (omega (arith, response_top y (stated y) i v))

        late : t ≤ v - h + stays y i (v - h) → ⊥
        late a =
            let d : v - h + stays y i (v - h) + h ≡ v + suc (stays y i (v - h) - 1) = omega (arith, cousin, response_some y (stated y) i (v - h)) in
            let z = rw d at (sym (done_on i (v - h + stays y i (v - h)) b a) ∙ its) in
            true≢false (sym z ∙ response_open y (stated y) i v (stays y i (v - h) - 1) (omega (arith, response_some y (stated y) i (v - h))))

        soon : v - h + stays y i (v - h) < t → complete (schedule y t) i ≡ true
        soon a =
            let s = v - h + stays y i (v - h) in
            let d : s + (t - s) ≡ t = omega arith in
            rw d at (keeps_on y (stated y) i s (t - s)
            (λ x f j. released_alone (y.row i) (v - h) x cousin_released (omega (arith, response_some y (stated y) i (v - h))) (omega (arith, early, cousin))) its)

      cousin_long : stays y i v ≤ stays y i (v - h)
      cousin_long = le_case (stays y i v) (stays y i (v - h)) (λ q. q)
          (λ q. le_case t (v - h + stays y i (v - h)) (λ a. absurd (late q a)) (λ a. clash (soon q a) open_now))

    -- so each job has one complete by t + h that takes as long: what a simulation up to t + h has seen complete holds the worst
    pub covers_done : (i : ℕ) → i < y.tasks → (r : ℕ) → released (y.row i) r ≡ true → (v : ℕ) × (v + stays y i v ≤ t + h) × (released (y.row i) v ≡ true) × (stays y i r ≤ stays y i v)
    covers_done i b r e =
        let x = covers i r r b (omega arith) e in
        let v = x.0 in
        le_case (v + stays y i v) (t + h) (λ k. (v, k, x.2, x.3))
        (λ k. (
          v - h,
          omega (arith, x.1, response_top y (stated y) i (v - h), cousin i b v x.1 x.2 k, period_top h (y.row i).period (turn.whole i) pos),
          cousin_released i b v x.1 x.2 k,
          omega (arith, x.3, cousin_long i b v x.1 x.2 k),
        ))
