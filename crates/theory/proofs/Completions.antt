-- The largest response of the jobs completed so far, from event to event. Over a jump nobody's completeness changes but that of the
-- task that has the slots, and that only at their end. So a job that is completed over the jump is the newest of that task, and its
-- response is the end of the jump less its release: a loop that keeps one number a task holds the worst at the horizon.
-- A job that is not complete within its period has no completion, and is not counted; where nothing is missed there is none.
use Rattle.std.specs.Prelude.{◌≡◌, ◌⊎◌, true, false, ℕ, suc, ◌+◌, ◌-◌, ◌≤◌, ◌<◌, max, eqb}
use Rattle.std.proofs.Common.{sym, ◌∙◌, inl, inr, add-zero, arith, le-leb, eqb-true, eq-eqb}
use Rattle.std.proofs.Math.Nat.{mod_self}
use Rattle.std.proofs.lemmas.Bool.{lt-leb}
use Rattle.rules.specs.declared.Row.{Row}
use Rattle.rules.specs.Policies.{System}
use Rattle.rules.specs.Slots.{State, Choice, complete, released, newest, order, requests, run, stated, schedule, on_time}
use Rattle.rules.specs.Decided.{Same, NeverMissed}
use Rattle.rules.specs.Verdicts.{response, Worst}
use Rattle.basics.specs.Cases.{test, le_case, eq_case, clash}
use Rattle.basics.specs.Search.{lowest_is}
use Rattle.theory.specs.Order.{pick_first}
use Rattle.theory.specs.Times.{Short, Turn, released_again, released_from, released_first, released_alone, is_due}
use Rattle.theory.proofs.Runs.{incomplete}
use Rattle.theory.proofs.Responses.{response_some, response_open, response_done, keeps_on, covers_done}
use Rattle.theory.specs.Counters.{newest_released, newest_only}
use Rattle.theory.specs.Jump.{now, whose, loads, Quiet, Busy, Firm}
use Rattle.theory.proofs.Jump.{firm_less, jumps, newest_near}
use Rattle.theory.specs.Completions.{Completed, Taken, Seen}

-- RESPONSES

-- a job that is complete m slots after its release, and not before, takes m
pub response_is : (y : System) (c : ℕ → Choice) (i r m : ℕ) → 0 < m → m ≤ (y.row i).period → complete (run y c (r + m)) i ≡ true
    → ((x : ℕ) → 0 < x → x < m → complete (run y c (r + x)) i ≡ false) → response y c i r ≡ m
unfolding response
response_is y c i r m a b e late =
    let q : suc (m - 1) ≡ m = omega arith in
    omega (arith, lowest_is (λ x. complete (run y c (r + suc x)) i) (y.row i).period (m - 1) (omega arith) (rw q e) (λ x k. late (suc x) (omega arith) (omega arith)))

-- where nothing is missed, no response is above the deadline
pub on_time_lem : (y : System) → NeverMissed y → (i : ℕ) → i < y.tasks → 0 < (y.row i).deadline → (r : ℕ) → released (y.row i) r ≡ true
    → response y (stated y) i r ≤ (y.row i).deadline
on_time_lem y never i h some r e = le_case (response y (stated y) i r) (y.row i).deadline (λ q. q) (λ q. clash kept (late q))
  where
    w : Row
    w = y.row i

    all : (j : ℕ) → j < y.tasks → on_time y (r + w.deadline) (schedule y (r + w.deadline)) j ≡ true
    all = rw (never (r + w.deadline)) at (pick_first (λ j. 0) (on_time y (r + w.deadline) (schedule y (r + w.deadline))) y.tasks)

    kept : complete (schedule y (r + w.deadline)) i ≡ true
    kept =
        let a : r + w.deadline - w.deadline ≡ r = omega arith in
        rw (is_due w (r + w.deadline) (omega arith) (rw a e)) at (all i h)

    late : w.deadline < response y (stated y) i r → complete (schedule y (r + w.deadline)) i ≡ false
    late q =
        let a : suc (w.deadline - 1) ≡ w.deadline = omega arith in
        rw a at (response_open y (stated y) i r (w.deadline - 1) (omega arith))

pub seen_start : (y : System) (i : ℕ) → Seen y i 0 0
seen_start y i = record { most = λ r k. absurd (omega (arith, response_some y (stated y) i r, k.by)); some = inl (omega arith) }

-- ONE JUMP of d slots from t, and task i
module _ (y : System) (pos : (i : ℕ) → i < y.tasks → 0 < (y.row i).period) (t d : ℕ) (some : 0 < d) (quiet : Quiet y t d)
    (busy : Busy (now y (stated y) t) (whose y (stated y) t) (loads y (stated y) t) (d - 1))
    (firm : Firm y t (now y (stated y) t) (whose y (stated y) t) (loads y (stated y) t) (d - 1)) (i : ℕ) (h : i < y.tasks) where
  -- its row; the state at t once jobs have joined; the loading that the slots begin with
  abbrev w : Row
  w = y.row i

  abbrev s : State
  s = now y (stated y) t

  abbrev l : ℕ
  l = loads y (stated y) t

  -- what is incomplete stays so, unless the task has the slots and comes through
  stays_open : (k : ℕ) → k < d → complete s i ≡ false → (whose y (stated y) t ≡ suc i → s.executed i + (suc k - l) < s.need i)
      → complete (schedule y (t + suc k)) i ≡ false
  stays_open k a e b =
      let m = jumps y pos (stated y) t k (λ j u f p q. quiet j u f p (omega arith)) (λ j p. omega (arith, busy j p)) (firm_less y t s (whose y (stated y) t) l k (d - 1) (omega arith) firm) in
      rw (m.need i h, m.executed i h) (test (eqb (whose y (stated y) t) (suc i))
      (λ q. rw q (lt-leb (s.need i) (s.executed i + (suc k - l)) (b (eqb-true (whose y (stated y) t) (suc i) q))))
      (λ q. rw (q, add-zero (s.executed i)) e))

  -- a job that is completed over the jump is the newest at t
  its_newest : (r : ℕ) → Completed y i (t + d) r → t < r + response y (stated y) i r → (r ≤ t) × (newest w t ≡ r)
  its_newest r k a = (joined_before, newest_only w r t k.job joined_before (omega (arith, k.within)))
    where
      joined_before : r ≤ t
      joined_before = le_case r t (λ q. q) (λ q. clash k.job (quiet i r h q (omega (arith, k.by, response_some y (stated y) i r))))

  -- and was incomplete, once jobs had joined; a job that needs nothing would not be
  was_open : 0 < w.wcet → (r : ℕ) → Completed y i (t + d) r → t < r + response y (stated y) i r → complete s i ≡ false
  was_open need r k a =
      let n = its_newest r k a in
      eq_case r t
      (λ q. rw (rw q at k.job) (lt-leb (requests y (stated y t) i) 0 (omega arith)))
      (λ q.
      let e : r + suc (t - suc r) ≡ t = omega (arith, n.0) in
      rw (released_alone w r t k.job (omega (arith, n.0)) (omega (arith, k.within))) (rw e at (response_open y (stated y) i r (t - suc r) (omega (arith, n.0)))))

  -- the task that has the slots, and comes through at their end
  module _ (has : whose y (stated y) t ≡ suc i) (through : s.need i ≤ s.executed i + (d - l)) where
    -- the release of its job
    abbrev r : ℕ
    r = newest w t

    open_now : complete s i ≡ false
    open_now = (rw has at (pick_first (order y t s) (complete s) y.tasks)).1

    begun : w.offset ≤ t
    begun = incomplete y (stated y) t i open_now

    near : (r ≤ t) × (t < r + w.period)
    near = newest_near w (pos i h) t begun

    is_job : released w r ≡ true
    is_job = newest_released w t begun

    in_period : t + d ≤ r + w.period
    in_period = le_case (t + d) (r + w.period) (λ q. q)
        (λ q. clash (released_again w w.period (mod_self w.period) r (released_from w r is_job) ∙ is_job) (quiet i (r + w.period) h near.1 q))

    done_then : complete (schedule y (t + d)) i ≡ true
    done_then =
        let e : suc (d - 1) ≡ d = omega arith in
        let m = rw e at (jumps y pos (stated y) t (d - 1) (λ j u f p q. quiet j u f p (omega arith)) busy firm) in
        rw (m.need i h, m.executed i h, eq-eqb (whose y (stated y) t) (suc i) has) (le-leb (s.need i) (s.executed i + (d - l)) through)

    -- were it complete at u, it would be so at t
    open_before : (u : ℕ) → r < u → u ≤ t → complete (schedule y u) i ≡ false
    open_before u a b = test (complete (schedule y u) i)
        (λ e.
        let q : u + (t - u) ≡ t = omega arith in
        let z = rw q at (keeps_on y (stated y) i u (t - u) (λ x f g. released_alone w r x is_job (omega arith) (omega (arith, near.1))) e) in
        clash z (rw (released_alone w r t is_job (omega arith) near.1) at open_now))
        (λ e. e)

    open_since : (u : ℕ) → r < u → u < t + d → complete (schedule y u) i ≡ false
    open_since u a b = le_case u t (λ q. open_before u a q)
        (λ q.
        let e : t + suc (u - suc t) ≡ u = omega arith in
        rw e at (stays_open (u - suc t) (omega arith) open_now (λ z. omega (arith, busy i z))))

    its_response : response y (stated y) i r ≡ t + d - r
    its_response =
        let e : r + (t + d - r) ≡ t + d = omega (arith, near.0) in
        response_is y (stated y) i r (t + d - r) (omega (arith, near.0)) (omega (arith, in_period)) (rw e done_then)
        (λ x a b. open_since (r + x) (omega arith) (omega arith))

    its_completion : Completed y i (t + d) r
    its_completion = record { job = is_job; within = omega (arith, its_response, in_period); by = omega (arith, its_response, near.0) }

  -- THE STEP: what was seen stays seen. n is no less than that, and than the response of a job completed over the jump; and it is
  -- one of these
  seen_step : (m n : ℕ) → Seen y i t m → m ≤ n
      → ((r : ℕ) → Completed y i (t + d) r → t < r + response y (stated y) i r → response y (stated y) i r ≤ n)
      → (n ≡ m) ⊎ Taken y i (t + d) n → Seen y i (t + d) n
  seen_step m n b k new one = record {
    most = λ r c. le_case (r + response y (stated y) i r) t
        (λ q. omega (arith, b.most r (record { job = c.job; within = c.within; by = q })))
        (λ q. new r c q);
    some = which one b.some;
  }
    where
      which : (n ≡ m) ⊎ Taken y i (t + d) n → (m ≡ 0) ⊎ Taken y i t m → (n ≡ 0) ⊎ Taken y i (t + d) n
      which (inr x) z = inr x
      which (inl e) (inl z) = inl (e ∙ z)
      which (inl e) (inr x) = inr (x.0, record { job = x.1.job; within = x.1.within; by = omega (arith, x.1.by) }, x.2 ∙ sym e)

  -- the task that has the slots completes its job at their end
  pub seen_served : (m : ℕ) → whose y (stated y) t ≡ suc i → (now y (stated y) t).need i ≤ (now y (stated y) t).executed i + (d - loads y (stated y) t)
      → Seen y i t m → Seen y i (t + d) (max m (t + d - newest (y.row i) t))
  seen_served m has through b = seen_step m (max m (t + d - newest w t)) b (omega arith) (λ r k a. omega (arith, (its_newest r k a).1, k.by))
      (le_case (t + d - newest w t) m (λ q. inl (omega arith)) (λ q. inr (newest w t, its_completion has through, omega (arith, its_response has through))))

  -- it does not, or another task has the slots, or none
  pub seen_other : (m : ℕ) → 0 < (y.row i).wcet
      → (whose y (stated y) t ≡ suc i → (now y (stated y) t).executed i + (d - loads y (stated y) t) < (now y (stated y) t).need i)
      → Seen y i t m → Seen y i (t + d) m
  seen_other m need not-Through b = seen_step m m b (omega arith) (λ r k a. clash (response_done y (stated y) i r k.within) (undone r k a)) (inl (omega arith))
    where
      undone : (r : ℕ) → Completed y i (t + d) r → t < r + response y (stated y) i r → complete (schedule y (r + response y (stated y) i r)) i ≡ false
      undone r k a =
          let v = r + response y (stated y) i r in
          let e : t + suc (v - suc t) ≡ v = omega arith in
          rw e at (stays_open (v - suc t) (omega (arith, k.by)) (was_open need r k a) (λ z. omega (arith, not-Through z, k.by)))

-- AT THE HORIZON it is the worst of the unbounded schedule. Nothing is missed: a job that is not complete within its period is not
-- seen, and would be the worst
module _ (y : System) (short : Short y) (h : ℕ) (turn : Turn y h) (pos : 0 < h) (t : ℕ) (o : (i : ℕ) → (y.row i).offset ≤ t)
    (same : Same y.tasks (schedule y t) (schedule y (t + h))) (never : NeverMissed y) where
  pub seen_worst : (i : ℕ) → i < y.tasks → 0 < (y.row i).deadline → (m : ℕ) → Seen y i (t + h) m → Worst y i m
  seen_worst i b some m s = go s.some
    where
      top : (r : ℕ) → released (y.row i) r ≡ true → response y (stated y) i r ≤ m
      top r e =
          let x = covers_done y short h turn pos t o same i b r e in
          omega (arith, x.3, s.most x.0 (record { job = x.2; within = omega (arith, on_time_lem y never i b some x.0 x.2, short i); by = x.1 }))

      go : (m ≡ 0) ⊎ Taken y i (t + h) m → Worst y i m
      go (inl z) = absurd (omega (arith, top (y.row i).offset (released_first (y.row i)), response_some y (stated y) i (y.row i).offset))
      go (inr x) = record { most = top; at = x.0; job = x.1.job; takes = x.2 }
