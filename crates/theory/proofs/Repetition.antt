-- REPETITION: once the states at t and t + h are equal, t from the largest offset on, all that follows repeats, misses included. Equal
-- states with equal releases and agreeing orders make equal states; a deadline at t + h is that of a job with a cousin at t. So
-- where nothing is missed before t + h, nothing ever is.
use Rattle.std.specs.Prelude.{◌≡◌, refl, ◌↔◌, Bool, true, false, cond, ℕ, zero, suc, ◌+◌, ◌-◌, ◌≤◌, ◌<◌}
use Rattle.std.proofs.Common.{sym, ap, ◌∙◌, add-zero, add-suc, suc-add, arith}
use Rattle.std.proofs.Math.Path.{fun_ext}
use Rattle.rules.specs.Policies.{System}
use Rattle.rules.specs.Slots.{State, Choice, complete, release, pick, loading, due, joins, rank, under_way, order, requests, lengths, joined, stated, schedule, on_time, missed}
use Rattle.rules.specs.Decided.{Same}
use Rattle.basics.specs.Cases.{test, le_case, clash}
use Rattle.theory.specs.Uniform.{uniform, act}
use Rattle.theory.proofs.Uniform.{run_next}
use Rattle.theory.specs.Order.{First, pick_first, agree_all}
use Rattle.theory.specs.Times.{Short, Turn, released_again, due_again}
use Rattle.theory.proofs.Runs.{unreleased, joined_full, full, like}

pick_le : (r : ℕ → ℕ) (d : ℕ → Bool) (n : ℕ) → pick r d n ≤ n
pick_le r d n = go (pick r d n) (pick_first r d n)
  where
    go : (p : ℕ) → First r d n p → p ≤ n
    go zero f = omega arith
    go (suc j) f = f.0

-- a chunk under way goes first in both, or in none
order_like : (x z : Bool) (r s v w : ℕ) → (r ≤ s) ↔ (v ≤ w) → (cond x 0 (suc r) ≤ cond z 0 (suc s)) ↔ (cond x 0 (suc v) ≤ cond z 0 (suc w))
order_like true z r s v w l = (λ e. omega arith, λ e. omega arith)
order_like false true r s v w l = (λ e. absurd (omega arith), λ e. absurd (omega arith))
order_like false false r s v w l = (λ e. omega (arith, l.0 (omega arith)), λ e. omega (arith, l.1 (omega arith)))

-- equal states with equal needs stay equal
module _ (n : ℕ) (a b : State) (needs : (i : ℕ) → a.need i ≡ b.need i) (m : Same n a b) where
  same_release : (x y : ℕ → Bool) (c : ℕ → ℕ) → x ≡ y → Same n (release x c a) (release y c b)
  same_release x y c e = rw e (record { executed = λ i h. rw (m.executed i h); last = rw m.last; left = m.left })

  pub done_same : (i : ℕ) → i < n → complete a i ≡ complete b i
  done_same i h = rw (needs i, m.executed i h)

  pick_same : (r s : ℕ → ℕ) → ((i j : ℕ) → i < n → j < n → (r i ≤ r j) ↔ (s i ≤ s j)) → pick r (complete a) n ≡ pick s (complete b) n
  pick_same r s like = agree_all r s (complete a) (complete b) n (λ i h e. done_same i h ∙ e) (λ i j k l u v. like i j k l) (λ i h e. sym (done_same i h) ∙ e)
      (pick r (complete a) n) (pick s (complete b) n) (pick_first r (complete a) n) (pick_first s (complete b) n)

  loading_same : (load : ℕ → ℕ → ℕ) (p : ℕ) → p ≤ n → loading load a p ≡ loading load b p
  loading_same load zero h = refl
  loading_same load (suc j) h = rw (m.last, m.left, m.executed j h)

  last_same : (p l : ℕ) → p ≤ n → (uniform a p l).last ≡ (uniform b p l).last
  last_same zero l h = refl
  last_same (suc j) l h = rw (needs j, m.executed j h)

  same_slot : (p q l k : ℕ) → p ≡ q → l ≡ k → q ≤ n → Same n (uniform a p l) (uniform b q k)
  same_slot p q l k e f h = rw (e, f) (record { executed = λ i u. rw (m.executed i u); last = last_same q k h; left = refl })

  -- which chunk is under way is no more than what has executed and which job had the slot before
  pub under_same : (y : System) (i : ℕ) → i < n → under_way y a i ≡ under_way y b i
  under_same y i h = rw (m.executed i h, m.last)

  orders_like : (y : System) (t u : ℕ) → ((i j : ℕ) → (rank y t i ≤ rank y t j) ↔ (rank y u i ≤ rank y u j))
      → (i j : ℕ) → i < n → j < n → (order y t a i ≤ order y t a j) ↔ (order y u b i ≤ order y u b j)
  orders_like y t u l i j h k = rw (under_same y i h, under_same y j k) (order_like (under_way y b i) (under_way y b j) _ _ _ _ (l i j))

  same_act : (r s : ℕ → ℕ) → ((i j : ℕ) → i < n → j < n → (r i ≤ r j) ↔ (s i ≤ s j)) → (load : ℕ → ℕ → ℕ) → Same n (act n r load a) (act n s load b)
  same_act r s like load = same_slot _ _ _ _ p (ap (loading load a) p ∙ loading_same load (pick s (complete b) n) q) q
    where
      p : pick r (complete a) n ≡ pick s (complete b) n
      p = pick_same r s like

      q : pick s (complete b) n ≤ n
      q = pick_le s (complete b) n

-- the schedule
module _ (y : System) (short : Short y) (h : ℕ) (turn : Turn y h) where
  same_step : (t : ℕ) → ((i : ℕ) → (y.row i).offset ≤ t) → Same y.tasks (schedule y t) (schedule y (t + h)) → Same y.tasks (schedule y (suc t)) (schedule y (suc (t + h)))
  same_step t o m = rw (run_next y (stated y) t, run_next y (stated y) (t + h)) (same_act y.tasks (joined y c t (schedule y t)) (joined y c (t + h) (schedule y (t + h)))
      needs alike (order y t (joined y c t (schedule y t))) (order y (t + h) (joined y c (t + h) (schedule y (t + h))))
      (orders_like y.tasks (joined y c t (schedule y t)) (joined y c (t + h) (schedule y (t + h))) needs alike y t (t + h) (λ i j. like y h turn t i j (o i) (o j))) (lengths y c))
    where
      c : Choice
      c = stated y t

      needs : (i : ℕ) → (joined y c t (schedule y t)).need i ≡ (joined y c (t + h) (schedule y (t + h))).need i
      needs i = joined_full y t (schedule y t) i (full y t i) ∙ sym (joined_full y (t + h) (schedule y (t + h)) i (full y (t + h) i))

      alike : Same y.tasks (joined y c t (schedule y t)) (joined y c (t + h) (schedule y (t + h)))
      alike = same_release y.tasks (schedule y t) (schedule y (t + h)) (λ i. full y t i ∙ sym (full y (t + h) i)) m (joins y t) (joins y (t + h)) (requests y c)
          (fun_ext (λ i. sym (released_again (y.row i) h (turn.whole i) t (o i))))

  pub same_on : (t : ℕ) → ((i : ℕ) → (y.row i).offset ≤ t) → Same y.tasks (schedule y t) (schedule y (t + h))
      → (d : ℕ) → Same y.tasks (schedule y (t + d)) (schedule y (t + d + h))
  same_on t o m zero = rw (add-zero t) m
  same_on t o m (suc d) = rw (add-suc t d, suc-add (t + d) h) (same_step (t + d) (λ i. omega (arith, o i)) (same_on t o m d))

  -- a deadline is on_time at t + h as at t
  pub miss_same : (t : ℕ) → ((i : ℕ) → (y.row i).offset ≤ t) → Same y.tasks (schedule y t) (schedule y (t + h))
      → missed y (t + h) (schedule y (t + h)) ≡ missed y t (schedule y t)
  miss_same t o m = sym (agree_all (λ i. 0) (λ i. 0) (on_time y t (schedule y t)) (on_time y (t + h) (schedule y (t + h))) y.tasks
      (λ i k e. kept_same i k ∙ e) (λ i j a b u v. (λ e. e, λ e. e)) (λ i k e. sym (kept_same i k) ∙ e)
      (missed y t (schedule y t)) (missed y (t + h) (schedule y (t + h))) (pick_first (λ i. 0) (on_time y t (schedule y t)) y.tasks)
      (pick_first (λ i. 0) (on_time y (t + h) (schedule y (t + h))) y.tasks))
    where
      same : (i : ℕ) → i < y.tasks → complete (schedule y t) i ≡ complete (schedule y (t + h)) i
      same = done_same y.tasks (schedule y t) (schedule y (t + h)) (λ i. full y t i ∙ sym (full y (t + h) i)) m

      begun : (i : ℕ) → complete (schedule y t) i ≡ false → (y.row i).offset < t
      begun i e = le_case t (y.row i).offset (λ k. clash (unreleased y (stated y) t i k) e) (λ k. k)

      always : (b : Bool) → cond b true true ≡ true
      always true = refl
      always false = refl

      kept_same : (i : ℕ) → i < y.tasks → on_time y t (schedule y t) i ≡ on_time y (t + h) (schedule y (t + h)) i
      kept_same i k = test (complete (schedule y t) i) (λ e. rw (e, sym (same i k) ∙ e) (always (due (y.row i) t) ∙ sym (always (due (y.row i) (t + h)))))
          (λ e. rw (due_again (y.row i) h (turn.whole i) t (short i) (begun i e), same i k))

  -- from t on all repeats: each time has one before t + h at which the same is missed
  module _ (pos : 0 < h) (t : ℕ) (o : (i : ℕ) → (y.row i).offset ≤ t) (m : Same y.tasks (schedule y t) (schedule y (t + h))) where
    pub miss_on : (d : ℕ) → missed y (t + d + h) (schedule y (t + d + h)) ≡ missed y (t + d) (schedule y (t + d))
    miss_on d = miss_same (t + d) (λ i. omega (arith, o i)) (same_on t o m d)

    back : (fuel u : ℕ) → u ≤ fuel → (v : ℕ) × (v < t + h) × (missed y v (schedule y v) ≡ missed y u (schedule y u))
    back zero u k = (u, omega arith, refl)
    back (suc fuel) u k = le_case (t + h) u (λ e. earlier (u - (t + h)) (omega arith) (back fuel (t + (u - (t + h))) (omega arith))) (λ e. (u, e, refl))
      where
        earlier : (d : ℕ) → t + d + h ≡ u → (v : ℕ) × (v < t + h) × (missed y v (schedule y v) ≡ missed y (t + d) (schedule y (t + d)))
            → (v : ℕ) × (v < t + h) × (missed y v (schedule y v) ≡ missed y u (schedule y u))
        earlier d e x = (x.0, x.1, rw (← e) (x.2 ∙ sym (miss_on d)))

    pub never_missed : ((v : ℕ) → v < t + h → missed y v (schedule y v) ≡ 0) → (u : ℕ) → missed y u (schedule y u) ≡ 0
    never_missed k u = let x = back u u (omega arith) in sym x.2 ∙ k x.0 x.1
