-- Any run at t is ahead of the schedule at t + h, where the table repeats with h: the one theorem behind demand 3 and the cousins.
-- With h = 0, a run is never behind the schedule: where the schedule misses nothing, no run does (`demand_3`). With the schedule as
-- the run and h the hyper-period, a job and the same task's job one hyper-period later stand in order, execution and loading
-- (`cousins`; source 000's Lemma 2 wants this). The base is the same for every h: at 0 every task is complete in A.
use Rattle.std.specs.Prelude.{◌≡◌, refl, ◌↔◌, true, false}
use Rattle.std.proofs.Common.{ap, add-zero, suc-add, arith, le-leb}
use Prim.Native.Nat.{ℕ, zero, suc, ◌+◌, ◌≤◌, ◌<◌}
use Rattle.rules.specs.declared.Row.{Row}
use Rattle.rules.specs.Policies.{System}
use Rattle.rules.specs.Slots.{State, Choice, complete, pick, loading, released, newest, due, joins, rank, order, requests, lengths, joined, run, stated, schedule, on_time, missed}
use Rattle.basics.specs.Cases.{test, le_case, clash}
use Rattle.theory.specs.Uniform.{act}
use Rattle.theory.proofs.Uniform.{run_next}
use Rattle.theory.specs.Order.{First, pick_first}
use Rattle.theory.proofs.Domination.{dom_done, dom_step, was}
use Rattle.theory.proofs.Free.{free_next}
use Rattle.theory.specs.Times.{Free, Quick, Turn, no_turn, delay_anti, released_again, released_from, newest_again}
use Rattle.theory.specs.Runs.{Ahead}

stays : (n : ℕ) (r : ℕ → ℕ) (load : ℕ → ℕ → ℕ) (s : State) (i : ℕ) → complete s i ≡ true → complete (act n r load s) i ≡ true
stays n r load s i h = test (complete (act n r load s) i) (λ e. e) (λ e. clash h (was s (pick r (complete s) n) (loading load s (pick r (complete s) n)) i e))

not_yet : (w : Row) (t : ℕ) → t < w.offset → released w t ≡ false
not_yet w t h = test (released w t) (λ e. absurd (omega (arith, released_from w t e))) (λ e. e)

-- a task that is complete stays so until its next release
pub keeps : (y : System) (c : ℕ → Choice) (t i : ℕ) → released (y.row i) t ≡ false → complete (run y c t) i ≡ true → complete (run y c (suc t)) i ≡ true
keeps y c t i e h = rw (run_next y c t) (stays y.tasks (order y t (joined y (c t) t (run y c t))) (lengths y (c t)) (joined y (c t) t (run y c t)) i (rw e h))

-- before its first release a task is complete
pub unreleased : (y : System) (c : ℕ → Choice) (t i : ℕ) → t ≤ (y.row i).offset → complete (run y c t) i ≡ true
unfolding run
unreleased y c zero i h = le-leb (y.row i).wcet (y.row i).wcet (omega arith)
unreleased y c (suc t) i h = keeps y c t i (not_yet (y.row i) t h) (unreleased y c t i (omega arith))

-- so what is incomplete, once jobs have joined, has been released
pub incomplete : (y : System) (c : ℕ → Choice) (t i : ℕ) → complete (joined y (c t) t (run y c t)) i ≡ false → (y.row i).offset ≤ t
incomplete y c t i h = le_case (y.row i).offset t (λ e. e) (λ e. clash (unreleased y c t i (omega arith)) (rw (not_yet (y.row i) t e) at h))

-- in the schedule a job is to have its whole wcet
pub joined_full : (y : System) (t : ℕ) (s : State) (i : ℕ) → s.need i ≡ (y.row i).wcet → (joined y (stated y t) t s).need i ≡ (y.row i).wcet
joined_full y t s i h = test (released (y.row i) t) (λ e. rw e (omega arith)) (λ e. rw e h)

pub full : (y : System) (t i : ℕ) → (schedule y t).need i ≡ (y.row i).wcet
unfolding run
full y zero i = refl
full y (suc t) i = rw (run_next y (stated y) t) (joined_full y t (schedule y t) i (full y t i))

-- comparisons of ranks repeat
module _ (y : System) (h : ℕ) (turn : Turn y h) where
  rank_again : (t i : ℕ) → (y.row i).offset ≤ t → rank y (t + h) i ≡ y.key i (newest (y.row i) t + h)
  rank_again t i e = ap (y.key i) (newest_again (y.row i) h (turn.whole i) t e)

  pub like : (t i j : ℕ) → (y.row i).offset ≤ t → (y.row j).offset ≤ t → (rank y t i ≤ rank y t j) ↔ (rank y (t + h) i ≤ rank y (t + h) j)
  like t i j e f = rw (rank_again t i e, rank_again t j f) (turn.again i j (newest (y.row i) t) (newest (y.row j) t))

-- THE THEOREM
module _ (y : System) (free : Free y) (quick : Quick y) (h : ℕ) (turn : Turn y h) (c : ℕ → Choice) where
  next : ℕ → Choice → State → State
  next u d s = act y.tasks (rank y u) (lengths y d) (joined y d u s)

  sub : (t i : ℕ) → joins y t i ≡ true → joins y (t + h) i ≡ true
  sub t i e = rw (released_again (y.row i) h (turn.whole i) t (released_from (y.row i) t e)) e

  ahead_step : (t : ℕ) (b : State) → Ahead y (run y c t) b
      → Ahead y (next t (c t) (run y c t)) (next (t + h) (stated y (t + h)) b)
  unfolding next
  ahead_step t b d = dom_step _ _ (λ i. delay_anti (y.row i) (quick i)) (run y c t) b d
      (joins y t) (joins y (t + h)) (sub t) (requests y (c t)) (requests y (stated y (t + h))) (λ i. omega arith) (λ i. omega arith)
      (rank y t) (rank y (t + h)) (λ i j e f. like y h turn t i j (incomplete y c t i e) (incomplete y c t j f))
      (lengths y (c t)) (lengths y (stated y (t + h))) (λ i m. omega arith) (λ i m. omega arith) y.tasks

  pub ahead : (t : ℕ) → Ahead y (run y c t) (schedule y (t + h))
  unfolding run next
  ahead zero = record {
    less = λ i. omega arith;
    full = λ i. omega (arith, full y (zero + h) i);
    ahead = λ i e. clash (unreleased y c 0 i (omega arith)) e;
    same = λ j u e. clash (unreleased y c 0 j (omega arith)) e;
    side = λ j u. absurd (omega arith);
  }
  ahead (suc t) = rw (suc-add t h, free_next y free c t, free_next y free (stated y) (t + h)) (ahead_step t (schedule y (t + h)) (ahead t))

  pub done_sooner : (t i : ℕ) → complete (schedule y (t + h)) i ≡ true → complete (run y c t) i ≡ true
  done_sooner t = dom_done _ _ _ _ (ahead t)

-- COUSINS: the schedule against itself, one turn on
pub cousins : (y : System) → Free y → Quick y → (h : ℕ) → Turn y h → (t : ℕ) → Ahead y (schedule y t) (schedule y (t + h))
cousins y free quick h turn = ahead y free quick h turn (stated y)

-- DEMAND 3: what is complete in the schedule is complete in the run; and where the schedule misses nothing, no run does
module _ (y : System) (free : Free y) (quick : Quick y) (c : ℕ → Choice) where
  pub finishes : (t i : ℕ) → complete (schedule y t) i ≡ true → complete (run y c t) i ≡ true
  finishes t = rw (add-zero t) at (done_sooner y free quick 0 (no_turn y) c t)

  pub meets : (t : ℕ) → missed y t (schedule y t) ≡ 0 → missed y t (run y c t) ≡ 0
  meets t e = go (missed y t (run y c t)) (pick_first (λ i. 0) (on_time y t (run y c t)) y.tasks) (rw e at (pick_first (λ i. 0) (on_time y t (schedule y t)) y.tasks))
    where
      on_time_lem : (i : ℕ) → on_time y t (schedule y t) i ≡ true → on_time y t (run y c t) i ≡ true
      on_time_lem i = test (due (y.row i) t) (λ q k. rw q (finishes t i (rw q at k))) (λ q k. rw q refl)

      go : (p : ℕ) → First (λ i. 0) (on_time y t (run y c t)) y.tasks p → ((i : ℕ) → i < y.tasks → on_time y t (schedule y t) i ≡ true) → p ≡ 0
      go zero f k = refl
      go (suc j) f k = clash (on_time_lem j (k j f.0)) f.1

  pub demand_3 : ((t : ℕ) → missed y t (schedule y t) ≡ 0) → (t : ℕ) → missed y t (run y c t) ≡ 0
  demand_3 h t = meets t (h t)
