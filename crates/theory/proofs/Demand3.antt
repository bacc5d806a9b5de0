-- Demand 3, in its words: where the schedule misses nothing, every run has given each job the lesser of its request and its
-- stated time by its deadline, and no later than the schedule did. From domination with h = 0; used for as run and by
-- whoever asks what "accepted" is worth on a bench.
use Rattle.std.specs.Prelude.{◌≡◌, refl, true, ℕ, zero, suc, ◌+◌, ◌-◌, ◌≤◌, ◌<◌}
use Rattle.std.proofs.Common.{add-suc, arith, leb-true, le-leb}
use Rattle.rules.specs.Policies.{System}
use Rattle.rules.specs.Slots.{Choice, complete, released, due, on_time, requests, run, stated}
use Rattle.rules.specs.Decided.{NeverMissed, missed_at}
use Rattle.rules.specs.Demands.{HasHad, KeepsTime}
use Rattle.theory.proofs.Uniform.{run_next}
use Rattle.theory.specs.Order.{pick_first}
use Rattle.theory.specs.Times.{Free, Quick, Short, released_alone, is_due}
use Rattle.theory.proofs.Runs.{finishes, demand_3}

-- until its successor's release a job is to have what it asked for at its own
module _ (y : System) (c : ℕ → Choice) (i r : ℕ) (job : released (y.row i) r ≡ true) where
  pub need_stays : (e : ℕ) → e < (y.row i).period → (run y c (r + suc e)).need i ≡ requests y (c r) i
  need_stays zero k =
      let q : r + 1 ≡ suc r = omega arith in
      rw (q, run_next y c r, job) refl
  need_stays (suc e) k = rw (add-suc r (suc e), run_next y c (r + suc e), released_alone (y.row i) r (r + suc e) job (omega arith) (omega arith)) (need_stays e (omega arith))

  -- so it has had that, once it is complete; and is complete, once it has had that
  module _ (u : ℕ) (after : r < u) (within : u ≤ r + (y.row i).period) where
    need_is : (run y c u).need i ≡ requests y (c r) i
    need_is = let q : r + suc (u - suc r) ≡ u = omega arith in rw q at (need_stays (u - suc r) (omega arith))

    complete_had : complete (run y c u) i ≡ true → HasHad y c i r u
    complete_had e = omega (arith, need_is, leb-true ((run y c u).need i) ((run y c u).executed i) e)

    had_complete : HasHad y c i r u → complete (run y c u) i ≡ true
    had_complete h = le-leb ((run y c u).need i) ((run y c u).executed i) (omega (arith, need_is))

-- a time at which nothing is missed
none_missed : (y : System) (c : ℕ → Choice) (t i : ℕ) → i < y.tasks → missed_at y c t ≡ 0 → due (y.row i) t ≡ true → complete (run y c t) i ≡ true
none_missed y c t i h e d = rw d at ((rw e at (pick_first (λ j. 0) (on_time y t (run y c t)) y.tasks)) i h)

pub keeps_time : (y : System) → Free y → Quick y → Short y → ((i : ℕ) → i < y.tasks → 0 < (y.row i).deadline) → NeverMissed y → (c : ℕ → Choice) → KeepsTime y c
keeps_time y free quick short some never c = record {
  deadline = λ i r h job. complete_had y c i r job (r + (y.row i).deadline) (omega (arith, some i h)) (omega (arith, short i))
      (none_missed y c (r + (y.row i).deadline) i h (demand_3 y free quick c never (r + (y.row i).deadline)) (ends i r job));
  sooner = λ i r u h job a b had. complete_had y c i r job u a b (finishes y free quick c u i (had_complete y (stated y) i r job u a b had));
}
  where
    ends : (i r : ℕ) → released (y.row i) r ≡ true → due (y.row i) (r + (y.row i).deadline) ≡ true
    ends i r job =
        let q : r + (y.row i).deadline - (y.row i).deadline ≡ r = omega arith in
        is_due (y.row i) (r + (y.row i).deadline) (omega arith) (rw q job)
