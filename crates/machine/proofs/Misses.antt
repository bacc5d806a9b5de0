-- A miss at time u: the soonest deadline of an incomplete job is now, and the first task with its deadline now is the one missed.
use mathlib.Core.Path.{◌≡◌, sym, ap, ◌∙◌}
use mathlib.Core.Logic.{◌⊎◌, inl, inr, ◌≢◌}
use mathlib.Core.Bool.{true, false, cond, not}
use mathlib.Core.List.{List}
use Rattle.std.proofs.Common.{None, Some}
use Prim.Native.Nat.{ℕ, suc, ◌+◌, ◌<◌}
use native.Mathlib.Omega.{arith}
use borrow.Author.Tests.{lt-ltb, eq-eqb, ne_eqb}
use lib.Dec.{eqb}
use lib.ListN.{get_or, length, take}
use lib.Seq.{get_or-take, length-take-le}
use Rattle.rules.specs.declared.Row.{Row}
use Rattle.rules.specs.declared.Table.{Table}
use Rattle.rules.specs.Policies as policies
use Rattle.rules.specs.Slots as rules
use Rattle.basics.specs.Cases.{test, le_case, eq_case, clash}
use Rattle.reordering.specs.Passed.{Fine}
use Rattle.theory.proofs.Runs.{unreleased}
use Rattle.theory.specs.Counters.{until, due_until}
use Rattle.theory.proofs.Jump.{pick_is, pick_none}
use Rattle.slots.specs.Jobs.{never}
use Rattle.machine.specs.declared.state.State.{State}
use Rattle.machine.specs.Machine.{live, Sound, system_in, choices, state_at, miss_at, due_in, TaskAt, At, FirstAt}
use Rattle.machine.proofs.SoundTables.{fine_in, count_top}

-- ONE TASK: an incomplete one has been released, so its release tells of its deadline
on_time_lem : (p : ℕ) (w : Row) → Fine w → (x : rules.State) (u i : ℕ) (s : State) → u < never → TaskAt p w x u i s → (rules.complete x i ≡ false → w.offset < u)
    → cond (rules.due w u) (rules.complete x i) true ≡ not (eqb (due_in s i) u)
on_time_lem p w f x u i s low a from = test (rules.complete x i)
    (λ e. rw (e, (a.complete e).0, ne_eqb never u (λ z. omega arith)) (test (rules.due w u) (λ q. rw q) (λ q. rw q)))
    (λ e.
    let d = (a.incomplete e).0 in
    let some : 0 < w.deadline = omega (arith, f.wcet_low, f.wcet_deadline) in
    let pos : 0 < w.period = omega (arith, f.deadline_period) in
    rw (e, due_until w pos some f.deadline_period u, lt-ltb w.offset u (from e))
    (eq_case (until w u + w.deadline) w.period
    (λ q. rw (eq-eqb (until w u + w.deadline) w.period q, eq-eqb (due_in s i) u (omega (arith, d))))
    (λ q. rw (ne_eqb (until w u + w.deadline) w.period q, ne_eqb (due_in s i) u (λ z. q (omega (arith, d, z)))))))

module _ {p : ℕ} {t : Table} (sound : Sound t) {xs zs : List ℕ} {u : ℕ} (low : u < never) {s : State} (a : At p t xs zs u s) where
  task_on_time : (i : ℕ) → i < t.count → rules.on_time (system_in p t) u (state_at p t xs zs u) i ≡ not (eqb (due_in s i) u)
  task_on_time i h = on_time_lem p (policies.row (live t) i) (fine_in t sound i h) (state_at p t xs zs u) u i s low (a.tasks i h)
      (λ e. le_case u (policies.row (live t) i).offset (λ q. clash (unreleased (system_in p t) (choices p t xs zs) u i q) e) (λ q. q))

  -- a deadline as the code reads it, among those of the rows
  read_due : (i : ℕ) → i < t.count → get_or (take t.count s.due) i never ≡ due_in s i
  read_due i h = get_or-take t.count s.due i never h

  rows_due : length (take t.count s.due) ≡ t.count
  rows_due = length-take-le t.count s.due (omega (arith, a.full.due, count_top t sound))

  -- the first that is due is the one missed
  module _ {i : ℕ} (f : FirstAt (take t.count s.due) u (Some i)) where
    pub missed_below : i < t.count
    missed_below = omega (arith, f.0, rows_due)

    pub missed_is : miss_at p t xs zs u ≡ suc i
    missed_is = pick_is (λ k. 0) (rules.on_time (system_in p t) u (state_at p t xs zs u)) (length (live t)) (suc i) (
      omega (arith, missed_below, sound.count),
      task_on_time i missed_below ∙ ap not (eq-eqb (due_in s i) u (sym (read_due i missed_below) ∙ f.1)),
      λ k h e. (omega arith, λ z. le_case i k (λ q. q) (λ q. clash (earlier k q) e)),
    )
      where
        earlier : (k : ℕ) → k < i → rules.on_time (system_in p t) u (state_at p t xs zs u) k ≡ true
        earlier k q =
            let h : k < t.count = omega (arith, missed_below) in
            task_on_time k h ∙ ap not (ne_eqb (due_in s k) u (λ z. f.2 k q (read_due k h ∙ z)))

  pub some_due : s.soonest ≡ u → FirstAt (take t.count s.due) u None → ⊥
  some_due e f = go a.soonest.hit
    where
      go : (s.soonest ≡ never) ⊎ ((i : ℕ) × (i < t.count) × (due_in s i ≡ s.soonest)) → ⊥
      go (inl q) = absurd (omega (arith, q, e))
      go (inr x) = f x.0 (omega (arith, x.1, rows_due)) (read_due x.0 x.1 ∙ x.2 ∙ e)

  -- none is missed
  pub ahead_of : s.soonest ≢ u → u < s.soonest
  ahead_of e = le_case s.soonest u (λ k. absurd (e (omega (arith, a.ahead)))) (λ k. k)

  pub none_missed : s.soonest ≢ u → miss_at p t xs zs u ≡ 0
  none_missed e = pick_none (λ k. 0) (rules.on_time (system_in p t) u (state_at p t xs zs u)) (length (live t)) (λ k h.
      let l : k < t.count = omega (arith, sound.count) in
      task_on_time k l ∙ ap not (ne_eqb (due_in s k) u (λ z. omega (arith, z, a.soonest.low k l, ahead_of e))))
