-- Who has the slot, once jobs have joined at time u: the least key tells. An incomplete task's key is its rank by the rules, then its
-- row; so the least belongs to the first by rank, and of equal rank to the first by row.
use mathlib.Core.Path.{◌≡◌, refl, sym, ap, ◌∙◌}
use mathlib.Core.Logic.{◌⊎◌, inl, inr, ◌≢◌}
use mathlib.Core.Bool.{false}
use mathlib.Core.List.{List}
use Prim.Native.Nat.{ℕ, zero, suc, ◌+◌, ◌*◌, ◌/◌, ◌%◌, ◌≤◌, ◌<◌}
use native.Mathlib.Omega.{arith}
use borrow.Author.Tests.{ne_eqb}
use Rattle.rules.specs.declared.Row.{Row}
use Rattle.rules.specs.declared.Table.{Table}
use Rattle.rules.specs.Policies.{policy, row}
use Rattle.rules.specs.Slots.{newest, complete, pick, rank}
use Rattle.basics.specs.Cases.{test}
use Rattle.theory.specs.Order.{First}
use Rattle.theory.proofs.Runs.{incomplete}
use Rattle.theory.specs.Counters.{until, newest_until}
use Rattle.theory.proofs.Free.{free_pick}
use Rattle.theory.proofs.Rows.{frees}
use Rattle.theory.proofs.Jump.{pick_is, newest_near}
use Rattle.reordering.specs.Passed.{Fine}
use Rattle.slots.specs.Jobs.{never, key_of}
use Rattle.machine.specs.declared.state.State.{State}
use Rattle.machine.specs.Machine.{live, system_in, choices, release_in, due_in, key_in}
use Rattle.machine.proofs.SoundTables.{fine_in, period_some, count_top}
use Rattle.machine.proofs.Pass.{now_in, who_in}
use Rattle.machine.proofs.Joins.{Ready, tag_parts}

-- the code's key is the policy's
policy_key : (p : ℕ) (w : Row) (n : ℕ) → key_of p w (n + w.deadline) ≡ policy p w n
policy_key zero w n = refl
policy_key (suc zero) w n = refl
policy_key (suc (suc zero)) w n = refl
policy_key (suc (suc (suc zero))) w n = refl
policy_key (suc (suc (suc (suc p)))) w n =
    let q = suc (suc (suc (suc p))) in
    rw (ne_eqb q 1 (λ e. omega arith), ne_eqb q 2 (λ e. omega arith), ne_eqb q 3 (λ e. omega arith)) refl

policy_high : (p : ℕ) (w : Row) → Fine w → (n : ℕ) → policy p w n ≤ n + 10000
policy_high zero w f n = omega (arith, f.deadline_period, f.period_high)
policy_high (suc zero) w f n = omega (arith, f.priority_high)
policy_high (suc (suc zero)) w f n = omega (arith, f.period_high)
policy_high (suc (suc (suc zero))) w f n = omega (arith, f.deadline_period, f.period_high)
policy_high (suc (suc (suc (suc p)))) w f n = omega (arith, f.deadline_period, f.period_high)

module _ {p : ℕ} {t : Table} {xs zs : List ℕ} {u : ℕ} {s₀ s : State} (r : Ready p t xs zs u s₀ s) where
  -- the next release of task k
  pub release_time : {k : ℕ} → k < t.count → release_in s k / 16 ≡ suc u + until (row (live t) k) (suc u)
  release_time {k} h =
      (tag_parts (release_in s k) (suc u + until (row (live t) k) (suc u)) k (r.passed.joined k h).release (omega (arith, count_top t r.sound))).0

  module _ {k : ℕ} (h : k < t.count) (e : complete (now_in p t xs zs u) k ≡ false) where
    fine : Fine (row (live t) k)
    fine = fine_in t r.sound k h

    pos : 0 < (row (live t) k).period
    pos = period_some t r.sound k h

    pub begun_before : (row (live t) k).offset ≤ u
    begun_before = incomplete (system_in p t) (choices p t xs zs) u k e

    pub due_is : due_in s k ≡ newest (row (live t) k) u + (row (live t) k).deadline
    due_is = omega (arith, ((r.passed.joined k h).incomplete e).0, newest_until (row (live t) k) pos u begun_before)

    key_is : key_in s k ≡ rank (system_in p t) u k * 16 + k
    key_is = ((r.passed.joined k h).incomplete e).1 ∙ ap (λ d. key_of p (row (live t) k) d * 16 + k) due_is
        ∙ ap (λ x. x * 16 + k) (policy_key p (row (live t) k) (newest (row (live t) k) u))

    key_low : rank (system_in p t) u k * 16 + k < never
    key_low = omega (
      arith,
      r.low,
      count_top t r.sound,
      policy_high p (row (live t) k) fine (newest (row (live t) k) u),
      (newest_near (row (live t) k) pos u begun_before).0,
    )

  -- the first has the slot
  who_is : (k : ℕ) → First (rank (system_in p t) u) (complete (now_in p t xs zs u)) t.count k → who_in p t xs zs u ≡ k
  who_is k f = free_pick (system_in p t) (frees (policy p) (live t)) u (now_in p t xs zs u)
      ∙ ap (pick (rank (system_in p t) u) (complete (now_in p t xs zs u))) r.sound.count
      ∙ pick_is (rank (system_in p t) u) (complete (now_in p t xs zs u)) t.count k f

  -- no job is left
  pub who_none : s.best ≡ never → who_in p t xs zs u ≡ 0
  who_none e = who_is 0
      (λ k h. test (complete (now_in p t xs zs u) k) (λ c. c) (λ c. absurd (omega (arith, e, r.passed.best.low k h, key_is h c, key_low h c))))

  -- the row of the least key has the slot
  pub who_first : s.best ≢ never
      → (s.best % 16 < t.count) × (who_in p t xs zs u ≡ suc (s.best % 16)) × (complete (now_in p t xs zs u) (s.best % 16) ≡ false)
  who_first some = go r.passed.best.hit
    where
      go : (s.best ≡ never) ⊎ ((j : ℕ) × (j < t.count) × (key_in s j ≡ s.best))
          → (s.best % 16 < t.count) × (who_in p t xs zs u ≡ suc (s.best % 16)) × (complete (now_in p t xs zs u) (s.best % 16) ≡ false)
      go (inl e) = absurd (some e)
      go (inr x) =
          let c : complete (now_in p t xs zs u) x.0 ≡ false =
          test (complete (now_in p t xs zs u) x.0) (λ c. absurd (some (sym x.2 ∙ ((r.passed.joined x.0 x.1).complete c).1))) (λ c. c) in
          let b : s.best ≡ rank (system_in p t) u x.0 * 16 + x.0 = sym x.2 ∙ key_is x.1 c in
          let i : s.best % 16 ≡ x.0 = (tag_parts s.best (rank (system_in p t) u x.0) x.0 b (omega (arith, x.1, count_top t r.sound))).1 in
          rw i (
            x.1,
            who_is (suc x.0) (
              x.1,
              c,
              λ k h d.
                  let f = r.passed.best.low k h in
                  let g = key_is h d in
                  (omega (arith, b, f, g, h, x.1, count_top t r.sound), λ m. omega (arith, b, f, g, m, h, x.1, count_top t r.sound)),
            ),
            c,
          )
