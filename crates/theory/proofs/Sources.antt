-- The demands, of sources: what holds of every text, or whatever else was read, that passes the checks, under every policy. Each
-- theorem here is a sentence of demand 2 or 3; the laws behind them are those of the other files.
use Rattle.std.specs.Prelude.{◌≡◌, refl, ◌≢◌, false, List, [], ◌∷◌, map, ℕ, zero, suc, ◌^◌, ◌≤◌, ◌<◌, length, get_or}
use Rattle.std.proofs.Common.{ap, arith}
use Rattle.rules.specs.declared.Row.{Row}
use Rattle.rules.specs.declared.Verdict.{Verdict}
use Rattle.rules.specs.declared.Verdict.TheVariants.{Accepted, Undecided}
use Rattle.rules.specs.Table.{no_row, omax, hyper}
use Rattle.rules.specs.Sources.{Source}
use Rattle.rules.specs.Checks.{refusal_of}
use Rattle.rules.specs.Policies.{blank, policy, row}
use Rattle.rules.specs.Slots.{Choice, on_time, run, stated}
use Rattle.rules.specs.Decided.{missed_at, NeverMissed, SlotsNeeded}
use Rattle.rules.specs.AsRun.{listed}
use Rattle.rules.specs.Verdicts.{tasks_of, system_of, missed_id, plain, DecidesOf}
use Rattle.rules.specs.Demands.{KeepsTime}
use Rattle.rules.specs.Written.{ids_of}
use Rattle.basics.specs.Cases.{eq_case}
use Rattle.basics.specs.Lists.{any_default}
use Rattle.reordering.specs.All.{All}
use Rattle.reordering.specs.Canonical.{canonical_length}
use Rattle.reordering.specs.Passed.{Fine, Passed, passed, passed_canonical, fine_at, ids_rise}
use Rattle.theory.specs.Policies.{policy_repeats}
use Rattle.theory.specs.Rows.{Fits, Valid}
use Rattle.theory.proofs.Rows.{shorts, quicks, frees, needed, at_most}
use Rattle.theory.proofs.Demand3.{keeps_time}
use Rattle.theory.proofs.Replies.{never_accepted, missed_smallest}

-- ROWS THAT PASS meet what the theory asks

fits : (ws : List Row) → All Fine ws → All Fits ws
fits [] h = tt
fits (w ∷ ws) h = (
  record {
    short = h.0.deadline_period;
    wcet = omega (arith, h.0.wcet_deadline, h.0.deadline_period, h.0.period_high);
    start = h.0.start_high;
    offset = h.0.offset_high;
  },
  fits ws h.1,
)

quick : (ws : List Row) → All Fine ws → All (λ w. w.resume ≤ w.start) ws
quick [] h = tt
quick (w ∷ ws) h = (h.0.resume_start, quick ws h.1)

pub valid_rows : (ws : List Row) → Passed ws → Valid ws
valid_rows ws p = record { passes = record { rows = fits ws p.fine; count = p.few; limit = p.hyper_high }; quick = quick ws p.fine }

-- IDS: number i is that of the task which has number i among the responses, under every policy
ids_at : (ws : List Row) (i : ℕ) → get_or (map (λ (w : Row). w.id) ws) i 0 ≡ (row ws i).id
ids_at [] i = refl
ids_at (w ∷ ws) zero = refl
ids_at (w ∷ ws) (suc i) = ids_at ws i

pub ids_label : (s : Source) (p i : ℕ) → get_or (ids_of s) i 0 ≡ ((system_of p s).row i).id
ids_label s p i = ids_at (tasks_of s) i

module _ (s : Source) (fine : (refusal_of s).number ≡ 0) (p : ℕ) where
  rows_pass : Passed (tasks_of s)
  rows_pass = passed_canonical s.rows (passed s fine).1

  valid : Valid (tasks_of s)
  valid = valid_rows (tasks_of s) rows_pass

  -- the slots needed, of which there are at most 2^48
  number : (n : ℕ) × SlotsNeeded (system_of p s) (omax (tasks_of s)) (hyper (tasks_of s)) plain n × (n ≤ 2 ^ 48)
  number =
      let n = needed (policy p) (policy_repeats p) (tasks_of s) valid in
      (_, n, at_most (policy p) (policy_repeats p) (tasks_of s) valid _ n)

  -- "An allowance of 2^48 slots always decides."
  pub always_decides : (a : ℕ) → 2 ^ 48 ≤ a → DecidesOf p a s Undecided → ⊥
  always_decides a enough d = omega (arith, number.2, d number.0 number.1)

  -- "Accepted means that no job ever misses its deadline in the unbounded schedule at the stated times"; and where none does, an
  -- allowance that suffices accepts
  pub accepts : (a : ℕ) → 2 ^ 48 ≤ a → NeverMissed (system_of p s)
      → (r : Verdict) → DecidesOf p a s r → (n : ℕ) × (r ≡ Accepted n)
  accepts a enough never = never_accepted (system_of p s) (omax (tasks_of s)) (hyper (tasks_of s)) a
      (number.0, number.1, omega (arith, number.2)) never

  -- "the ids in ascending order"
  pub ids_ascend : (i j : ℕ) → i < j → j < length (tasks_of s) → (row (tasks_of s) i).id < (row (tasks_of s) j).id
  ids_ascend i j low high =
      let less = ids_rise s.rows (passed s fine).1 i j low (omega (arith, canonical_length s.rows)) in
      let a = ap (λ (w : Row). w.id) (any_default (tasks_of s) i blank no_row (omega arith)) in
      let b = ap (λ (w : Row). w.id) (any_default (tasks_of s) j blank no_row high) in
      omega (arith, less, a, b)

  -- "lowest id on a tie"
  ids : (i j : ℕ) → i ≤ j → j < length (tasks_of s) → (row (tasks_of s) i).id ≤ (row (tasks_of s) j).id
  ids i j low high = eq_case i j (λ e. rw e (omega arith)) (λ e. omega (arith, ids_ascend i j (omega arith) high))

  pub smallest_missed : (t : ℕ) → missed_at (system_of p s) (stated (system_of p s)) t ≢ 0 → (i : ℕ) → i < length (tasks_of s)
      → on_time (system_of p s) t (run (system_of p s) (stated (system_of p s)) t) i ≡ false
      → missed_id (system_of p s) (stated (system_of p s)) t ≤ (row (tasks_of s) i).id
  smallest_missed = missed_smallest (system_of p s) ids

  -- DEMAND 3
  deadlines : (i : ℕ) → i < length (tasks_of s) → 0 < (row (tasks_of s) i).deadline
  deadlines i h =
      let f = fine_at (tasks_of s) rows_pass i h in
      let e = ap (λ (w : Row). w.deadline) (any_default (tasks_of s) i blank no_row h) in
      omega (arith, f.wcet_low, f.wcet_deadline, e)

  pub demand_3 : (a n : ℕ) → DecidesOf p a s (Accepted n) → (c : ℕ → Choice) → KeepsTime (system_of p s) c
  demand_3 a n d = keeps_time (system_of p s) (frees (policy p) (tasks_of s)) (quicks (policy p) (policy_repeats p) (tasks_of s) valid)
      (shorts (policy p) (policy_repeats p) (tasks_of s) valid.passes) deadlines d.0.never

  -- "what As run writes for an accepted table is shown to be the beginning of a run that demand 3 speaks of"
  pub as_run_keeps_time : (a n : ℕ) → DecidesOf p a s (Accepted n)
      → (xs zs : List ℕ) → KeepsTime (system_of p s) (listed (system_of p s) xs zs)
  as_run_keeps_time a n d xs zs = demand_3 a n d (listed (system_of p s) xs zs)
