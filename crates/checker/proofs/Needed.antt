-- What the run of the schedule says of the slots needed, of which there are at most 2^48. It went up to the allowance, or up to 2^48
-- if that is less, and its marks Omax + k × H were compared. It stopped at the earliest miss; or at the first mark with the state of
-- the mark before, which settles it; or it went through, and then the slots needed exceed the allowance. `decide` uses one law for
-- each of the three.
use mathlib.Core.Path.{◌≡◌, refl, sym, ap, ◌∙◌}
use mathlib.Core.Logic.{◌≢◌}
use mathlib.Core.Bool.{Bool, true, false}
use mathlib.Core.List.{List, []}
use Prim.Native.Nat.{ℕ, suc, ◌+◌, ◌≤◌, ◌<◌, min, pred}
use native.Mathlib.Omega.{arith}
use lib.ListN.{get_or}
use Rattle.rules.specs.declared.Row.{Row}
use Rattle.rules.specs.declared.Table.{Table}
use Rattle.rules.specs.declared.Verdict.{Verdict}
use Rattle.rules.specs.declared.Verdict.TheVariants.{Accepted, Missed, Undecided, Refused}
use Rattle.rules.specs.Table.{no_row, omax, hyper}
use Rattle.rules.specs.Policies as policies
use Rattle.rules.specs.Slots as rules
use Rattle.rules.specs.Decided.{Same, missed_at, Equal}
use Rattle.rules.specs.Verdicts.{missed_id, Decides}
use Rattle.basics.specs.Cases.{le_case, clash}
use Rattle.basics.specs.Lists.{any_default}
use Rattle.theory.specs.Policies.{policy_repeats}
use Rattle.theory.specs.Times.{Short, Turn}
use Rattle.theory.specs.AsRun.{listed_nothing}
use Rattle.theory.specs.Decides.{Within}
use Rattle.theory.proofs.Rows as rows
use Rattle.theory.proofs.Ends.{end_missed, end_through, end_settled}
use Rattle.theory.proofs.Completions.{seen_worst}
use Rattle.machine.specs.declared.Stop.{Stop}
use Rattle.machine.specs.declared.Why.TheVariants as why
use Rattle.machine.specs.Machine.{live, Sound, system_in, choices, miss_at, mark_of, SameAt, miss_of, repeats_in, Repeated, Ran}
use Rattle.checker.specs.Outcomes.{Outcomes}
use Rattle.machine.proofs.SoundTables.{valid, count_top, id_in, deadline_some}

-- a run that stopped with no miss has none up to where it stopped. `Written` uses it too
pub clean_upto : {p : ℕ} {t : Table} {xs zs : List ℕ} {first end : ℕ} {q : Stop} → Ran p t xs zs first end q → miss_of q.why ≡ 0
    → (v : ℕ) → v ≤ q.time → miss_at p t xs zs v ≡ 0
clean_upto {q = q} ran none v h = le_case q.time v
    (λ k. let e : v ≡ q.time = omega arith in rw e (sym ran.miss ∙ none))
    (λ k. ran.clean v k)

-- where it stopped at a miss of a row, there is a miss, which is of the task whose id the code reads
pub missed_row : {p : ℕ} {t : Table} {xs zs : List ℕ} {first end : ℕ} {q : Stop} → Sound t → Ran p t xs zs first end q
    → {row i : ℕ} (none : Row) → q.why ≡ why.Missed row → i ≡ (get_or t.rows row none).id
    → (miss_at p t xs zs q.time ≢ 0) × (i ≡ missed_id (system_in p t) (choices p t xs zs) q.time)
missed_row {p} {t} {xs} {zs} sound ran {row} none missed its =
    let same : suc row ≡ miss_at p t xs zs _ = ap miss_of (sym missed) ∙ ran.miss in
    let low : row < t.count = omega (arith, ran.task, ap miss_of missed) in
    let read = any_default t.rows row none no_row (omega (arith, sound.full, count_top t sound)) in (
      λ z. omega (arith, same),
      its ∙ ap (λ (w : Row). w.id) read ∙ id_in t sound row low ∙ ap (λ (m : ℕ). (policies.row (live t) (pred m)).id) same,
    )

-- only an accepted reply has worst responses
abbrev accepts : Verdict → Bool
accepts (Accepted n) = true
accepts (Missed t i) = false
accepts Undecided = false
accepts (Refused n q) = false

-- two times with one state, of the run said in another way
same_on : (y : policies.System) (u v : ℕ) {c d : ℕ → rules.Choice} → c ≡ d → Same y.tasks (rules.run y c u) (rules.run y c v)
    → Same y.tasks (rules.run y d u) (rules.run y d v)
same_on y u v e m = rw e at m

-- with no lists the run in hand is the schedule
module _ (p : ℕ) (t : Table) where
  as_stated : choices p t [] [] ≡ rules.stated (system_in p t)
  as_stated = listed_nothing (system_in p t)

  miss_stated : (u : ℕ) → miss_at p t [] [] u ≡ missed_at (system_in p t) (rules.stated (system_in p t)) u
  miss_stated u = ap (λ (c : ℕ → rules.Choice). missed_at (system_in p t) c u) as_stated

  equal_stated : (k : ℕ) → SameAt p t [] [] k → Equal (system_in p t) t.omax t.hyper k
  equal_stated k = same_on (system_in p t) (mark_of t k) (mark_of t (suc k)) as_stated

  stated_equal : (k : ℕ) → Equal (system_in p t) t.omax t.hyper k → SameAt p t [] [] k
  stated_equal k = same_on (system_in p t) (mark_of t k) (mark_of t (suc k)) (sym as_stated)

module _ (p : ℕ) (t : Table) (g : Sound t) where
  -- what the theory asks
  short_in : Short (system_in p t)
  short_in = rows.shorts (policies.policy p) (policy_repeats p) (live t) (valid t g).passes

  turn_in : Turn (system_in p t) t.hyper
  turn_in = rw g.hyper (rows.turn (policies.policy p) (policy_repeats p) (live t) (valid t g).passes)

  within_in : Within (system_in p t) t.omax t.hyper
  within_in = rw (g.omax, g.hyper) (rows.within (policies.policy p) (policy_repeats p) (live t) (valid t g).passes)

  -- THE RUN up to the allowance a, or up to 2^48
  module _ (a : ℕ) (q : Stop) (ran : Ran p t [] [] t.omax (min a 281474976710656) q) where
    clean : (v : ℕ) → v < q.time → missed_at (system_in p t) (rules.stated (system_in p t)) v ≡ 0
    clean v h = sym (miss_stated p t v) ∙ ran.clean v h

    pub missed_end : {row i : ℕ} (none : Row) → q.why ≡ why.Missed row → i ≡ (get_or t.rows row none).id
        → Outcomes p t a (record { verdict = Missed q.time i; worst = q.worst })
    missed_end {i = i} none missed its =
        let found = missed_row g ran none missed its in
        let id : i ≡ missed_id (system_in p t) (rules.stated (system_in p t)) q.time =
        found.1 ∙ ap (λ (c : ℕ → rules.Choice). missed_id (system_in p t) c q.time) (as_stated p t) in
        record {
          decides = rw id (end_missed (system_in p t) (omax (live t)) (hyper (live t)) a q.time (omega (arith, ran.most))
              (λ e. found.0 (miss_stated p t q.time ∙ e)) clean);
          worst = λ n e. clash (ap accepts e) refl;
        }

    -- it stopped at a mark with the state of the mark before: `from`
    module _ (again : q.why ≡ why.Repeats) where
      stop : Repeated p t [] [] q.time
      stop = ran.repeats (ap repeats_in again)

      abbrev from : ℕ
      from = mark_of t stop.k

      next : mark_of t (suc stop.k) ≡ from + t.hyper
      next = omega arith

      equal : Equal (system_in p t) t.omax t.hyper stop.k
      equal = equal_stated p t stop.k stop.same

      settles : Decides (system_in p t) t.omax t.hyper a (Accepted (mark_of t (suc stop.k)))
      settles = end_settled (system_in p t) short_in t.omax t.hyper turn_in within_in.some within_in.offsets a stop.k
          (omega (arith, ran.most, stop.mark)) equal (λ i h e. stop.apart i h (stated_equal p t i e))
          (λ v h. clean v (omega (arith, stop.mark)))

      pub accepted_end : Outcomes p t a (record { verdict = Accepted q.time; worst = q.worst })
      accepted_end = record {
        decides = rw (stop.mark, ← g.omax, ← g.hyper) settles;
        worst = λ n e i low. seen_worst (system_in p t) short_in t.hyper turn_in within_in.some from
            (λ j. omega (arith, within_in.offsets j))
            (rw next at equal) settles.0.never i (omega (arith, g.count))
            (deadline_some t g i low) (get_or q.worst i 0) (rw (stop.mark ∙ next) at (ran.seen (ap miss_of again) (as_stated p t) i low));
      }

    -- it went through: neither a miss nor an equal state is within it, and 2^48 slots always decide
    module _ (ended : q.why ≡ why.Ended) where
      none : miss_of q.why ≡ 0
      none = ap miss_of ended

      apart : repeats_in q.why ≡ false
      apart = ap repeats_in ended

      through : Decides (system_in p t) (omax (live t)) (hyper (live t)) q.time Undecided
      through = rw (← g.omax, ← g.hyper) (end_through (system_in p t) t.omax t.hyper q.time
          (λ v h. sym (miss_stated p t v) ∙ clean_upto ran none v h)
          (λ i h e. ran.apart apart none refl i (omega (arith, ran.most)) (stated_equal p t i e)))

      pub undecided_end : Outcomes p t a (record { verdict = Undecided; worst = q.worst })
      undecided_end =
          let most = rows.at_most (policies.policy p) (policy_repeats p) (live t) (valid t g) in
          record {
            decides = λ n s. omega (arith, most n s, through n s, ran.through apart none);
            worst = λ n e. clash (ap accepts e) refl;
          }
