-- From a painted buffer to the bytes and the reply that the rules ask: `written_whole` for the bytes, one law for each end of
-- `as_run`, and `schedule_as_run`. The idea: what follows slot t in the buffer is what the rules write from t on, by the slots that
-- remain. Up to the first miss the two bytes of a slot are the run's, and from there on 0 and 3.
use mathlib.Core.Path.{◌≡◌, refl, ap, ◌∙◌}
use mathlib.Core.Logic.{◌≢◌, inl}
use mathlib.Core.Bool.{false}
use mathlib.Core.List.{List, [], ◌∷◌}
use Prim.Native.Nat.{ℕ, zero, suc, ◌+◌, ◌*◌, ◌/◌, ◌%◌, ◌≤◌, ◌<◌}
use native.Mathlib.Omega.{arith}
use lib.Dec.{eqb}
use lib.ListN.{get_or, length, drop}
use lib.Seq.{drop-cons, drop-length}
use borrow.Author.Tests.{eq-eqb, ne_eqb, eqb-true, ltb-false}
use Rattle.rules.specs.declared.Row.{Row}
use Rattle.rules.specs.declared.Refusal.{Refusal}
use Rattle.rules.specs.declared.ScheduleReply.{ScheduleReply}
use Rattle.rules.specs.declared.ScheduleReply.TheVariants.{Filled, Missed}
use Rattle.rules.specs.declared.Table.{Table}
use Rattle.rules.specs.Policies as policies
use Rattle.rules.specs.Slots.{Choice, who, to_load, run}
use Rattle.rules.specs.Decided.{missed_at}
use Rattle.rules.specs.Sources.{Source}
use Rattle.rules.specs.Checks.{slots_wrong}
use Rattle.rules.specs.AsRun.{listed}
use Rattle.rules.specs.Schedules.{id_byte, kind_byte, marks, written, Writes, ScheduleIs, AsRunIs}
use Rattle.rules.specs.Verdicts.{system_of}
use Rattle.theory.specs.AsRun.{listed_nothing}
use Rattle.basics.specs.Cases.{test, le_case, clash}
use Rattle.slots.specs.Jobs.{never}
use Rattle.machine.specs.declared.Stop.{Stop}
use Rattle.machine.specs.declared.Why.TheVariants as why
use Rattle.machine.specs.Machine.{Sound, system_in, choices, miss_of, Ran, PaintedRun}
use Rattle.machine.specs.Paint.{Painted}
use Rattle.checker.specs.Outcomes.{Passes}
use Rattle.checker.proofs.Needed.{clean_upto, missed_row}
use Rattle.machine.proofs.Painted.{painted_none}

-- THE BYTES

drop_slot : (l : List ℕ) (t : ℕ) → t * 2 + 1 < length l → drop (t * 2) l ≡ get_or l (t * 2) 0 ∷ get_or l (t * 2 + 1) 0 ∷ drop (suc t * 2) l
drop_slot l t h =
    let e : t * 2 + 1 ≡ suc (t * 2) = omega arith in
    let f : suc t * 2 ≡ suc (suc (t * 2)) = omega arith in
    rw (e, f) (drop-cons l (t * 2) 0 (omega arith)
    ∙ ap (λ (r : List ℕ). get_or l (t * 2) 0 ∷ r) (drop-cons l (suc (t * 2)) 0 (omega arith)))

drop_end : (l : List ℕ) (n : ℕ) → length l ≡ n → drop n l ≡ []
drop_end l n e = rw (← e) (drop-length l)

module _ (n m : ℕ) {mid after : List ℕ} (size : length mid ≡ n * 2) (p : Painted (λ u. 0) (λ u. 3) m n mid after) where
  marks_from : (d t : ℕ) → m ≤ t → t + d ≡ n → drop (t * 2) after ≡ marks d
  unfolding marks
  marks_from zero t low e = drop_end after (t * 2) (omega (arith, p.size))
  marks_from (suc d) t low e = drop_slot after t (omega (arith, p.size))
      ∙ rw (
        p.id t low (omega arith) (omega arith),
        p.kind t low (omega arith) (omega arith),
        marks_from d (suc t) (omega arith) (omega arith),
      )

module _ (y : policies.System) (c : ℕ → Choice) where
  abbrev pub id_at : ℕ → ℕ
  id_at u = id_byte y (who y (c u) u (run y c u))

  abbrev pub kind_at : ℕ → ℕ
  kind_at u = kind_byte (who y (c u) u (run y c u)) (to_load y (c u) u (run y c u))

  module _ (n m : ℕ) {before mid after : List ℕ} (size : length before ≡ n * 2) (clean : (u : ℕ) → u < m → missed_at y c u ≡ 0)
      (miss : m < n → missed_at y c m ≢ 0) (p : Painted id_at kind_at 0 m before mid) (q : Painted (λ u. 0) (λ u. 3) m n mid after) where
    written_from : (d t : ℕ) → t ≤ m → t + d ≡ n → drop (t * 2) after ≡ written y c t d
    unfolding written
    written_from zero t low e = drop_end after (t * 2) (omega (arith, p.size, q.size))
    written_from (suc d) t low e = le_case m t
        (λ h. let f : m ≡ t = omega arith in
        rw (ne_eqb (missed_at y c t) 0 (rw f at (miss (omega arith)))) (marks_from n m (p.size ∙ size) q (suc d) t h e))
        (λ h. rw (eq-eqb (missed_at y c t) 0 (clean t h)) (
        drop_slot after t (omega (arith, p.size, q.size))
        ∙ rw (
          q.stays (t * 2) (inl (omega arith)),
          p.id t (omega arith) h (omega arith),
          q.stays (t * 2 + 1) (inl (omega arith)),
          p.kind t (omega arith) h (omega arith),
          written_from d (suc t) h (omega arith),
        )))

    -- the slots before m are the run's, and those from m on are marked, where the run misses a deadline at m
    pub written_whole : m ≤ n → after ≡ written y c 0 n
    written_whole h = written_from n 0 (omega arith) (omega arith)

-- THE REPLY OF A TABLE IN HAND: the run over the slots there is room for, with no mark compared

-- what the check of the buffer's length leaves: an even number of bytes, and not too many
slots_fit : (n : ℕ) → slots_wrong n ≡ false → (n ≡ n / 2 * 2) × (n ≤ 65536)
slots_fit n h = test (eqb (n % 2) 0) (λ e. omega (arith, eqb-true (n % 2) 0 e, ltb-false 65536 n (rw e at h))) (λ e. clash refl (rw e at h))

-- the system said in another way
writes_in : {f : Refusal} {y z : policies.System} (xs zs : List ℕ) {before after : List ℕ} {r : ScheduleReply} → y ≡ z
    → Writes f y (listed y xs zs) before after r → Writes f z (listed z xs zs) before after r
writes_in xs zs e w = rw e at w

module _ (p : ℕ) (t : Table) (xs zs : List ℕ) {before mid : List ℕ} (f : Refusal) (none : f.number ≡ 0)
    (even : length before ≡ length before / 2 * 2)
    (q : Stop) (ran : Ran p t xs zs never (length before / 2) q) (painted : PaintedRun p t xs zs 0 q.time before mid) where
  writes_filled : miss_of q.why ≡ 0 → Writes f (system_in p t) (choices p t xs zs) before mid Filled
  writes_filled e =
      let all = ran.through (ran.alone refl) e in
      record {
        refused = λ h. absurd (h none);
        filled = λ h. (
          λ u low. clean_upto ran e u (omega arith),
          written_whole (system_in p t) (choices p t xs zs) (length before / 2) q.time even ran.clean (λ k. absurd (omega arith)) painted
              (painted_none (λ u. 0) (λ u. 3) mid (omega arith)) ran.most,
        );
      }

  writes_missed : Sound t → {after : List ℕ} {row i : ℕ} (blank : Row) → q.why ≡ why.Missed row → i ≡ (get_or t.rows row blank).id
      → Painted (λ u. 0) (λ u. 3) q.time (length before / 2) mid after
      → Writes f (system_in p t) (choices p t xs zs) before after (Missed q.time i)
  writes_missed sound blank missed its marked =
      let found = missed_row sound ran blank missed its in
      record {
        refused = λ h. absurd (h none);
        filled = λ h. (
          (record { misses = found.0; before = ran.clean }, ran.most, found.1),
          written_whole (system_in p t) (choices p t xs zs) (length before / 2) q.time even ran.clean (λ k. found.0)
              painted marked ran.most,
        );
      }

-- AS RUN, of what the code has found

module _ {p : ℕ} {s : Source} {before : List ℕ} {t : Table} (passes : Passes p (slots_wrong (length before)) s t)
    {xs zs mid : List ℕ} {q : Stop} (ran : Ran p t xs zs never (length before / 2) q)
    (painted : PaintedRun p t xs zs 0 q.time before mid) where
  system_is : system_in p t ≡ system_of p s
  system_is = ap (policies.system (policies.policy p)) passes.tasks

  pub as_run_filled : miss_of q.why ≡ 0 → AsRunIs p s xs zs before mid Filled
  as_run_filled m =
      writes_in xs zs system_is (writes_filled p t xs zs _ passes.none (slots_fit (length before) passes.fit).0 q ran painted m)

  pub as_run_missed : {after : List ℕ} {row i : ℕ} (blank : Row) → q.why ≡ why.Missed row → i ≡ (get_or t.rows row blank).id
      → Painted (λ u. 0) (λ u. 3) q.time (length before / 2) mid after → AsRunIs p s xs zs before after (Missed q.time i)
  as_run_missed blank missed its marked = writes_in xs zs system_is
      (writes_missed p t xs zs _ passes.none (slots_fit (length before) passes.fit).0 q ran painted passes.sound blank missed its marked)

-- THE SCHEDULE is as run with no list

writes_as : {f : Refusal} {y : policies.System} {c d : ℕ → Choice} {before after : List ℕ} {r : ScheduleReply} → c ≡ d
    → Writes f y c before after r → Writes f y d before after r
writes_as e w = rw e at w

pub schedule_as_run : (p : ℕ) (s : Source) (before after : List ℕ) (r : ScheduleReply) → AsRunIs p s [] [] before after r
    → ScheduleIs p s before after r
schedule_as_run p s before after r w = writes_as (listed_nothing (system_of p s)) w
