-- How large a reply is: every reply that the rules give to a small source is small, so that it crosses as one number. Times are at most
-- 2^48, the allowance that always decides, or the slots of a lent buffer; ids are at most 255 where the table passes. The place of a
-- refusal is a line of a text of at most 4,096 bytes, or an id that 32 bits hold. The exported functions use it, and Unpacked.
use mathlib.Core.Path.{◌≡◌, refl}
use mathlib.Core.Logic.{inl, inr}
use mathlib.Core.Bool.{Bool, true, false, ◌&&◌}
use mathlib.Core.List.{List, [], ◌∷◌, map}
use Prim.Native.Nat.{ℕ, zero, suc, ◌+◌, ◌*◌, ◌-◌, ◌/◌, ◌%◌, ◌^◌, ◌≤◌, ◌<◌, pred}
use native.Mathlib.Nat.{add-zero, zero-add, pow-suc, pow-le-pow_right}
use native.Mathlib.Omega.{arith}
use borrow.Author.Tests.{eqb-true, eqb-false, leb-true, ltb-true, ltb-false}
use lib.Dec.{eqb, leb, ltb}
use lib.ListN.{length, drop, get_or}
use Rattle.std.specs.Prelude.{Result}
use Rattle.rules.specs.declared.Row.{Row}
use Rattle.rules.specs.declared.Refusal.{Refusal}
use Rattle.rules.specs.Text.{lines, header, same, fields, is_digit, digits, inner, good, closed, nil, behind, shaped, all, well_formed, first_bad, ill_formed, bad_line, number, value, row_of, rows_of, breaks, opened, push}
use Rattle.rules.specs.declared.Verdict.{Verdict}
use Rattle.rules.specs.declared.ScheduleReply.{ScheduleReply}
use Rattle.rules.specs.Table.{omax, hyper}
use Rattle.rules.specs.Sources.{Source, text_source}
use Rattle.rules.specs.Checks.{within, better, smallest, fault, place, found, checks, first_fault, refusal_of, check, policy_wrong, too_few, slots_wrong, verdict_refusal, refusal_for, slots_refusal, ids_refusal}
use Rattle.rules.specs.Policies.{policy, row}
use Rattle.rules.specs.Slots.{Choice, complete, run, stated}
use Rattle.rules.specs.Decided.{missed_at, SlotsNeeded}
use Rattle.rules.specs.Verdicts.{tasks_of, system_of, missed_id, plain, DecidesOf, Replies, VerdictIs, response, Worst}
use Rattle.rules.specs.Schedules.{Fills, Writes}
use Rattle.rules.specs.Written.{IdsAre}
use Rattle.rules.specs.declared.Verdict.TheVariants as verdict
use Rattle.rules.specs.declared.ScheduleReply.TheVariants as schedule
use Rattle.basics.specs.Cases.{test, eq_case, clash, both_true}
use Rattle.basics.specs.Search.{lowest_top}
use Rattle.reordering.specs.All.{All}
use Rattle.reordering.specs.Canonical.{canonical_length}
use Rattle.reordering.specs.Passed.{Fine, Passed, passed, check_none, lent_none, passed_canonical}
use Rattle.theory.specs.Policies.{policy_repeats}
use Rattle.theory.proofs.Rows.{at_most}
use Rattle.theory.proofs.Sources.{valid_rows}
use Rattle.boundary.specs.Packed.{SmallRefusal, Small, SmallSchedule, SmallWrite}
use Rattle.boundary.specs.Crossing.{bytes_refusal}

-- A TEXT: an id of at most five digits, which 32 bits hold

digit_low : (b : ℕ) → is_digit b ≡ true → b - 48 ≤ 9
digit_low b e = test (ltb b 48) (λ l. clash (rw l at e) refl) (λ l. omega (arith, leb-true b 57 (rw l at e)))

-- a has i digits, and those at the front of s follow it
number_low : (s : List ℕ) (a i : ℕ) → a + 1 ≤ 10 ^ i → number a (digits s) + 1 ≤ 10 ^ (i + length (digits s))
unfolding number digits
number_low [] a i h = rw (add-zero i) h
number_low (b ∷ s) a i h = test (is_digit b)
    (λ e. let on : i + suc (length (digits s)) ≡ suc i + length (digits s) = omega arith in
    rw (e, on) (number_low s (a * 10 + (b - 48)) (suc i) (rw (pow-suc 10 i) (omega (arith, digit_low b e)))))
    (λ e. rw (e, add-zero i) h)

value_low : (f : List ℕ) → good f ≡ true → value f ≤ 99999
value_low f e =
    let ds = digits (inner f) in
    let shape = (both_true (nil (behind f)) (shaped ds) (both_true (closed f) _ e).1).1 in
    let five = leb-true (length ds) 5 (both_true (leb (length ds) 5) _ (both_true (leb 1 (length ds)) _ shape).1).0 in
    let low : value f + 1 ≤ 10 ^ length ds = rw (zero-add (length ds)) at (number_low (inner f) 0 0 (omega arith)) in
    omega (arith, pow-le-pow_right {n = 10} (omega arith) five)

abbrev Low : Row → Type 0
Low r = r.id < 2 ^ 32

first_low : (fs : List (List ℕ)) → all good fs ≡ true → get_or (map value fs) 0 0 ≤ 99999
unfolding all
first_low [] h = omega arith
first_low (f ∷ fs) h = value_low f (both_true (good f) (all good fs) h).0

id_low : (l : List ℕ) → well_formed l ≡ true → Low (row_of l)
id_low l e = omega (arith, first_low (fields l) (both_true (eqb (length (fields l)) 8) (all good (fields l)) e).1)

rows_low : (n : ℕ) (ls : List (List ℕ)) → 0 < n → first_bad n ls ≡ 0 → All Low (map row_of ls)
unfolding first_bad
rows_low n [] h e = tt
rows_low n (l ∷ ls) h e = test (well_formed l)
    (λ w. (id_low l w, rows_low (suc n) ls (omega arith) (rw w at e)))
    (λ w. absurd (omega (arith, rw w at e)))

text_low : (s : List ℕ) → bad_line s ≡ 0 → All Low (rows_of s)
text_low s e = go (lines s) e
  where
    go : (ls : List (List ℕ)) → ill_formed ls ≡ 0 → All Low (map row_of (drop 1 ls))
    go [] h = absurd (omega arith)
    go (l ∷ ls) h = test (same l header) (λ w. rows_low 2 ls (omega arith) (rw w at h)) (λ w. absurd (omega (arith, rw w at h)))

-- THE PLACE OF CHECKS 6 TO 12

better_low : (hit : Bool) (id b : ℕ) → id < 2 ^ 32 → b ≤ 2 ^ 32 → better hit id b ≤ 2 ^ 32
better_low false id b h k = k
better_low true id b h k = test (eqb b 0)
    (λ e. rw e (omega arith))
    (λ e. rw e (test (ltb (id + 1) b) (λ l. rw l (omega arith)) (λ l. rw l k)))

smallest_low : (p : Row → Bool) (b : ℕ) (rs : List Row) → All Low rs → b ≤ 2 ^ 32 → smallest p b rs ≤ 2 ^ 32
unfolding smallest
smallest_low p b [] h k = k
smallest_low p b (r ∷ rs) h k = smallest_low p (better (p r) r.id b) rs h.1 (better_low (p r) r.id b h.0 k)

abbrev SmallR : Refusal → Type 0
SmallR f = SmallRefusal f.number f.place

found_low : (n : ℕ) (rows : List Row) → All Low rows → found n rows ≤ 2 ^ 32
unfolding found place
found_low n rows h = test (eqb n 5)
    (λ e. rw e (test (within 1 16 (length rows)) (λ k. rw k (omega arith)) (λ k. rw k (omega arith))))
    (λ e. test (eqb n 13)
    (λ f. rw (e, f) (test (leb (hyper rows) 100000) (λ k. rw k (omega arith)) (λ k. rw k (omega arith))))
    (λ f. rw (e, f) (smallest_low (fault n rows) 0 rows h (omega arith))))

-- numbers of checks are below 32
abbrev narrow : List ℕ → Bool
narrow [] = true
narrow (n ∷ ns) = ltb n 32 && narrow ns

fault_small : (ns : List ℕ) (rows : List Row) → narrow ns ≡ true → All Low rows → SmallR (first_fault ns rows)
unfolding first_fault
fault_small [] rows k h = (omega arith, omega arith)
fault_small (n ∷ ns) rows k h =
    let both = both_true (ltb n 32) (narrow ns) k in
    test (eqb (found n rows) 0)
    (λ e. rw e (fault_small ns rows both.1 h))
    (λ e. rw e (ltb-true n 32 both.0, omega (arith, found_low n rows h, eqb-false (found n rows) 0 e)))

-- THE LINE OF CHECK 4

opened_length : (s : List ℕ) (ls : List (List ℕ)) → length (opened s ls) ≤ length ls
opened_length [] ls = omega arith
opened_length (b ∷ s) ls = omega arith

push_length : (b : ℕ) (ls : List (List ℕ)) → length (push b ls) ≤ suc (length ls)
push_length b [] = omega arith
push_length b (l ∷ ls) = omega arith

lines_length : (s : List ℕ) → length (lines s) ≤ suc (length s)
unfolding lines
lines_length [] = omega arith
lines_length (b ∷ []) = omega arith
lines_length (b ∷ c ∷ s) = test (breaks (b ∷ c ∷ s))
    (λ e. rw e (omega (arith, opened_length s (lines s), lines_length s)))
    (λ e. rw e (omega (arith, push_length b (lines (c ∷ s)), lines_length (c ∷ s))))

bad_length : (n : ℕ) (ls : List (List ℕ)) → first_bad n ls ≤ n + length ls
unfolding first_bad
bad_length n [] = omega arith
bad_length n (l ∷ ls) = test (well_formed l) (λ e. rw e (omega (arith, bad_length (suc n) ls))) (λ e. rw e (omega arith))

bad_low : (s : List ℕ) → length s ≤ 4096 → bad_line s ≤ 99999
bad_low s h = go (lines s) (omega (arith, lines_length s))
  where
    go : (ls : List (List ℕ)) → length ls ≤ 4097 → ill_formed ls ≤ 99999
    go [] k = omega arith
    go (l ∷ ls) k = test (same l header) (λ e. rw e (omega (arith, bad_length 2 ls))) (λ e. rw e (omega arith))

-- EVERY REFUSAL of a source whose own is small and whose ids 32 bits hold

pub record SmallSource (s : Source) : Type 0 where
  pub own : SmallR s.refusal
  pub ids : All Low s.rows

pub text_small : (s : List ℕ) → SmallSource (text_source s)
unfolding text_source
text_small s = test (leb (length s) 4096)
    (λ e. test (eqb (bad_line s) 0)
    (λ f. rw (e, f) (record { own = (omega arith, omega arith); ids = text_low s (eqb-true (bad_line s) 0 f) }))
    (λ f. rw (e, f) (record { own = (omega arith, omega (arith, bad_low s (leb-true (length s) 4096 e))); ids = tt })))
    (λ e. rw e (record { own = (omega arith, omega arith); ids = tt }))

read_small : (s : Source) → SmallSource s → SmallR (refusal_of s)
unfolding refusal_of
read_small s h = test (eqb s.refusal.number 0)
    (λ e. rw e (fault_small checks s.rows refl h.ids))
    (λ e. rw e h.own)

check_small : (n : ℕ) (b : Bool) (f : Refusal) → n < 32 → SmallR f → SmallR (check n b f)
check_small n true f h k = (h, omega arith)
check_small n false f h k = k

-- A TABLE THAT PASSES

row_low : (ws : List Row) → All Fine ws → (i : ℕ) → ((row ws i).id ≤ 255) × ((row ws i).period ≤ 10000)
row_low [] h i = (omega arith, omega arith)
row_low (w ∷ ws) h zero = (h.0.id_high, h.0.period_high)
row_low (w ∷ ws) h (suc i) = row_low ws h.1 i

module _ (s : Source) (fine : (refusal_of s).number ≡ 0) where
  tasks_pass : Passed (tasks_of s)
  tasks_pass = passed_canonical s.rows (passed s fine).1

  pub tasks_few : length (tasks_of s) ≤ 16
  tasks_few = tasks_pass.few

  task_low : (i : ℕ) → ((row (tasks_of s) i).id ≤ 255) × ((row (tasks_of s) i).period ≤ 10000)
  task_low = row_low (tasks_of s) tasks_pass.fine

  missed_low : (p : ℕ) (c : ℕ → Choice) (t : ℕ) → missed_id (system_of p s) c t ≤ 255
  missed_low p c t = (task_low (pred (missed_at (system_of p s) c t))).0

  pub worst_low : (p i m : ℕ) → Worst (system_of p s) i m → m ≤ 10001
  unfolding response
  worst_low p i m w =
      let y = system_of p s in
      omega (arith, w.takes, (task_low i).1, lowest_top (λ e. complete (run y (stated y) (w.at + suc e)) i) (y.row i).period)

  needed_low : (p n : ℕ) → SlotsNeeded (system_of p s) (omax (tasks_of s)) (hyper (tasks_of s)) plain n → n ≤ 2 ^ 48
  needed_low p = at_most (policy p) (policy_repeats p) (tasks_of s) (valid_rows (tasks_of s) tasks_pass)

  decides_small : (p a : ℕ) (v : Verdict) → DecidesOf p a s v → Small v
  decides_small p a (verdict.Accepted n) d = needed_low p n (inr d.0)
  decides_small p a (verdict.Missed t i) d = (needed_low p t (inl d.0), rw d.2 (missed_low p (stated (system_of p s)) t))
  decides_small p a verdict.Undecided d = tt
  decides_small p a (verdict.Refused n q) d = absurd d

-- VERDICT AND RESPONSES, SCHEDULE AND AS RUN, IDS
slots_low : (n : ℕ) → slots_wrong n ≡ false → n ≤ 65536
slots_low n e = test (eqb (n % 2) 0) (λ h. ltb-false 65536 n (rw h at e)) (λ h. clash refl (rw h at e))

module _ (s : Source) (small : SmallSource s) (p : ℕ) where
  replies_small : (f : Refusal) (a : ℕ) (v : Verdict) → SmallR f → (f.number ≡ 0 → (refusal_of s).number ≡ 0)
      → Replies f (DecidesOf p a s) v → Small v
  replies_small f a v h fine r = eq_case f.number 0
      (λ e. decides_small s (fine e) p a v (r.decided e))
      (λ e. rw (r.refused e) h)

  pub verdict_small : (a : ℕ) (v : Verdict) → VerdictIs p a s v → Small v
  verdict_small a v = replies_small (verdict_refusal p s) a v
      (check_small 1 (policy_wrong p) (refusal_of s) (omega arith) (read_small s small))
      (λ e. (check_none 0 (policy_wrong p) (refusal_of s) e).1)

  lent_small : (unfit : Bool) → SmallR (refusal_for p unfit s)
  lent_small unfit =
      check_small 1 (policy_wrong p) (check 2 unfit (refusal_of s)) (omega arith)
      (check_small 2 unfit (refusal_of s) (omega arith) (read_small s small))

  pub bytes_small : (a n : ℕ) (v : Verdict) → Replies (bytes_refusal p n s) (DecidesOf p a s) v → Small v
  bytes_small a n v = replies_small (bytes_refusal p n s) a v (lent_small (ltb n 64)) (λ e. (lent_none p (ltb n 64) s e).1)

  pub writes_small : (c : ℕ → Choice) (before after : List ℕ) (v : ScheduleReply)
      → Writes (slots_refusal p (length before) s) (system_of p s) c before after v → SmallSchedule v
  writes_small c before after v w = eq_case (slots_refusal p (length before) s).number 0
      (λ e. let k = lent_none p (slots_wrong (length before)) s e in go v k.0 k.1 (w.filled e).0)
      (λ e. rw (w.refused e).0 (lent_small (slots_wrong (length before))))
    where
      go : (v : ScheduleReply) → slots_wrong (length before) ≡ false → (refusal_of s).number ≡ 0
          → Fills (system_of p s) c (length before / 2) v → SmallSchedule v
      go schedule.Filled h fine d = tt
      go (schedule.Missed t i) h fine d = (omega (arith, d.1, slots_low (length before) h), rw d.2 (missed_low s fine p c t))
      go (schedule.Refused n q) h fine d = absurd d

pub ids_small : (s : Source) → SmallSource s → (before after : List ℕ) (v : Result ℕ Refusal) → IdsAre s before after v → SmallWrite v
ids_small s small before after v d =
    let unfit = too_few (length before) in
    eq_case (ids_refusal (length before) s).number 0
    (λ e. rw (d.written e).0 (omega (arith, tasks_few s (check_none 1 unfit (refusal_of s) e).1, canonical_length s.rows)))
    (λ e. rw (d.refused e).0 (check_small 2 unfit (refusal_of s) (omega arith) (read_small s small)))

-- what the exported functions cite: the checker's reply to a text is small, so that it has a number
pub ruleset replies = (text_small, verdict_small, bytes_small, writes_small, ids_small)
