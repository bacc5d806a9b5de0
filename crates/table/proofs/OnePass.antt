-- One pass over the rows finds what the row checks find one by one. `Surveying` is the loop of surveyed: the rows seen pass the
-- checks of a single row, each key seen is marked and was met once, and offsets and periods are those of the rows seen. A check that
-- fails in the pass is a fault of the rows (`faulty_row`, `faulty_id`, `faulty_priority`); where the pass ends, there is none
-- (`surveying_done`).
use mathlib.Core.Path.{◌≡◌, refl, sym, ap, ◌∙◌}
use mathlib.Core.Logic.{◌≢◌}
use mathlib.Core.Bool.{Bool, true, false, cond, ◌||◌}
use mathlib.Core.List.{List, [], ◌∷◌, ◌++◌}
use Rattle.std.specs.Prelude.{None, Some}
use Prim.Native.Nat.{ℕ, suc, ◌+◌, ◌≤◌, ◌<◌, max}
use native.Mathlib.Numerals.{add-one}
use native.Mathlib.Omega.{arith}
use lib.Dec.{eqb}
use lib.ListN.{length, take, drop, get_or, set, replicate, length-set, length-replicate, get_or-replicate, drop_of_length-le}
use lib.Seq.{take_all, take-suc, drop-cons, split_at, get_or-set_same, get_or-set_other}
use borrow.Author.Tests.{eq-eqb, ne_eqb, le-leb, lt-leb, le-ltb}
use Rattle.rules.specs.declared.Row.{Row}
use Rattle.rules.specs.Table.{no_row, omax, hyper}
use Rattle.rules.specs.Sources.{nothing}
use Rattle.rules.specs.Checks.{id_wrong, time_wrong, priority_wrong, order_wrong, resume_wrong, key, times}
use Rattle.rules.specs.Checks.{fault, smallest, place, found, row_checks, first_fault}
use Rattle.basics.specs.Cases.{clash, eq_case}
use Rattle.reordering.specs.All.{All, all_at}
use Rattle.reordering.specs.Passed.{Fine, none_found, fine_row, fine_rows, ids_once, priorities_once}
use Rattle.table.specs.Tables.{row_wrong, common_of, survey_of}
use Rattle.table.proofs.Multiples.{joint, joint_start, joint_next, joint_end}

-- THE CHECKS OF A ROW

none_of : (a b : Bool) → (a || b) ≡ false → (a ≡ false) × (b ≡ false)
none_of true b h = clash refl h
none_of false b h = (refl, h)

pub row_fine : (r : Row) → row_wrong r ≡ false → Fine r
row_fine r e =
    let a = none_of (id_wrong r) (time_wrong r || (priority_wrong r || (order_wrong r || resume_wrong r))) e in
    let b = none_of (time_wrong r) (priority_wrong r || (order_wrong r || resume_wrong r)) a.1 in
    let c = none_of (priority_wrong r) (order_wrong r || resume_wrong r) b.1 in
    let d = none_of (order_wrong r) (resume_wrong r) c.1 in
    fine_row r a.0 b.0 c.0 d.0 d.1

module _ (r : Row) (f : Fine r) where
  id_right : id_wrong r ≡ false
  id_right = rw (le-leb 1 r.id f.id_low, le-leb r.id 255 f.id_high)

  time_right : time_wrong r ≡ false
  time_right =
      let wcet : r.wcet ≤ 10000 = omega (arith, f.wcet_deadline, f.deadline_period, f.period_high) in
      let deadline : r.deadline ≤ 10000 = omega (arith, f.deadline_period, f.period_high) in
      let deadline-low : 1 ≤ r.deadline = omega (arith, f.wcet_low, f.wcet_deadline) in
      let period-low : 1 ≤ r.period = omega (arith, f.wcet_low, f.wcet_deadline, f.deadline_period) in
      let resume : r.resume ≤ 10000 = omega (arith, f.resume_start, f.start_high) in
      rw (
        le-leb r.offset 10000 f.offset_high,
        le-leb 1 r.wcet f.wcet_low,
        le-leb r.wcet 10000 wcet,
        le-leb 1 r.deadline deadline-low,
        le-leb r.deadline 10000 deadline,
        le-leb 1 r.period period-low,
        le-leb r.period 10000 f.period_high,
        le-leb r.start 10000 f.start_high,
        le-leb r.resume 10000 resume,
      )

  priority_right : priority_wrong r ≡ false
  priority_right = rw (le-leb 1 r.priority f.priority_low, le-leb r.priority 255 f.priority_high)

  order_right : order_wrong r ≡ false
  order_right = rw (le-leb r.wcet r.deadline f.wcet_deadline, le-leb r.deadline r.period f.deadline_period)

  resume_right : resume_wrong r ≡ false
  resume_right = le-ltb r.start r.resume f.resume_start

  row_right : row_wrong r ≡ false
  row_right = rw (id_right, time_right, priority_right, order_right, resume_right)

-- THE ROWS

smallest_zero : (p : Row → Bool) (P : Row → Type 0) → ((r : Row) → P r → p r ≡ false) → (rs : List Row) → All P rs → smallest p 0 rs ≡ 0
unfolding smallest
smallest_zero p P h [] a = refl
smallest_zero p P h (r ∷ rs) a = rw (h r a.0) (smallest_zero p P h rs a.1)

module _ (rows : List Row) (fine : All Fine rows)
    (once-id : (x : ℕ) → times 7 x rows ≤ 1) (once-priority : (x : ℕ) → times 10 x rows ≤ 1) where
  none_at : (n : ℕ) → ((r : Row) → Fine r → fault n rows r ≡ false) → place n rows ≡ 0
  unfolding place
  none_at n h = smallest_zero (fault n rows) Fine h rows fine

  no_fault : first_fault row_checks rows ≡ nothing
  unfolding fault found first_fault
  no_fault =
      rw (
        none_at 6 id_right,
        none_at 7 (λ r f. lt-leb 2 (times 7 r.id rows) (omega (arith, once-id r.id))),
        none_at 8 time_right,
        none_at 9 priority_right,
        none_at 10 (λ r f. lt-leb 2 (times 10 r.priority rows) (omega (arith, once-priority r.priority))),
        none_at 11 order_right,
        none_at 12 resume_right,
      )

-- A KEY IS MARKED WHERE IT WAS MET: n is 7 for ids and 10 for priorities

abbrev met_once : Bool → ℕ
met_once b = cond b 1 0

pub record Marked (n : ℕ) (marks : List Bool) (seen : List Row) : Type 0 where
  pub full : length marks ≡ 256
  pub met : (x : ℕ) → x < 256 → met_once (get_or marks x false) ≡ times n x seen
  pub once : (x : ℕ) → times n x seen ≤ 1

times_append : (n x : ℕ) (a b : List Row) → times n x (a ++ b) ≡ times n x a + times n x b
unfolding times
times_append n x [] b = omega arith
times_append n x (w ∷ a) b = omega (arith, times_append n x a b)

marked_start : (n : ℕ) → Marked n (replicate 256 false) []
unfolding times
marked_start n = record {
  full = length-replicate {A = Bool} 256 false;
  met = λ x h. ap met_once (get_or-replicate {A = Bool} 256 x false false h);
  once = λ x. omega arith;
}

module _ (n : ℕ) (marks : List Bool) (seen : List Row) (so : Marked n marks seen) (w : Row) (low : key n w < 256) where
  self : met_once (eqb (key n w) (key n w)) ≡ 1
  self = rw (eq-eqb (key n w) (key n w) refl)

  met_twice : get_or marks (key n w) false ≡ true → (rest : List Row) → 2 ≤ times n (key n w) (seen ++ w ∷ rest)
  unfolding times
  met_twice h rest =
      let some : 1 ≡ times n (key n w) seen = rw h at (so.met (key n w) low) in
      omega (arith, times_append n (key n w) seen (w ∷ rest), self, some)

  marked_turn : get_or marks (key n w) false ≡ false → Marked n (set marks (key n w) true) (seen ++ (w ∷ []))
  unfolding times
  marked_turn free =
      let none : 0 ≡ times n (key n w) seen = rw free at (so.met (key n w) low) in
      let long : key n w < length marks = omega (arith, so.full) in
      let other : (x : ℕ) → x ≢ key n w → met_once (eqb (key n w) x) ≡ 0 = λ x q. rw (ne_eqb (key n w) x (λ e. q (sym e))) in
      record {
        full = length-set marks (key n w) true ∙ so.full;
        met = λ x h. eq_case x (key n w)
            (λ q. let same = get_or-set_same marks (key n w) true false long in
            rw q (omega (arith, ap met_once same, times_append n (key n w) seen (w ∷ []), none, self)))
            (λ q. let same = get_or-set_other marks (key n w) x true false q in
            omega (arith, ap met_once same, so.met x h, times_append n x seen (w ∷ []), other x q));
        once = λ x. eq_case x (key n w)
            (λ q. rw q (omega (arith, times_append n (key n w) seen (w ∷ []), none, self)))
            (λ q. omega (arith, so.once x, times_append n x seen (w ∷ []), other x q));
      }

-- THE PASS, i rows seen

pub record Surveying (rows : List Row) (ids priorities : List Bool) (m h i : ℕ) : Type 0 where
  pub fine : All Fine (take i rows)
  pub id_marks : Marked 7 ids (take i rows)
  pub priority_marks : Marked 10 priorities (take i rows)
  pub offsets : max m (omax (drop i rows)) ≡ omax rows
  pub periods : (0 < h) × (h ≤ 100001) × (hyper rows ≡ joint h (drop i rows))

pub surveying_start : (rows : List Row) → Surveying rows (replicate 256 false) (replicate 256 false) 0 1 0
surveying_start rows =
    record {
      fine = tt;
      id_marks = marked_start 7;
      priority_marks = marked_start 10;
      offsets = omega arith;
      periods = (omega arith, omega arith, joint_start rows);
    }

all_snoc : (P : Row → Type 0) (l : List Row) (w : Row) → All P l → P w → All P (l ++ (w ∷ []))
all_snoc P [] w a b = (b, tt)
all_snoc P (r ∷ l) w a b = (a.0, all_snoc P l w a.1 b)

-- the row in hand is w, at place i
module _ {rows : List Row} {ids priorities : List Bool} {m h i : ℕ} (so : Surveying rows ids priorities m h i) (low : i < length rows)
    (w : Row) (here : w ≡ get_or rows i no_row) where
  whole_is : rows ≡ take i rows ++ w ∷ drop (suc i) rows
  whole_is = rw here (split_at rows i no_row low)

  pub faulty_row : row_wrong w ≡ true → (first_fault row_checks rows).number ≢ 0
  faulty_row e z = clash e (row_right w (rw here (all_at Fine rows (fine_rows rows (none_found row_checks rows refl z)) i low)))

  twice : (n x : ℕ) → 2 ≤ times n x (take i rows ++ w ∷ drop (suc i) rows) → times n x rows ≤ 1 → ⊥
  twice n x g k = omega (arith, g, k, ap (times n x) whole_is)

  module _ (fine : Fine w) where
    id_low : w.id < 256
    id_low = omega (arith, fine.id_high)

    priority_low : w.priority < 256
    priority_low = omega (arith, fine.priority_high)

    pub faulty_id : get_or ids w.id false ≡ true → (first_fault row_checks rows).number ≢ 0
    faulty_id e z = twice 7 w.id (met_twice 7 ids (take i rows) so.id_marks w id_low e (drop (suc i) rows))
        (ids_once rows (none_found row_checks rows refl z) w.id)

    pub faulty_priority : get_or priorities w.priority false ≡ true → (first_fault row_checks rows).number ≢ 0
    faulty_priority e z = twice 10 w.priority (met_twice 10 priorities (take i rows) so.priority_marks w priority_low e (drop (suc i) rows))
        (priorities_once rows (none_found row_checks rows refl z) w.priority)

    pub surveying_turn : get_or ids w.id false ≡ false → get_or priorities w.priority false ≡ false
        → (n l : ℕ) → n ≡ max m w.offset → l ≡ common_of h w.period
        → Surveying rows (set ids w.id true) (set priorities w.priority true) n l (i + 1)
    unfolding omax
    surveying_turn a b n l en el =
        let front : take (i + 1) rows ≡ take i rows ++ (w ∷ []) = rw (add-one i, here) (take-suc rows i no_row low) in
        let back : drop i rows ≡ w ∷ drop (i + 1) rows = rw (add-one i, here) (drop-cons rows i no_row low) in
        let joined = joint_next h l w (drop (i + 1) rows) so.periods.0 el in
        record {
          fine = rw front (all_snoc Fine (take i rows) w so.fine fine);
          id_marks = rw front (marked_turn 7 ids (take i rows) so.id_marks w id_low a);
          priority_marks = rw front (marked_turn 10 priorities (take i rows) so.priority_marks w priority_low b);
          offsets = omega (arith, so.offsets, en, ap omax back);
          periods = (joined.0, joined.1, so.periods.2 ∙ ap (joint h) back ∙ joined.2);
        }

-- what the pass gives: nothing where a row check fails, and what the table says where none does
pub survey_none : (rows : List Row) → (first_fault row_checks rows).number ≢ 0 → None ≡ survey_of rows
survey_none rows some = rw (ne_eqb (first_fault row_checks rows).number 0 some)

module _ {rows : List Row} {ids priorities : List Bool} {m h i : ℕ} (so : Surveying rows ids priorities m h i) (end : length rows ≤ i) where
  pub surveying_done : Some (record { omax = m; hyper = h }) ≡ survey_of rows
  unfolding omax
  surveying_done =
      let all : take i rows ≡ rows = take_all i rows end in
      let none : drop i rows ≡ [] = drop_of_length-le rows end in
      let faultless = no_fault rows (rw all at so.fine) (λ x. omega (arith, so.id_marks.once x, ap (times 7 x) all))
      (λ x. omega (arith, so.priority_marks.once x, ap (times 10 x) all)) in
      let offsets : m ≡ omax rows = omega (arith, so.offsets, ap omax none) in
      let periods : h ≡ hyper rows = joint_end h so.periods.0 so.periods.1 ∙ sym (so.periods.2 ∙ ap (joint h) none) in
      rw (faultless, offsets, periods)
