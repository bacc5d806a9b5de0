-- What a source that passes the checks meets, as numbers, of its rows as written and of their canonical form. `passed` is the
-- law to cite; the crates that prove the schedule's laws of tables use it. The crate table uses the laws of rows for its one pass.
use Rattle.std.specs.Prelude.{◌≡◌, refl, ◌≢◌, Bool, true, false, cond, ◌&&◌, List, [], ◌∷◌, ◌++◌, ℕ, zero, suc, ◌+◌, ◌≤◌, ◌<◌, eqb, leb, ltb, length, get_or}
use Rattle.std.proofs.Common.{sym, ap, arith, eqb-true, eq-eqb, ne_eqb, leb-true, leb-false, ltb-false}
use Rattle.std.proofs.lemmas.Bool.{not-false}
use Rattle.rules.specs.declared.Row.{Row}
use Rattle.rules.specs.declared.Refusal.{Refusal}
use Rattle.rules.specs.Table.{no_row, canonical, hyper}
use Rattle.rules.specs.Sources.{Source}
use Rattle.rules.specs.Checks.{within, id_wrong, time_wrong, priority_wrong, order_wrong, resume_wrong, key, times, shared, fault, better, smallest, place, found, row_checks, checks, first_fault, refusal_of, check, policy_wrong, refusal_for}
use Rattle.basics.specs.Cases.{test, clash, eq_case, le_case, both_true, Each}
use Rattle.reordering.specs.All.{All, all_at, all_from}
use Rattle.reordering.specs.Permutations.{all_perm, times_perm}
use Rattle.reordering.specs.Canonical.{canonical_same, canonical_length, canonical_hyper, canonical_ascending, ascending_at}

-- checks 6, 8, 9, 11 and 12 of a row
pub record Fine (r : Row) : Type 0 where
  pub id_low : 1 ≤ r.id
  pub id_high : r.id ≤ 255
  pub offset_high : r.offset ≤ 10000
  pub wcet_low : 1 ≤ r.wcet
  pub wcet_deadline : r.wcet ≤ r.deadline
  pub deadline_period : r.deadline ≤ r.period
  pub period_high : r.period ≤ 10000
  pub start_high : r.start ≤ 10000
  pub resume_start : r.resume ≤ r.start
  pub priority_low : 1 ≤ r.priority
  pub priority_high : r.priority ≤ 255

-- checks 5 to 13 of the rows
pub record Passed (rows : List Row) : Type 0 where
  pub some : 1 ≤ length rows
  pub few : length rows ≤ 16
  pub fine : All Fine rows
  pub id_once : (x : ℕ) → times 7 x rows ≤ 1
  pub priority_once : (x : ℕ) → times 10 x rows ≤ 1
  pub hyper_high : hyper rows ≤ 100000

-- THE FIRST THAT FAILS, of a list of checks: where none is given, each of them passes

-- the number is in the list
abbrev pub has : ℕ → List ℕ → Bool
has n [] = false
has n (m ∷ ms) = cond (eqb n m) true (has n ms)

has_first : (n : ℕ) (ms ks : List ℕ) → has n ms ≡ true → has n (ms ++ ks) ≡ true
has_first n [] ks h = clash h refl
has_first n (m ∷ ms) ks h = test (eqb n m) (λ e. rw e refl) (λ e. rw e (has_first n ms ks (rw e at h)))

pub none_found : (ns : List ℕ) (rows : List Row) → has 0 ns ≡ false → (first_fault ns rows).number ≡ 0 → (n : ℕ) → has n ns ≡ true → found n rows ≡ 0
unfolding first_fault
none_found [] rows some h n m = clash m refl
none_found (k ∷ ns) rows some h n m = eq_case 0 k
    (λ z. clash (rw (eq-eqb 0 k z) refl) some)
    (λ z. eq_case (found k rows) 0
    (λ e. eq_case n k
    (λ q. rw q e)
    (λ q. none_found ns rows (rw (ne_eqb 0 k z) at some) (rw (eq-eqb (found k rows) 0 e) at h) n (rw (ne_eqb n k q) at m)))
    (λ e. absurd (z (sym (rw (ne_eqb (found k rows) 0 e) at h)))))

-- A ROW AT FAULT: where there is none, the check passes at every row

better_some : (id b : ℕ) → better true id b ≢ 0
better_some id b e = eq_case b 0
    (λ z. omega (arith, rw (eq-eqb b 0 z) at e))
    (λ z. test (ltb (id + 1) b) (λ l. omega (arith, rw (ne_eqb b 0 z, l) at e)) (λ l. omega (arith, z (rw (ne_eqb b 0 z, l) at e))))

smallest_none : (p : Row → Bool) (rs : List Row) (b : ℕ) → smallest p b rs ≡ 0 → (b ≡ 0) × All (λ r. p r ≡ false) rs
unfolding smallest
smallest_none p [] b e = (e, tt)
smallest_none p (r ∷ rs) b e =
    let x = smallest_none p rs (better (p r) r.id b) e in
    test (p r) (λ h. absurd (better_some r.id b (rw h at x.0))) (λ h. (rw h at x.0, (h, x.1)))

no_fault : (k : ℕ) (rows : List Row) → place k rows ≡ 0 → (i : ℕ) → i < length rows → fault k rows (get_or rows i no_row) ≡ false
unfolding place
no_fault k rows e = all_at (λ r. fault k rows r ≡ false) rows (smallest_none (fault k rows) rows 0 e).1

-- THE FACTS OF A ROW

within_is : (lo hi x : ℕ) → within lo hi x ≡ true → (lo ≤ x) × (x ≤ hi)
within_is lo hi x e = let k = both_true (leb lo x) (leb x hi) e in (leb-true lo x k.0, leb-true x hi k.1)

-- several tests joined, the last with nothing after it
abbrev joined : Bool → List Bool → Bool
joined b [] = b
joined b (c ∷ cs) = b && joined c cs

joined_true : (b : Bool) (bs : List Bool) → joined b bs ≡ true → Each (b ∷ bs)
joined_true b [] h = (h, tt)
joined_true b (c ∷ cs) h = let k = both_true b (joined c cs) h in (k.0, joined_true c cs k.1)

pub fine_row : (r : Row) → id_wrong r ≡ false → time_wrong r ≡ false → priority_wrong r ≡ false → order_wrong r ≡ false → resume_wrong r ≡ false → Fine r
fine_row r a b c d e =
    let id = within_is 1 255 r.id (not-false _ a) in
    let priority = within_is 1 255 r.priority (not-false _ c) in
    let order = both_true (leb r.wcet r.deadline) (leb r.deadline r.period) (not-false _ d) in
    let time = joined_true (leb r.offset 10000)
    (within 1 10000 r.wcet ∷ within 1 10000 r.deadline ∷ within 1 10000 r.period ∷ leb r.start 10000 ∷ leb r.resume 10000 ∷ []) (not-false _ b) in
    record {
      id_low = id.0;
      id_high = id.1;
      offset_high = leb-true r.offset 10000 time.0;
      wcet_low = (within_is 1 10000 r.wcet time.1.0).0;
      wcet_deadline = leb-true r.wcet r.deadline order.0;
      deadline_period = leb-true r.deadline r.period order.1;
      period_high = (within_is 1 10000 r.period time.1.1.1.0).1;
      start_high = leb-true r.start 10000 time.1.1.1.1.0;
      resume_start = ltb-false r.start r.resume e;
      priority_low = priority.0;
      priority_high = priority.1;
    }

-- NO KEY TWICE: n is 7 for ids and 10 for priorities

times_found : (n x : ℕ) (ws : List Row) → 1 ≤ times n x ws → (i : ℕ) × (i < length ws) × (key n (get_or ws i no_row) ≡ x)
unfolding times
times_found n x [] h = absurd (omega arith)
times_found n x (w ∷ ws) h = test (eqb (key n w) x)
    (λ e. (0, omega arith, eqb-true (key n w) x e))
    (λ e. let f = times_found n x ws (omega (arith, rw e at h)) in (suc f.0, omega (arith, f.1), f.2))

once : (n : ℕ) (rows : List Row) → ((i : ℕ) → i < length rows → shared n rows (get_or rows i no_row) ≡ false) → (x : ℕ) → times n x rows ≤ 1
once n rows h x = le_case (times n x rows) 1 (λ k. k)
    (λ k. let f = times_found n x rows (omega arith) in
    omega (arith, ap (λ (y : ℕ). times n y rows) f.2, leb-false 2 (times n (key n (get_or rows f.0 no_row)) rows) (h f.0 f.1)))

times_some : (n : ℕ) (ws : List Row) (i : ℕ) → i < length ws → 1 ≤ times n (key n (get_or ws i no_row)) ws
unfolding times
times_some n [] i h = absurd (omega arith)
times_some n (w ∷ ws) zero h = rw (eq-eqb (key n w) (key n w) refl) (omega arith)
times_some n (w ∷ ws) (suc i) h = omega (arith, times_some n ws i (omega arith))

differ_low : (n : ℕ) (ws : List Row) → ((x : ℕ) → times n x ws ≤ 1) → (i j : ℕ) → i < j → j < length ws → key n (get_or ws i no_row) ≢ key n (get_or ws j no_row)
unfolding times
differ_low n [] h i j a b e = omega arith
differ_low n (w ∷ ws) h i zero a b e = omega arith
differ_low n (w ∷ ws) h zero (suc j) a b e =
    let two : 1 + times n (key n (get_or ws j no_row)) ws ≤ 1 = rw (eq-eqb (key n w) (key n (get_or ws j no_row)) e) at (h (key n (get_or ws j no_row))) in
    omega (arith, two, times_some n ws j (omega arith))
differ_low n (w ∷ ws) h (suc i) (suc j) a b e = differ_low n ws (λ x. omega (arith, h x)) i j (omega arith) (omega arith) e

differ : (n : ℕ) (ws : List Row) → ((x : ℕ) → times n x ws ≤ 1) → (i j : ℕ) → i < length ws → j < length ws → i ≢ j → key n (get_or ws i no_row) ≢ key n (get_or ws j no_row)
differ n ws h i j a b apart e = le_case i j (λ k. differ_low n ws h i j (omega arith) b e) (λ k. differ_low n ws h j i k a (sym e))

-- THE ROWS, AND THE SOURCE

module _ (rows : List Row) (clean : (n : ℕ) → has n row_checks ≡ true → found n rows ≡ 0) where
  pub fine_rows : All Fine rows
  unfolding found fault
  fine_rows = all_from Fine rows (λ i low. fine_row (get_or rows i no_row)
      (no_fault 6 rows (clean 6 refl) i low)
      (no_fault 8 rows (clean 8 refl) i low)
      (no_fault 9 rows (clean 9 refl) i low)
      (no_fault 11 rows (clean 11 refl) i low)
      (no_fault 12 rows (clean 12 refl) i low))

  pub ids_once : (x : ℕ) → times 7 x rows ≤ 1
  unfolding found fault
  ids_once = once 7 rows (no_fault 7 rows (clean 7 refl))

  pub priorities_once : (x : ℕ) → times 10 x rows ≤ 1
  unfolding found fault
  priorities_once = once 10 rows (no_fault 10 rows (clean 10 refl))

few_rows : (rows : List Row) → found 5 rows ≡ 0 → (1 ≤ length rows) × (length rows ≤ 16)
unfolding found
few_rows rows h = test (within 1 16 (length rows)) (λ e. within_is 1 16 (length rows) e) (λ e. absurd (omega (arith, rw e at h)))

hyper_low : (rows : List Row) → found 13 rows ≡ 0 → hyper rows ≤ 100000
unfolding found
hyper_low rows h = test (leb (hyper rows) 100000) (λ e. leb-true (hyper rows) 100000 e) (λ e. absurd (omega (arith, rw e at h)))

pub passed_rows : (rows : List Row) → (first_fault checks rows).number ≡ 0 → Passed rows
passed_rows rows h =
    let at = none_found checks rows refl h in
    let clean : (n : ℕ) → has n row_checks ≡ true → found n rows ≡ 0 = λ n m. at n (has_first n (5 ∷ row_checks) (13 ∷ []) (after_five n m)) in
    let few = few_rows rows (at 5 refl) in
    record {
      some = few.0;
      few = few.1;
      fine = fine_rows rows clean;
      id_once = ids_once rows clean;
      priority_once = priorities_once rows clean;
      hyper_high = hyper_low rows (at 13 refl);
    }
  where
    after_five : (n : ℕ) → has n row_checks ≡ true → has n (5 ∷ row_checks) ≡ true
    after_five n m = test (eqb n 5) (λ e. rw e refl) (λ e. rw e m)

-- no check of a source fails: neither the reader's own nor one of its rows
pub passed : (s : Source) → (refusal_of s).number ≡ 0 → (s.refusal.number ≡ 0) × Passed s.rows
unfolding refusal_of
passed s h = eq_case s.refusal.number 0
    (λ e. (e, passed_rows s.rows (rw (eq-eqb s.refusal.number 0 e) at h)))
    (λ e. absurd (e (rw (ne_eqb s.refusal.number 0 e) at h)))

-- nor do those of the policy and of a lent buffer, where none is given
pub check_none : (n : ℕ) (fails : Bool) (f : Refusal) → (check (suc n) fails f).number ≡ 0 → (fails ≡ false) × (f.number ≡ 0)
check_none n true f e = absurd (omega arith)
check_none n false f e = (refl, e)

pub lent_none : (p : ℕ) (unfit : Bool) (s : Source) → (refusal_for p unfit s).number ≡ 0 → (unfit ≡ false) × ((refusal_of s).number ≡ 0)
lent_none p unfit s e = check_none 1 unfit (refusal_of s) (check_none 0 (policy_wrong p) _ e).1

-- the canonical form passes too
pub passed_canonical : (rows : List Row) → Passed rows → Passed (canonical rows)
passed_canonical rows p =
    let same = canonical_same rows in
    record {
      some = omega (arith, p.some, canonical_length rows);
      few = omega (arith, p.few, canonical_length rows);
      fine = all_perm Fine same p.fine;
      id_once = λ x. omega (arith, p.id_once x, times_perm 7 x same);
      priority_once = λ x. omega (arith, p.priority_once x, times_perm 10 x same);
      hyper_high = omega (arith, p.hyper_high, canonical_hyper rows);
    }

-- BY PLACE

module _ (rows : List Row) (p : Passed rows) where
  pub fine_at : (i : ℕ) → i < length rows → Fine (get_or rows i no_row)
  fine_at = all_at Fine rows p.fine

  pub ids_differ : (i j : ℕ) → i < length rows → j < length rows → i ≢ j → (get_or rows i no_row).id ≢ (get_or rows j no_row).id
  ids_differ = differ 7 rows p.id_once

-- in the canonical form a later place has a larger id
pub ids_rise : (rows : List Row) → Passed rows → (i j : ℕ) → i < j → j < length rows → (get_or (canonical rows) i no_row).id < (get_or (canonical rows) j no_row).id
ids_rise rows p i j h k =
    let n = canonical_length rows in
    let low : j < length (canonical rows) = omega (arith, n) in
    omega (arith, ascending_at (canonical rows) (canonical_ascending rows) i j h low, ids_differ (canonical rows) (passed_canonical rows p) i j (omega arith) low (λ e. omega arith))
