-- The checks in their order, over the rows that the code keeps of a source: policy and buffer, the reader's own refusal, then 5, the row
-- checks and 13. Each law is one end of `check`, or of `checked`, which goes over the rows.
use mathlib.Core.Path.{◌≡◌, refl, sym, ap, ◌∙◌}
use mathlib.Core.Logic.{◌≢◌}
use mathlib.Core.Bool.{Bool, true, false}
use mathlib.Core.List.{List, [], ◌∷◌, ◌++◌}
use Rattle.std.specs.Prelude.{Option, None, Some, Result, Ok, Err}
use Prim.Native.Nat.{ℕ, suc, ◌≤◌, ◌<◌}
use native.Mathlib.Omega.{arith}
use lib.Dec.{eqb}
use lib.ListN.{length, take, drop, take-append-drop}
use borrow.Author.Tests.{eq-eqb, ne_eqb, le-leb, lt-leb}
use Rattle.rules.specs.declared.Row.{Row}
use Rattle.rules.specs.declared.Refusal.{Refusal}
use Rattle.rules.specs.declared.RowsRead.{RowsRead}
use Rattle.rules.specs.declared.Table.{Table}
use Rattle.rules.specs.Table.{canonical, omax, hyper}
use Rattle.rules.specs.Sources.{Source, given, rows_in, source_of}
use Rattle.rules.specs.Checks.{within, times, found, row_checks, checks, first_fault, refusal_of, policy_wrong, refusal_for}
use Rattle.table.specs.declared.survey.Survey.{Survey}
use Rattle.basics.specs.Cases.{test, eq_case}
use Rattle.reordering.specs.Passed.{has, none_found, ids_once}
use Rattle.reordering.specs.Alike.{rows_count, rows_first}
use Rattle.table.specs.Tables.{ascending_in, in_order, survey_of, refusal_in, accepted_of, table_in, table_of}
use Rattle.table.specs.Tables.{unless_refused, rows_read, table_read}

-- TWO LISTS OF CHECKS, one after the other: the first that fails is of the first list, or of the second where none of the first fails

checks_then : (ns ms : List ℕ) (rows : List Row) (f : Refusal) → first_fault ns rows ≡ f → f.number ≢ 0 → first_fault (ns ++ ms) rows ≡ f
unfolding first_fault
checks_then [] ms rows f e some = absurd (some (ap (λ (g : Refusal). g.number) (sym e)))
checks_then (n ∷ ns) ms rows f e some = eq_case (found n rows) 0
    (λ z. rw (eq-eqb (found n rows) 0 z) (checks_then ns ms rows f (rw (eq-eqb (found n rows) 0 z) at e) some))
    (λ z. rw (ne_eqb (found n rows) 0 z) (rw (ne_eqb (found n rows) 0 z) at e))

checks_after : (ns ms : List ℕ) (rows : List Row) → ((n : ℕ) → has n ns ≡ true → found n rows ≡ 0)
    → first_fault (ns ++ ms) rows ≡ first_fault ms rows
unfolding first_fault
checks_after [] ms rows h = refl
checks_after (n ∷ ns) ms rows h = rw (h n (rw (eq-eqb n n refl) refl))
    (checks_after ns ms rows (λ k m. h k (test (eqb k n) (λ e. rw e refl) (λ e. rw e m))))

-- A REFUSAL AND NO TABLE

refused_table : (f : Refusal) (t : Table) → f.number ≢ 0 → ◌≡◌ {A = Result Table Refusal} (Err f) (unless_refused f t)
refused_table f t some = rw (ne_eqb f.number 0 some)

-- THE ROWS: the row checks, and 13 after them

abbrev in_hand : RowsRead → List Row
in_hand t = take t.count t.rows

-- o is what the one pass gives
module _ (t : RowsRead) (o : Option Survey) (so : o ≡ survey_of (in_hand t)) where
  pub fault_refused : o ≡ None → (g : Option Refusal) → g ≡ refusal_in (first_fault row_checks (in_hand t))
      → (f : Refusal) → g ≡ Some f → Err f ≡ rows_read t
  unfolding rows_read
  fault_refused none g e f some = eq_case (first_fault row_checks (in_hand t)).number 0
      (λ z. let k = rw (eq-eqb _ 0 z) at (sym none ∙ so) in cc)
      (λ z. let k = rw (ne_eqb _ 0 z) at (sym some ∙ e) in
      let first : f ≡ first_fault row_checks (in_hand t) = cc in
      ap (λ (h : Refusal). Err h) first
      ∙ refused_table (first_fault row_checks (in_hand t)) (table_in t) z
      ∙ ap (λ (h : Refusal). unless_refused h (table_in t)) (sym (checks_then row_checks (13 ∷ []) (in_hand t) _ refl z)))

  -- no row check fails
  module _ (s : Survey) (some : o ≡ Some s) where
    faultless : (first_fault row_checks (in_hand t)).number ≡ 0
    faultless = eq_case (first_fault row_checks (in_hand t)).number 0
        (λ z. z)
        (λ z. let k = rw (ne_eqb _ 0 z) at (sym some ∙ so) in cc)

    none_fails : (n : ℕ) → has n row_checks ≡ true → found n (in_hand t) ≡ 0
    none_fails = none_found row_checks (in_hand t) refl faultless

    says : s ≡ record { omax = omax (in_hand t); hyper = hyper (in_hand t) }
    says = let k = rw (eq-eqb _ 0 faultless) at (sym some ∙ so) in cc

    after_rows : first_fault (row_checks ++ (13 ∷ [])) (in_hand t) ≡ first_fault (13 ∷ []) (in_hand t)
    after_rows = checks_after row_checks (13 ∷ []) (in_hand t) none_fails

    pub hyper_refused : 100000 < s.hyper → (f : Refusal) → f ≡ record { number = 13; place = 0 } → Err f ≡ rows_read t
    unfolding rows_read first_fault found
    hyper_refused over f e =
        let h : s.hyper ≡ hyper (in_hand t) = ap (λ (k : Survey). k.hyper) says in
        rw (e, after_rows, ← h, lt-leb s.hyper 100000 over)

    accepted : s.hyper ≤ 100000 → Ok (table_in t) ≡ rows_read t
    unfolding rows_read first_fault found
    accepted fits =
        let h : s.hyper ≡ hyper (in_hand t) = ap (λ (k : Survey). k.hyper) says in
        rw (after_rows, ← h, le-leb s.hyper 100000 fits)

    as_said : (k : RowsRead) → k ≡ in_order t → accepted_of k s.omax s.hyper ≡ table_in t
    as_said k e = rw (e, says)

    -- no id stands twice, so the rows in ascending id are the canonical form
    pub sorted_accepted : s.hyper ≤ 100000 → (k : RowsRead) → (((x : ℕ) → times 7 x (in_hand t) ≤ 1) → k ≡ in_order t)
        → (a : Table) → a ≡ accepted_of k s.omax s.hyper → Ok a ≡ rows_read t
    sorted_accepted fits k sorted a e =
        ap (λ (b : Table). Ok b) (e ∙ as_said k (sorted (ids_once (in_hand t) none_fails))) ∙ accepted fits

    -- rows in ascending id stay where they are
    pub read_accepted : s.hyper ≤ 100000 → in_hand t ≡ canonical (in_hand t)
        → (a : Table) → a ≡ accepted_of t s.omax s.hyper → Ok a ≡ rows_read t
    read_accepted fits up a e =
        let stay : t.rows ≡ ascending_in t = sym (take-append-drop t.count t.rows) ∙ ap (λ (l : List Row). l ++ drop t.count t.rows) up in
        ap (λ (b : Table). Ok b) (e ∙ as_said t (ap (λ (l : List Row). record { rows = l; count = t.count }) stay)) ∙ accepted fits

-- POLICY AND BUFFER

-- a check that asks for no row
abbrev Placeless : ℕ → Refusal → Type 0
Placeless n f = f ≡ record { number = n; place = 0 }

module _ (p : ℕ) (unfit : Bool) (s : Result RowsRead Refusal) (f : Refusal) where
  refused_read : refusal_for p unfit (source_of s) ≡ f → f.number ≢ 0 → Err f ≡ table_read p unfit s
  unfolding table_read
  refused_read e some = refused_table f (table_of s) some ∙ ap (λ (g : Refusal). unless_refused g (table_of s)) (sym e)

  placeless_read : (n : ℕ) → Placeless (suc n) f → refusal_for p unfit (source_of s) ≡ record { number = suc n; place = 0 }
      → Err f ≡ table_read p unfit s
  placeless_read n e r = refused_read (r ∙ sym e) (λ z. omega (arith, ap (λ (g : Refusal). g.number) e))

  pub policy_refused : policy_wrong p ≡ true → Placeless 1 f → Err f ≡ table_read p unfit s
  policy_refused w e = placeless_read 0 e (rw w refl)

  pub buffer_refused : policy_wrong p ≡ false → unfit ≡ true → Placeless 2 f → Err f ≡ table_read p unfit s
  buffer_refused w u e = placeless_read 1 e (rw (w, u) refl)

-- THE SOURCE, where policy and buffer are right
module _ (p : ℕ) (unfit : Bool) (policy : policy_wrong p ≡ false) (buffer : unfit ≡ false) where
  source_refusal : (s : Source) → refusal_for p unfit s ≡ refusal_of s
  source_refusal s = rw (policy, buffer) refl

  -- the reader's own
  pub own_refused : (f : Refusal) → f.number ≢ 0 → Err f ≡ table_read p unfit (Err f)
  unfolding refusal_of
  own_refused f some = refused_read p unfit (Err f) f (source_refusal (source_of (Err f)) ∙ rw (ne_eqb f.number 0 some)) some

  -- the number 0 is none, and there is no row
  pub no_rows : (f : Refusal) → f.number ≡ 0 → (g : Refusal) → Placeless 5 g → Err g ≡ table_read p unfit (Err f)
  unfolding refusal_of first_fault found
  no_rows f none g e = placeless_read p unfit (Err f) g 4 e (source_refusal (source_of (Err f)) ∙ rw none)

  module _ (t : RowsRead) where
    rows_refusal : refusal_for p unfit (given (rows_in t)) ≡ first_fault checks (rows_in t)
    unfolding refusal_of
    rows_refusal = source_refusal (given (rows_in t))

    count_refused : within 1 16 t.count ≡ false → (f : Refusal) → Placeless 5 f → Err f ≡ table_read p unfit (Ok t)
    unfolding first_fault found
    count_refused w f e = placeless_read p unfit (Ok t) f 4 e (rows_refusal ∙ rw (rows_count t, w))

    pub count_low : t.count < 1 → (f : Refusal) → Placeless 5 f → Err f ≡ table_read p unfit (Ok t)
    count_low low = count_refused (rw (lt-leb _ _ low) refl)

    pub count_high : 1 ≤ t.count → 16 < t.count → (f : Refusal) → Placeless 5 f → Err f ≡ table_read p unfit (Ok t)
    count_high low high = count_refused (rw (le-leb _ _ low, lt-leb _ _ high) refl)

    -- 1 to 16 rows, of sixteen that are held: what is left is to go over them
    enough_rows : 1 ≤ t.count → t.count ≤ 16 → found 5 (rows_in t) ≡ 0
    unfolding found
    enough_rows low high = rw (rows_count t, le-leb 1 t.count low, le-leb t.count 16 high)

    pub rows_read_lem : 1 ≤ t.count → t.count ≤ 16 → length t.rows ≡ 16 → rows_read t ≡ table_read p unfit (Ok t)
    unfolding rows_read table_read first_fault
    rows_read_lem low high full = ap (λ (f : Refusal). unless_refused f (table_in t))
        (sym (rows_refusal ∙ rw (enough_rows low high) (ap (first_fault (row_checks ++ (13 ∷ []))) (rows_first t (omega arith)))))

-- what `check` replies, on each way through it
pub ruleset replies = (policy_refused, buffer_refused, own_refused, no_rows, count_low, count_high, rows_read_lem)
