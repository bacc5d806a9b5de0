-- What the checks leave of a source: the refusal that the rules give, or a sound table of its tasks. `checked` uses it.
use mathlib.Core.Path.{◌≡◌, sym, ap, ◌∙◌}
use mathlib.Core.Bool.{Bool}
use Prim.Native.Nat.{ℕ, ◌≤◌}
use native.Mathlib.Omega.{arith}
use borrow.Author.Tests.{eq-eqb, ne_eqb}
use lib.ListN.{length, take, drop}
use lib.Seq.{length_front, length-take-le, take_at}
use Rattle.std.specs.Prelude.{Result, Ok, Err, MatchResult}
use Rattle.rules.specs.declared.Refusal.{Refusal}
use Rattle.rules.specs.declared.RowsRead.{RowsRead}
use Rattle.rules.specs.declared.Table.{Table}
use Rattle.rules.specs.Table.{canonical}
use Rattle.rules.specs.Sources.{Source, rows_in, source_of}
use Rattle.rules.specs.Checks.{check, policy_wrong, refusal_for}
use Rattle.basics.specs.Cases.{eq_case}
use Rattle.reordering.specs.Canonical.{canonical_length, canonical_omax, canonical_hyper}
use Rattle.reordering.specs.Passed.{Passed, passed, lent_none, passed_canonical}
use Rattle.reordering.specs.Alike.{Alike, rows_count, rows_first}
use Rattle.table.specs.Tables.{table_in, table_of, table_read}
use Rattle.machine.specs.Machine.{Sound, live}
use Rattle.checker.specs.Outcomes.{Passes, Fails}

-- THE TABLE of rows that pass, of which sixteen are held
module _ (s : RowsRead) (full : length s.rows ≡ 16) (p : Passed (rows_in s)) where
  few : s.count ≤ 16
  few = omega (arith, rows_count s, p.few)

  rows_are : rows_in s ≡ take s.count s.rows
  rows_are = rows_first s (omega (arith, few))

  sorted_count : length (canonical (take s.count s.rows)) ≡ s.count
  sorted_count = canonical_length (take s.count s.rows) ∙ length-take-le s.count s.rows (omega (arith, few))

  live_rows : live (table_in s) ≡ canonical (rows_in s)
  live_rows = take_at (canonical (take s.count s.rows)) (drop s.count s.rows) s.count sorted_count ∙ ap canonical (sym rows_are)

  sound_rows : Sound (table_in s)
  sound_rows = record {
    full = length_front s.rows (canonical (take s.count s.rows)) s.count (canonical_length (take s.count s.rows)) ∙ full;
    count = rw live_rows (canonical_length (rows_in s) ∙ rows_count s);
    passed = rw live_rows (passed_canonical (rows_in s) p);
    omax = rw (live_rows, rows_are) (sym (canonical_omax (take s.count s.rows)));
    hyper = rw (live_rows, rows_are) (sym (canonical_hyper (take s.count s.rows)));
  }

-- WHAT IS READ OF A SOURCE o, as the code holds it: s, of which the code says whether it is refused
module _ (p : ℕ) (unfit : Bool) (o : Source) where
  same_refusal : {s : Source} → Alike s o → refusal_for p unfit s ≡ refusal_for p unfit o
  same_refusal alike = ap (λ (f : Refusal). check 1 (policy_wrong p) (check 2 unfit f)) alike.refusal

  passes_in : (s : Result RowsRead Refusal) → MatchResult s (λ r. length r.rows ≡ 16) (λ f. Unit {0}) → Alike (source_of s) o
      → (refusal_for p unfit (source_of s)).number ≡ 0 → Passes p unfit o (table_of s)
  passes_in (Ok r) full alike none =
      let fine = lent_none p unfit (source_of (Ok r)) none in
      let rows = (passed (source_of (Ok r)) fine.1).1 in
      record {
        none = rw (same_refusal alike) at none;
        fit = fine.0;
        sound = sound_rows r full rows;
        tasks = live_rows r full rows ∙ alike.tasks fine.1;
      }
  passes_in (Err f) full alike none =
      let rows = (passed (source_of (Err f)) (lent_none p unfit (source_of (Err f)) none).1).1 in absurd (omega (arith, rows.some))

  pub check_in : (s : Result RowsRead Refusal) → MatchResult s (λ r. length r.rows ≡ 16) (λ f. Unit {0}) → Alike (source_of s) o
      → (g : Result Table Refusal) → g ≡ table_read p unfit s → MatchResult g (Passes p unfit o) (Fails p unfit o)
  unfolding table_read
  check_in s full alike g e =
      let f = refusal_for p unfit (source_of s) in
      eq_case f.number 0
      (λ none. rw (e, eq-eqb f.number 0 none) (passes_in s full alike none))
      (λ some. rw (e, ne_eqb f.number 0 some) (record { refusal = sym (same_refusal alike); some = some }))
