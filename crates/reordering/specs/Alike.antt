-- Sources that are read as the same table: the same refusal, or the same tasks. Every reply to the one is then a reply to the other
-- (`theory/proofs/Reordered`). A source and what the code keeps of it are alike (`read_alike`), however many rows it has.
use Rattle.std.specs.Prelude.{◌≡◌, List, ◌++◌, ◌≤◌, ◌<◌, length, take, replicate}
use Rattle.std.proofs.Common.{sym, refl, ◌∙◌, arith, eq-eqb, ne_eqb, le-leb, length-append, length-take-le}
use Rattle.std.proofs.lemmas.Bool.{lt-leb}
use Rattle.std.proofs.lemmas.List.{length-replicate, take-append-le}
use Rattle.rules.specs.declared.Row.{Row}
use Rattle.rules.specs.declared.RowsRead.{RowsRead}
use Rattle.rules.specs.Table.{no_row, padded}
use Rattle.rules.specs.Sources.{Source, given, kept, read_of, rows_in, source_of}
use Rattle.rules.specs.Checks.{found, first_fault, refusal_of}
use Rattle.rules.specs.Verdicts.{tasks_of}
use Rattle.basics.specs.Cases.{eq_case, le_case}
use Rattle.reordering.specs.Canonical.{padded_rows}

pub record Alike (s t : Source) : Type 0 where
  pub refusal : refusal_of s ≡ refusal_of t
  pub tasks : (refusal_of s).number ≡ 0 → tasks_of s ≡ tasks_of t

-- WHAT THE CODE KEEPS

padded_length : (rows : List Row) → length (padded rows) ≡ 16
padded_length rows = length-take-le 16 (rows ++ replicate 16 no_row) (rw (length-append, length-replicate) (omega arith))

-- as many rows as are counted; those of the sixteen, if they are no more
pub rows_count : (r : RowsRead) → length (rows_in r) ≡ r.count
rows_count r = length-take-le r.count (r.rows ++ replicate r.count no_row) (rw (length-append, length-replicate) (omega arith))

pub rows_first : (r : RowsRead) → r.count ≤ length r.rows → rows_in r ≡ take r.count r.rows
rows_first r few = take-append-le r.count r.rows (replicate r.count no_row) few

-- more are refused, whatever they are
many_refused : (s : Source) → s.refusal.number ≡ 0 → 16 < length s.rows → refusal_of s ≡ record { number = 5; place = 0 }
unfolding refusal_of first_fault found
many_refused s own many = rw (own, le-leb 1 (length s.rows) (omega arith), lt-leb (length s.rows) 16 many)

pub read_alike : (s : Source) → Alike (source_of (read_of s)) s
unfolding refusal_of
read_alike s = eq_case s.refusal.number 0
    (λ own. rw (eq-eqb s.refusal.number 0 own) (le_case (length s.rows) 16
    (λ few.
    let whole : rows_in (kept s.rows) ≡ s.rows = rows_first (kept s.rows) (omega (arith, padded_length s.rows)) ∙ padded_rows s.rows few in
    record {
      refusal = rw (own, whole) refl;
      tasks = λ fine. rw whole refl;
    })
    (λ many.
    let five = many_refused (given (rows_in (kept s.rows))) refl (omega (arith, rows_count (kept s.rows))) in
    record {
      refusal = five ∙ sym (many_refused s own many);
      tasks = λ fine. absurd (omega (arith, rw five at fine));
    })))
    (λ own. rw (ne_eqb s.refusal.number 0 own) (record {
      refusal = rw (ne_eqb s.refusal.number 0 own) refl;
      tasks = λ fine. absurd (own (rw (ne_eqb s.refusal.number 0 own) at fine));
    }))
