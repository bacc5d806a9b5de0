-- A text read line by line gives the text's lines. `line` and `after` cut the first line off (`lines_line`), the header is a word
-- without CR (`word_line`), rows past the sixteenth are only counted (`keep_all`). The section at the end is the loop of read_rows.
use mathlib.Core.Path.{◌≡◌, refl, sym, ap, ◌∙◌}
use mathlib.Core.Logic.{◌≢◌}
use mathlib.Core.Bool.{Bool, true, false, cond, ◌&&◌, not}
use mathlib.Core.List.{List, [], ◌∷◌, ◌++◌, map, append-nil, append_assoc}
use Prim.Native.Nat.{ℕ, suc, ◌+◌, ◌≤◌, ◌<◌}
use native.Mathlib.Omega.{arith}
use lib.Dec.{eqb, ltb}
use lib.ListN.{length, take, drop, set, replicate, length-append, length-take}
use lib.Seq.{take-append-le, take-set-lt, set-append_seam, set_out}
use borrow.Author.Tests.{ne_eqb, eq-eqb, eqb-true, le-leb, lt-leb, ltb-true, ltb-false}
use Rattle.std.proofs.Common.{Option, Some, None, Ok}
use Rattle.rules.specs.Table.{no_row, padded}
use Rattle.rules.specs.Text.{nil, breaks, opened, lines, well_formed, row_of, header, same, first_bad, bad_line, rows_of}
use Rattle.rules.specs.Sources.{kept, refused_by, text_source, read_of}
use Rattle.table_csv.specs.Reader.{line, after, stop, is_comma, head_at, keep_of, row_at}
use Rattle.rules.specs.declared.Row.{Row}
use Rattle.rules.specs.declared.RowsRead.{RowsRead}
use Rattle.table_csv.specs.declared.Ending.{Ending}
use Rattle.basics.specs.Cases.{test, clash, both_true}
use Rattle.table_csv.proofs.Rows.{is_cr, comma_breaks}

-- the lines that a text opens after a line end
unfoldable pub more : List ℕ → List (List ℕ)
more s = opened s (lines s)

lines_line : (s : List ℕ) → lines s ≡ line s ∷ more (after s)
unfolding lines line after more
lines_line [] = refl
lines_line (b ∷ []) = refl
lines_line (b ∷ c ∷ s) = test (breaks (b ∷ c ∷ s)) (λ e. rw e) (λ e. rw (e, lines_line (c ∷ s)))

open_more : (b : ℕ) (s : List ℕ) → more (b ∷ s) ≡ lines (b ∷ s)
unfolding more
open_more b s = refl

more_line : (s : List ℕ) → 0 < length s → more s ≡ line s ∷ more (after s)
more_line [] h = absurd (omega arith)
more_line (b ∷ s) h = open_more b s ∙ lines_line (b ∷ s)

more_none : (s : List ℕ) → length s ≤ 0 → more s ≡ []
unfolding more
more_none [] h = refl
more_none (b ∷ s) h = absurd (omega arith)

-- what follows a line is shorter
after_less : (b : ℕ) (s : List ℕ) → length (after (b ∷ s)) ≤ length s
unfolding after
after_less b [] = omega arith
after_less b (c ∷ s) = test (breaks (b ∷ c ∷ s)) (λ e. rw e (omega arith)) (λ e. rw e (omega (arith, after_less c s)))

after_short : (s : List ℕ) → 0 < length s → length (after s) < length s
after_short [] h = absurd (omega arith)
after_short (b ∷ s) h = omega (arith, after_less b s)

after_le : (s : List ℕ) → length (after s) ≤ length s
unfolding after
after_le [] = omega arith
after_le (b ∷ s) = omega (arith, after_less b s)

-- a word without CR at the front
abbrev clear : List ℕ → Bool
clear [] = true
clear (a ∷ w) = not (eqb a 13) && clear w

abbrev ends : List ℕ → Bool
ends v = cond (nil v) true (breaks v)

no_break : (a : ℕ) (s : List ℕ) → not (eqb a 13) ≡ true → breaks (a ∷ s) ≡ false
no_break a s h = test (breaks (a ∷ s)) (λ e. go (is_cr a s e) h) (λ e. e)
  where
    go : a ≡ 13 → not (eqb a 13) ≡ true → breaks (a ∷ s) ≡ false
    go e h = let f : not (eqb 13 13) ≡ true = rw e at h in clash f refl

word_line : (w x : List ℕ) → clear w ≡ true → same (line (w ++ x)) w ≡ ends x
unfolding same line
word_line [] [] h = refl
word_line [] (b ∷ x) h = test (breaks (b ∷ x)) (λ e. rw e) (λ e. rw e)
word_line (a ∷ w) x h =
    let k = both_true (not (eqb a 13)) (clear w) h in
    rw (no_break a (w ++ x) k.0, eq-eqb a a refl) (word_line w x k.1)

word_after : (w x : List ℕ) → clear w ≡ true → after (w ++ x) ≡ after x
unfolding after
word_after [] x h = refl
word_after (a ∷ w) x h =
    let k = both_true (not (eqb a 13)) (clear w) h in
    rw (no_break a (w ++ x) k.0) (word_after w x k.1)

word_front : (w s : List ℕ) → same (line s) w ≡ true → s ≡ w ++ drop (length w) s
unfolding same line
word_front [] s h = refl
word_front (a ∷ w) [] h = clash h refl
word_front (a ∷ w) (b ∷ s) h = test (breaks (b ∷ s))
    (λ e. clash h (rw e))
    (λ e. test (eqb b a)
    (λ f. let g : same (line s) w ≡ true = rw (e, f) at h in rw (eqb-true b a f) (ap (λ l. a ∷ l) (word_front w s g)))
    (λ f. clash h (rw (e, f))))

-- the header, and what may follow it: what ends a field, but no comma
abbrev pub heads : Option (Ending × List ℕ) → Option (List ℕ)
heads None = None
heads (Some p) = cond (is_comma p.0) None (Some p.1)

ends_stop : (x : List ℕ) → heads (stop x) ≡ cond (ends x) (Some (after x)) None
unfolding after
ends_stop [] = refl
ends_stop (b ∷ x) = test (eqb b 44)
    (λ e. rw (e, comma_breaks b x e))
    (λ e. test (breaks (b ∷ x)) (λ f. rw (e, f)) (λ f. rw (e, f)))

module _ (s : List ℕ) where
  clear_header : clear header ≡ true
  unfolding header
  clear_header = refl

  pub head_off : ((x : List ℕ) → s ≢ header ++ x) → None ≡ head_at s
  head_off n = test (same (line s) header) (λ e. absurd (n _ (word_front header s e))) (λ e. rw e)

  pub head_on : (x : List ℕ) → s ≡ header ++ x → (o : Option (Ending × List ℕ)) → o ≡ stop x → heads o ≡ head_at s
  head_on x e o h = rw (h, ends_stop x, e, word_line header x clear_header, word_after header x clear_header)

-- what the reading of line 1 tells
module _ (s : List ℕ) where
  head_none : None ≡ head_at s → same (line s) header ≡ false
  head_none e = test (same (line s) header) (λ f. let g : None ≡ Some (after s) = e ∙ rw f in cc) (λ f. f)

  head_some : (u : List ℕ) → Some u ≡ head_at s → (same (line s) header ≡ true) × (u ≡ after s)
  head_some u e = test (same (line s) header)
      (λ f. let g : Some u ≡ Some (after s) = e ∙ rw f in (f, cc))
      (λ f. let g : Some u ≡ None = e ∙ rw f in cc)

-- what the reading of a row tells
some_pair : {A : Type 0} (a c : A) (b d : List ℕ) → ◌≡◌ {A = Option (A × List ℕ)} (Some (a, b)) (Some (c, d)) → (a ≡ c) × (b ≡ d)
some_pair {A} a c b d e = let p : ◌≡◌ {A = A × List ℕ} (a, b) (c, d) = cc in (ap (λ q. q.0) p, ap (λ q. q.1) p)

module _ (t : List ℕ) where
  row_none : None ≡ row_at t → well_formed (line t) ≡ false
  row_none r = test (well_formed (line t)) (λ f. let g : None ≡ Some (row_of (line t), after t) = r ∙ rw f in cc) (λ f. f)

  row_some : (row : Row) (rest : List ℕ) → Some (row, rest) ≡ row_at t
      → (well_formed (line t) ≡ true) × (row ≡ row_of (line t)) × (rest ≡ after t)
  row_some row rest r = test (well_formed (line t))
      (λ f. let p = some_pair row (row_of (line t)) rest (after t) (r ∙ rw f) in (f, p.0, p.1))
      (λ f. let g : Some (row, rest) ≡ None = r ∙ rw f in cc)

  pub row_less : 0 < length t → (row : Row) (rest : List ℕ) → Some (row, rest) ≡ row_at t → length rest < length t
  row_less some row rest r = omega (arith, ap length (row_some row rest r).2, after_short t some)

-- sixteen rows kept
keep_rows : (acc : List Row) (r : Row) → set (padded acc) (length acc) r ≡ padded (acc ++ (r ∷ []))
keep_rows acc r = test (ltb (length acc) 16) (λ e. few (ltb-true (length acc) 16 e)) (λ e. many (ltb-false (length acc) 16 e))
  where
    flat : (acc ++ (r ∷ [])) ++ replicate 16 no_row ≡ acc ++ (r ∷ replicate 16 no_row)
    flat = append_assoc acc (r ∷ []) (replicate 16 no_row)

    -- as long as the rows and the new one are sixteen or fewer, one blank row more is cut off
    few : length acc < 16 → set (padded acc) (length acc) r ≡ padded (acc ++ (r ∷ []))
    few h =
        let blank : List Row = replicate 15 no_row in
        let a : set (padded acc) (length acc) r ≡ take 16 (acc ++ (r ∷ blank)) =
        sym (take-set-lt 16 (acc ++ replicate 16 no_row) (length acc) r h) ∙ ap (take 16) (set-append_seam acc no_row blank r) in
        let long : 16 ≤ length (acc ++ (r ∷ blank)) = omega (arith, length-append acc (r ∷ blank)) in
        let b : take 16 ((acc ++ (r ∷ blank)) ++ (no_row ∷ [])) ≡ take 16 (acc ++ (r ∷ blank)) =
        take-append-le 16 (acc ++ (r ∷ blank)) (no_row ∷ []) long in
        let d : (acc ++ (r ∷ blank)) ++ (no_row ∷ []) ≡ acc ++ (r ∷ replicate 16 no_row) = append_assoc acc (r ∷ blank) (no_row ∷ []) in
        a ∙ sym b ∙ ap (take 16) (d ∙ sym flat)

    many : 16 ≤ length acc → set (padded acc) (length acc) r ≡ padded (acc ++ (r ∷ []))
    many h =
        let short : length (padded acc) ≤ length acc = omega (arith, length-take 16 (acc ++ replicate 16 no_row)) in
        set_out _ (length acc) r short
        ∙ take-append-le 16 acc (replicate 16 no_row) h
        ∙ sym (take-append-le 16 acc (r ∷ replicate 16 no_row) h)
        ∙ ap (take 16) (sym flat)

keep_one : (acc : List Row) (r : Row) → keep_of (kept acc) r ≡ kept (acc ++ (r ∷ []))
keep_one acc r =
    let n : length acc + 1 ≡ length (acc ++ (r ∷ [])) = sym (length-append acc (r ∷ [])) in
    λ k. record { rows = keep_rows acc r k; count = n k }

-- the rows so far
abbrev pub rows_so_far : List Row → ℕ → RowsRead
rows_so_far rows n = record { rows = rows; count = n }

-- rows kept one after the other
unfoldable pub keep_all : RowsRead → List Row → RowsRead
keep_all k [] = k
keep_all k (r ∷ rs) = keep_all (keep_of k r) rs

keep_all_lem : (rs acc : List Row) → keep_all (kept acc) rs ≡ kept (acc ++ rs)
unfolding keep_all
keep_all_lem [] acc = rw append-nil
keep_all_lem (r ∷ rs) acc = rw (keep_one acc r, keep_all_lem rs (acc ++ (r ∷ []))) (ap kept (append_assoc acc (r ∷ []) rs))

-- the lines after the header read so far: t is left, two lines further than the rows kept
module _ (s : List ℕ) where
  abbrev pub Taking : RowsRead → List ℕ → Type 0
  Taking have t =
      (length t + have.count ≤ length s)
      × (first_bad 2 (more (after s)) ≡ first_bad (have.count + 2) (more t))
      × (keep_all (kept []) (map row_of (more (after s))) ≡ keep_all have (map row_of (more t)))

  pub taking_start : (u : List ℕ) → Some u ≡ head_at s → Taking (kept []) u
  taking_start u e = let z = (head_some s u e).1 in (omega (arith, ap length z, after_le s), rw z, rw z)

  pub taking_turn : (have : RowsRead) (t : List ℕ) → Taking have t → 0 < length t
      → (row : Row) (rest : List ℕ) → Some (row, rest) ≡ row_at t → Taking (keep_of have row) rest
  unfolding first_bad keep_all
  taking_turn have t so some row rest r =
      let z = row_some t row rest r in
      let next : have.count + 1 + 2 ≡ suc (have.count + 2) = omega arith in (
        omega (arith, ap length z.2, after_short t some, so.0),
        so.1 ∙ rw (z.2, more_line t some, z.0, next),
        so.2 ∙ rw (z.2, z.1, more_line t some),
      )

  bad_is : bad_line s ≡ cond (same (line s) header) (first_bad 2 (more (after s))) 1
  bad_is = rw (lines_line s)

  rows_are : rows_of s ≡ map row_of (more (after s))
  rows_are = rw (lines_line s)

  pub long_refused : 4096 < length s → read_of (refused_by 3 0) ≡ read_of (text_source s)
  unfolding text_source
  long_refused h = rw (lt-leb (length s) 4096 h)

  -- a text that is not too long
  module _ (short : length s ≤ 4096) where
    refused : (n : ℕ) → bad_line s ≡ n → n ≢ 0 → read_of (refused_by 4 n) ≡ read_of (text_source s)
    unfolding text_source
    refused n e h = rw (le-leb (length s) 4096 short, e, ne_eqb n 0 h)

    pub none_refused : None ≡ head_at s → read_of (refused_by 4 1) ≡ read_of (text_source s)
    none_refused e = refused 1 (bad_is ∙ rw (head_none s e)) (λ x. omega arith)

    module _ (u : List ℕ) (e : Some u ≡ head_at s) (have : RowsRead) (t : List ℕ) (so : Taking have t) where
      pub taking_bad : 0 < length t → None ≡ row_at t → read_of (refused_by 4 (have.count + 2)) ≡ read_of (text_source s)
      unfolding first_bad
      taking_bad some r =
          refused (have.count + 2) (bad_is ∙ rw (head_some s u e).0 (so.1 ∙ rw (more_line t some, row_none t r))) (λ x. omega arith)

      pub taking_done : length t ≡ 0 → Ok have ≡ read_of (text_source s)
      unfolding first_bad keep_all text_source
      taking_done none =
          let end : length t ≤ 0 = omega arith in
          let fine : bad_line s ≡ 0 = bad_is ∙ rw (head_some s u e).0 (so.1 ∙ rw (more_none t end)) in
          let all : kept (map row_of (more (after s))) ≡ have =
          sym (keep_all_lem (map row_of (more (after s))) []) ∙ so.2 ∙ rw (more_none t end) in
          rw (le-leb (length s) 4096 short, fine, rows_are) (sym (ap Ok all))
