-- What the reader's functions return, on the text from a place on. Definitions; the contracts of this crate cite them, and its
-- laws tie them to the rules' words for a text, its lines and its fields.
use Rattle.std.specs.Prelude.{Bool, true, false, cond, not, List, [], ◌∷◌, ℕ, ◌+◌, eqb, drop, set, Option, None, Some, option_map}
use denote.Ref.{Bor}
use Rattle.rules.specs.declared.Row.{Row}
use Rattle.rules.specs.declared.Refusal.{Refusal}
use Rattle.rules.specs.declared.RowsRead.{RowsRead}
use Rattle.rules.specs.Text.{breaks, digits, inner, behind, closed, shaped, row_of, well_formed, header, same}
use Rattle.table_csv.specs.declared.TextCheck.{TextCheck}
use Rattle.table_csv.specs.declared.TextCheck.TheVariants.{Length, Line}
use Rattle.table_csv.specs.declared.Ending.{Ending}
use Rattle.table_csv.specs.declared.Ending.TheVariants.{Comma, LineEnd, TextEnd}

-- what the code hands over, with each part of the text as its bytes: a part alone, or something read and the part behind it
abbrev pub rest_of : Option (Bor (List ℕ)) → Option (List ℕ)
rest_of r = option_map (λ t. t.now) r

abbrev pub read : {A : Type 0} → Option (A × Bor (List ℕ)) → Option (A × List ℕ)
read r = option_map (λ p. (p.0, p.1.now)) r

-- A FIELD AT THE FRONT

-- where a field is to end: what ends it and what follows; none where another byte stands there
abbrev pub stop : List ℕ → Option (Ending × List ℕ)
stop [] = Some (TextEnd, [])
stop (b ∷ s) = cond (eqb b 44) (Some (Comma, s)) (cond (breaks (b ∷ s)) (Some (LineEnd, drop 1 s)) None)

-- how the field ends and what follows, none where it is ill-formed
unfoldable pub ending_at : List ℕ → Option (Ending × List ℕ)
ending_at s = cond (shaped (digits (inner s))) (cond (closed s) (stop (behind s)) None) None

abbrev pub is_comma : Ending → Bool
is_comma Comma = true
is_comma LineEnd = false
is_comma TextEnd = false

-- a field that n more are to follow ends so
abbrev pub fits : Ending → ℕ → Bool
fits e n = cond (eqb n 0) (not (is_comma e)) (is_comma e)

-- A LINE AT THE FRONT

-- the line, and what follows its CR LF
unfoldable pub line : List ℕ → List ℕ
line [] = []
line (b ∷ s) = cond (breaks (b ∷ s)) [] (b ∷ line s)

unfoldable pub after : List ℕ → List ℕ
after [] = []
after (b ∷ s) = cond (breaks (b ∷ s)) (drop 1 s) (after s)

-- the line read as a row, and what follows the line
abbrev pub row_at : List ℕ → Option (Row × List ℕ)
row_at s = cond (well_formed (line s)) (Some (row_of (line s), after s)) None

-- what follows the header's line, where line 1 is the header
abbrev pub head_at : List ℕ → Option (List ℕ)
head_at s = cond (same (line s) header) (Some (after s)) None

-- THE WHOLE TEXT

-- the refusal of a check that fails
abbrev pub refusal_by : TextCheck → Refusal
refusal_by Length = record { number = 3; place = 0 }
refusal_by (Line n) = record { number = 4; place = n }

-- the rows so far, with one row more
abbrev pub keep_of : RowsRead → Row → RowsRead
keep_of k r = record { rows = set k.rows k.count r; count = k.count + 1 }
