-- What a reader hands over, whatever it read: everything after reading is said of such a source, once. Definitions.
use Rattle.std.specs.Prelude.{cond, List, [], ◌++◌, ℕ, eqb, leb, length, take, replicate, Result, Ok, Err}
use Rattle.rules.specs.declared.Row.{Row}
use Rattle.rules.specs.declared.Refusal.{Refusal}
use Rattle.rules.specs.declared.RowsRead.{RowsRead}
use Rattle.rules.specs.Text.{bad_line, rows_of}
use Rattle.rules.specs.Table.{no_row, padded}

-- the number 0 is no refusal
abbrev pub nothing : Refusal
nothing = record { number = 0; place = 0 }

-- the reader's own refusal, 3 or 4, or none; and the rows
pub record Source : Type 0 where
  pub refusal : Refusal
  pub rows : List Row

abbrev pub given : List Row → Source
given rows = record { refusal = nothing; rows = rows }

abbrev pub refused_by : ℕ → ℕ → Source
refused_by n p = record { refusal = record { number = n; place = p }; rows = [] }

-- A TEXT. 3: "text over 4,096 bytes"; 4: "a line ill-formed", place the "first such line, from 1"
unfoldable pub text_source : List ℕ → Source
text_source s =
    cond (leb (length s) 4096)
    (cond (eqb (bad_line s) 0) (given (rows_of s)) (refused_by 4 (bad_line s)))
    (refused_by 3 0)

-- AS THE CODE HOLDS IT: the refusal, or the first sixteen rows and how many there are. Of a row past the sixteenth, which no table has, no
-- more is kept than that it is there; a blank one stands for it
abbrev pub kept : List Row → RowsRead
kept rows = record { rows = padded rows; count = length rows }

abbrev pub read_of : Source → Result RowsRead Refusal
read_of s = cond (eqb s.refusal.number 0) (Ok (kept s.rows)) (Err s.refusal)

abbrev pub rows_in : RowsRead → List Row
rows_in r = take r.count (r.rows ++ replicate r.count no_row)

abbrev pub source_of : Result RowsRead Refusal → Source
source_of (Ok r) = given (rows_in r)
source_of (Err f) = record { refusal = f; rows = [] }
