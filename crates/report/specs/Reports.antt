-- The four lines of a text, and how they are laid into lent bytes: document 01, "The table program". Definitions.
use Rattle.std.specs.Prelude.{◌≡◌, List, ◌++◌, ℕ, ◌+◌, ◌≤◌, ◌<◌, length, take, drop}
use Rattle.rules.specs.declared.Verdict.{Verdict}
use Rattle.rules.specs.Sources.{text_source}
use Rattle.rules.specs.Verdicts.{VerdictIs}
use Rattle.report.specs.Lines.{allowance, line_of}

-- a line of the text under policy p
pub record Line (p : ℕ) (text line : List ℕ) : Type 0 where
  pub reply : Verdict
  pub right : VerdictIs p allowance (text_source text) reply
  pub bytes : line ≡ line_of p reply

-- "It .. prints four lines, .. policies 1 to 4"
pub record FourLines (text bytes : List ℕ) : Type 0 where
  pub one : List ℕ
  pub two : List ℕ
  pub three : List ℕ
  pub four : List ℕ
  pub fixed : Line 1 text one
  pub period : Line 2 text two
  pub deadline : Line 3 text three
  pub earliest : Line 4 text four
  pub together : bytes ≡ one ++ two ++ three ++ four

-- LENT BYTES

-- a word stands from the place k on, to the place r; the other bytes stay
pub record Puts (k : ℕ) (word before after : List ℕ) (r : ℕ) : Type 0 where
  pub end : r ≡ k + length word
  pub fits : k + length word ≤ length before
  pub bytes : after ≡ take k before ++ word ++ drop (k + length word) before

-- the lines at the front, r bytes, with the bytes after them as they were; too few bytes stay as lent
pub record Reports (text before after : List ℕ) (r : ℕ) : Type 0 where
  pub short : length before < 292 → (r ≡ 0) × (after ≡ before)
  pub lines : 292 ≤ length before → (bytes : List ℕ) × FourLines text bytes × Puts 0 bytes before after r
