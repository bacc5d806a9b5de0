-- A line of the table program: document 01, "The table program". Definitions.
use Rattle.std.specs.Prelude.{List, [], ◌∷◌, ◌++◌, ℕ, suc, ◌^◌, ltb}
use Rattle.rules.specs.declared.Verdict.{Verdict}
use Rattle.rules.specs.declared.Verdict.TheVariants.{Accepted, Missed, Undecided, Refused}
use Rattle.rules.specs.Search.{lowest}
use Rattle.io.specs.Digits.{last_digits}

-- a number in decimal digits, of which there are as few as hold it: at least one, and at most twenty for a 64-bit number
abbrev pub places : ℕ → ℕ
places n = suc (lowest (λ k. ltb n (10 ^ suc k)) 20)

unfoldable pub decimal : ℕ → List ℕ
decimal n = last_digits 10 (places n) n

-- "its fields one space apart": a space, 32, before each but the first
abbrev pub field : ℕ → List ℕ
field n = 32 ∷ decimal n

-- "reply word": accepted, missed, undecided, refused
abbrev pub word_of : Verdict → List ℕ
word_of (Accepted n) = 32 ∷ 97 ∷ 99 ∷ 99 ∷ 101 ∷ 112 ∷ 116 ∷ 101 ∷ 100 ∷ []
word_of (Missed t i) = 32 ∷ 109 ∷ 105 ∷ 115 ∷ 115 ∷ 101 ∷ 100 ∷ []
word_of Undecided = 32 ∷ 117 ∷ 110 ∷ 100 ∷ 101 ∷ 99 ∷ 105 ∷ 100 ∷ 101 ∷ 100 ∷ []
word_of (Refused n p) = 32 ∷ 114 ∷ 101 ∷ 102 ∷ 117 ∷ 115 ∷ 101 ∷ 100 ∷ []

-- "allowance 10,000,000"
abbrev pub allowance : ℕ
allowance = 10000000

-- "The number is slots needed, miss time, allowance or refusal number"
abbrev pub number_of : Verdict → ℕ
number_of (Accepted n) = n
number_of (Missed t i) = t
number_of Undecided = allowance
number_of (Refused n p) = n

-- "the place is the missed id, the refusal's place, or 0"
abbrev pub place_of : Verdict → ℕ
place_of (Accepted n) = 0
place_of (Missed t i) = i
place_of Undecided = 0
place_of (Refused n p) = p

-- "policy, reply word, number, place", "ended by LF", 10
abbrev pub line_of : ℕ → Verdict → List ℕ
line_of p v = decimal p ++ word_of v ++ field (number_of v) ++ field (place_of v) ++ (10 ∷ [])
