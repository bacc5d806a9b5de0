-- Numbers as four little-endian bytes each. Definitions.
use Rattle.std.specs.Prelude.{List, [], ◌∷◌, ◌++◌, ℕ, ◌/◌, ◌%◌}

-- "four little-endian bytes each"
abbrev pub four_of : ℕ → List ℕ
four_of x = x % 256 ∷ x / 256 % 256 ∷ x / 65536 % 256 ∷ x / 16777216 % 256 ∷ []

unfoldable pub bytes_of : List ℕ → List ℕ
bytes_of [] = []
bytes_of (x ∷ xs) = four_of x ++ bytes_of xs
