-- The least of the first n numbers of a list, or `never` where there is none smaller. Means of proof.
use Rattle.std.specs.Prelude.{◌≡◌, ◌⊎◌, List, ℕ, ◌*◌, ◌/◌, ◌≤◌, ◌<◌, get_or, length}
use Rattle.slots.specs.Jobs.{never}

pub record Least (n : ℕ) (l : List ℕ) (m : ℕ) : Type 0 where
  pub low : (i : ℕ) → i < n → m ≤ get_or l i never
  pub top : m ≤ never
  pub hit : (m ≡ never) ⊎ ((i : ℕ) × (i < n) × (get_or l i never ≡ m))

-- the places that hold so many rows, in whole blocks of four
abbrev pub Places : ℕ → ℕ → Type 0
Places rows n = (n ≤ 16) × (rows ≤ n) × (n ≡ n / 4 * 4)

-- the least of a list's whole blocks of four
abbrev pub LeastOf : List ℕ → ℕ → Type 0
LeastOf l m = Least (length l / 4 * 4) l m
