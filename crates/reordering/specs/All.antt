-- What holds of every row of a list, by place. For the facts of a table that passes the checks.
use Rattle.std.specs.Prelude.{List, [], ◌∷◌, ℕ, zero, suc, ◌<◌, length, get_or}
use Rattle.std.proofs.Common.{arith}
use Rattle.rules.specs.declared.Row.{Row}
use Rattle.rules.specs.Table.{no_row}

abbrev pub All : (Row → Type 0) → List Row → Type 0
All P [] = Unit
All P (w ∷ ws) = P w × All P ws

module _ (P : Row → Type 0) where
  pub all_at : (ws : List Row) → All P ws → (i : ℕ) → i < length ws → P (get_or ws i no_row)
  all_at [] h i low = absurd (omega arith)
  all_at (w ∷ ws) h zero low = h.0
  all_at (w ∷ ws) h (suc i) low = all_at ws h.1 i (omega arith)

  pub all_from : (ws : List Row) → ((i : ℕ) → i < length ws → P (get_or ws i no_row)) → All P ws
  all_from [] h = tt
  all_from (w ∷ ws) h = (h 0 (omega arith), all_from ws (λ i low. h (suc i) (omega arith)))
