-- The largest response of the jobs completed so far. Definitions; the laws of it over a jump are in `proofs/Completions`.
use Rattle.std.specs.Prelude.{◌≡◌, ◌⊎◌, true, ℕ, ◌+◌, ◌≤◌}
use Rattle.rules.specs.Policies.{System}
use Rattle.rules.specs.Slots.{released, stated}
use Rattle.rules.specs.Verdicts.{response}

-- THE LARGEST SO FAR

-- the job of task i that is released at r is complete within its period, and by t
pub record Completed (y : System) (i t r : ℕ) : Type 0 where
  pub job : released (y.row i) r ≡ true
  pub within : response y (stated y) i r ≤ (y.row i).period
  pub by : r + response y (stated y) i r ≤ t

-- some job of task i that is completed by t takes m
abbrev pub Taken : System → ℕ → ℕ → ℕ → Type 0
Taken y i t m = (r : ℕ) × Completed y i t r × (response y (stated y) i r ≡ m)

-- m is the largest response of the jobs of task i that are completed by t, and 0 if there is none
pub record Seen (y : System) (i t m : ℕ) : Type 0 where
  pub most : (r : ℕ) → Completed y i t r → response y (stated y) i r ≤ m
  pub some : (m ≡ 0) ⊎ Taken y i t m
