-- When one state is ahead of another. Definitions; that a step keeps it so is in `proofs/Domination`.
use Rattle.std.specs.Prelude.{◌≡◌, false, ℕ, suc, ◌≤◌}
use Rattle.rules.specs.Slots.{State, complete}

pub record Dom (c : ℕ → ℕ) (load : ℕ → ℕ → ℕ) (a b : State) : Type 0 where
  pub less : (i : ℕ) → a.need i ≤ c i
  pub full : (i : ℕ) → c i ≤ b.need i
  pub ahead : (i : ℕ) → complete a i ≡ false → b.executed i ≤ a.executed i
  pub same : (j : ℕ) → b.last ≡ suc j → complete a j ≡ false → (a.last ≡ suc j) × (a.left ≤ b.left)
  pub side : (j : ℕ) → a.last ≡ suc j → a.left ≤ load j (a.executed j)
