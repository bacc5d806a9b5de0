-- What a state between slots is like, and its weight. Definitions; that it falls from one hyper-period to the next is in `proofs/Falls`.
use Rattle.std.specs.Prelude.{◌≡◌, false, ℕ, zero, suc, ◌+◌, ◌-◌, ◌*◌, ◌≤◌, ◌<◌}
use Rattle.rules.specs.Slots.{State, complete}

-- WHAT A STATE BETWEEN SLOTS IS LIKE: nobody has executed more than is needed; the last job is an incomplete one; with no
-- last job there is no loading left
pub record Sane (n : ℕ) (s : State) : Type 0 where
  pub within : (i : ℕ) → s.executed i ≤ s.need i
  pub current : (j : ℕ) → s.last ≡ suc j → (j < n) × (complete s j ≡ false)
  pub rest : s.last ≡ 0 → s.left ≡ 0

-- sums over the tasks
unfoldable pub total : (ℕ → ℕ) → ℕ → ℕ
total f zero = 0
total f (suc n) = total f n + f n

-- THE WEIGHT of a state, for loadings of at most 10,000: what has executed; then, less loading left weighs more
abbrev pub share : ℕ → ℕ → ℕ
share zero l = 0
share (suc j) l = 10001 - l

abbrev pub weight : ℕ → State → ℕ
weight n s = total s.executed n * 10002 + share s.last s.left
