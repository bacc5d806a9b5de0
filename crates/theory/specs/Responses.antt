-- The largest response of the jobs released so far. Definitions; its laws are in `proofs/Responses`.
use Prim.Native.Nat.{ℕ}
use Rattle.rules.specs.Policies.{System}
use Rattle.rules.specs.Slots.{released, stated}
use Rattle.rules.specs.Verdicts.{response}
use Rattle.basics.specs.Search.{most}

abbrev pub stays : System → ℕ → ℕ → ℕ
stays y = response y (stated y)

-- the largest over the jobs released before n
abbrev pub worst : System → ℕ → ℕ → ℕ
worst y i n = most (released (y.row i)) (stays y i) n
