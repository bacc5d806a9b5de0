-- When a run is ahead of the schedule. Definitions; the theorem behind demand 3 and the cousins is in `proofs/Runs`.
use Rattle.rules.specs.Policies.{System}
use Rattle.rules.specs.Slots.{State, delay}
use Rattle.theory.specs.Domination.{Dom}

abbrev pub Ahead : System → State → State → Type 0
Ahead y a b = Dom (λ i. (y.row i).wcet) (λ i. delay (y.row i)) a b
