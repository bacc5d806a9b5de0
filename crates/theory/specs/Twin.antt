-- The slots needed, computed: the twin of the relation that the rules word. `Decides` proves that the two agree, and the worked
-- tables are computed by it.
use Rattle.std.specs.Prelude.{Bool, true, not, ◌&&◌, ℕ, zero, suc, ◌+◌, ◌*◌, ◌^◌, eqb}
use Rattle.rules.specs.Search.{lowest}
use Rattle.rules.specs.Policies.{System}
use Rattle.rules.specs.Slots.{State, stated, schedule}
use Rattle.rules.specs.Decided.{missed_at}

-- two states are equal
abbrev pub executedb : ℕ → State → State → Bool
executedb zero a b = true
executedb (suc n) a b = eqb (a.executed n) (b.executed n) && executedb n a b

abbrev pub sameb : ℕ → State → State → Bool
sameb n a b = eqb a.last b.last && (eqb a.left b.left && executedb n a b)

unfoldable pub equalb : System → ℕ → ℕ → ℕ → Bool
equalb y o h k = sameb y.tasks (schedule y (o + k * h)) (schedule y (o + suc k * h))

unfoldable pub missb : System → ℕ → Bool
missb y t = not (eqb (missed_at y (stated y) t) 0)

-- the least k at which the states are equal; any bound above the weight of the first state gives it
unfoldable pub settled : System → ℕ → ℕ → ℕ
settled y o h = lowest (equalb y o h) (2 ^ 48)

-- a miss, if there is any, comes before the horizon: so one bounded search is right in both cases
unfoldable pub slots : System → ℕ → ℕ → ℕ
slots y o h = lowest (missb y) (o + suc (settled y o h) * h)
