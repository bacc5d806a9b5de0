-- What the functions on a row and on numbers give. Means of proof: the laws of the checker tie them to the rules.
use Rattle.std.specs.Prelude.{Bool, false, cond, ℕ, ◌+◌, ◌-◌, min, eqb, ltb}
use Rattle.rules.specs.declared.Row.{Row}
use Rattle.rules.specs.declared.Executed.{Executed}
use Rattle.rules.specs.declared.Loading.{Loading}

-- no time
abbrev pub never : ℕ
never = 18446744073709551615

abbrev pub used_of : Bool → ℕ → ℕ → ℕ
used_of uses i n = cond uses (cond (ltb i n) (i + 1) i) i

abbrev pub key_of : ℕ → Row → ℕ → ℕ
key_of p r due = cond (eqb p 1) r.priority (cond (eqb p 2) r.period (cond (eqb p 3) r.deadline due))

abbrev pub worked_of : Executed → Executed → ℕ → Executed
worked_of need done more = cond (ltb more (need.0 - done.0)) (record { 0 = done.0 + more }) need

abbrev pub open_of : Executed → ℕ → ℕ
open_of need x = cond (eqb need.0 0) never x

abbrev pub continues_of : ℕ → ℕ → ℕ → ℕ → Bool
continues_of last at release whole = cond (eqb last at) (ltb release whole) false

abbrev pub delay_of : Row → Executed → Loading
delay_of r e = cond (eqb e.0 0) (record { 0 = r.start }) (record { 0 = r.resume })

abbrev pub begun_of : Bool → Loading → ℕ → Loading → Loading
begun_of again left len d = cond again left (record { 0 = min len d.0 })

abbrev pub begins_of : Bool → Loading → Bool
begins_of again d = cond again false (ltb 0 d.0)
