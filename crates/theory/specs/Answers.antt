-- Worked tables by computation: what a worked table says, and a test that computes it. Definitions; `proofs/Answers` ties the two.
use Rattle.std.specs.Prelude.{◌≡◌, Bool, true, ◌&&◌, List, [], ◌∷◌, ℕ, zero, suc, eqb, leb, ltb, length}
use Rattle.rules.specs.declared.Row.{Row}
use Rattle.rules.specs.Table.{omax, hyper}
use Rattle.rules.specs.Policies.{System, policy, system}
use Rattle.rules.specs.Slots.{stated}
use Rattle.rules.specs.Decided.{missed_at, EarliestMiss, Settles}
use Rattle.rules.specs.Verdicts.{plain, missed_id, Worst}
use Rattle.basics.specs.Cases.{every}
use Rattle.theory.specs.Twin.{slots}
use Rattle.theory.specs.Responses.{worst}

-- a worked table: the policy's number, the rows in ascending id, the slots needed, the missed id or 0, and, where stated,
-- the worst responses in ascending id
pub record Case : Type 0 where
  pub by : ℕ
  pub rows : List Row
  pub time : ℕ
  pub id : ℕ
  pub worsts : List ℕ

abbrev pub system_for : Case → System
system_for c = system (policy c.by) c.rows

-- WHAT IT SAYS
abbrev pub Worsts : System → ℕ → List ℕ → Type 0
Worsts y i [] = Unit
Worsts y i (m ∷ ms) = Worst y i m × Worsts y (suc i) ms

abbrev pub Reply : System → ℕ → ℕ → ℕ → ℕ → List ℕ → Type 0
Reply y o h n zero ms = Settles y o h plain n × Worsts y 0 ms
Reply y o h n (suc m) ms = EarliestMiss y (stated y) n × (missed_id y (stated y) n ≡ suc m)

abbrev pub Right : Case → Type 0
Right c = Reply (system_for c) (omax c.rows) (hyper c.rows) c.time c.id c.worsts

-- THE TEST
abbrev pub fitb : Row → List Bool
fitb w = leb w.resume w.start ∷ leb w.deadline w.period ∷ leb w.wcet 10000 ∷ leb w.start 10000 ∷ leb w.offset 10000 ∷ []

abbrev pub fitsb : List Row → Bool
fitsb [] = true
fitsb (w ∷ ws) = every (fitb w) && fitsb ws

abbrev pub worstsb : System → ℕ → ℕ → List ℕ → Bool
worstsb y n i [] = true
worstsb y n i (m ∷ ms) = every (ltb i y.tasks ∷ eqb (worst y i n) m ∷ worstsb y n (suc i) ms ∷ [])

abbrev pub replyb : System → ℕ → ℕ → List ℕ → Bool
replyb y n zero ms = eqb (missed_at y (stated y) n) 0 && worstsb y n 0 ms
replyb y n (suc m) ms = ltb 0 (missed_at y (stated y) n) && eqb (missed_id y (stated y) n) (suc m)

abbrev pub tests : Case → List Bool
tests c = fitsb c.rows ∷ leb (length c.rows) 16 ∷ leb (hyper c.rows) 100000 ∷ eqb (slots (system_for c) (omax c.rows) (hyper c.rows)) c.time
    ∷ replyb (system_for c) c.time c.id c.worsts ∷ []

unfoldable pub right : Case → Bool
right c = every (tests c)

-- all of a list
abbrev pub Rights : List Case → Type 0
Rights [] = Unit
Rights (c ∷ cs) = Right c × Rights cs

abbrev pub rights : List Case → Bool
rights [] = true
rights (c ∷ cs) = right c && rights cs
