-- Document 01's tables marked P. Definitions; `proofs/WorkedTables` proves them of the rules.
use Rattle.std.specs.Prelude.{List, [], ◌∷◌, ◌++◌, ℕ}
use Rattle.rules.specs.declared.Row.{Row}
use Rattle.theory.specs.Answers.{Case}

-- id offset wcet deadline period start resume priority
abbrev pub w : ℕ → ℕ → ℕ → ℕ → ℕ → ℕ → ℕ → ℕ → Row
w i o c d p s r q = record { id = i; offset = o; wcet = c; deadline = d; period = p; start = s; resume = r; priority = q }

-- accepted with slots needed and, where the document states them, the worst responses; missed with time and id
abbrev pub accepted : ℕ → List ℕ → List Row → ℕ → Case
accepted n worsts ws p = record { by = p; rows = ws; time = n; id = 0; worsts = worsts }

abbrev pub missed : ℕ → ℕ → List Row → ℕ → Case
missed t i ws p = record { by = p; rows = ws; time = t; id = i; worsts = [] }

abbrev pub any : (ℕ → Case) → List Case
any c = c 1 ∷ c 2 ∷ c 3 ∷ c 4 ∷ []

-- "The program's table"
abbrev pub printed : List Row
printed = w 1 0 1 6 6 3 3 1 ∷ w 2 2 1 3 3 0 0 2 ∷ []

abbrev pub tables : List Case
tables =
    -- figure 3
    any (accepted 20 (3 ∷ 15 ∷ []) (w 1 0 2 5 5 1 1 1 ∷ w 2 0 3 20 20 1 1 2 ∷ []))
    -- figure 1
    ++ (missed 20 2 (w 1 0 4 5 5 0 0 1 ∷ w 2 0 5 20 20 0 0 2 ∷ []) 4
    -- figure 7a, and the same with offset 1 for id 1
    ∷ accepted 10 [] (w 1 0 1 2 5 1 1 1 ∷ w 2 0 2 5 10 1 1 2 ∷ []) 4
    ∷ missed 5 2 (w 1 1 1 2 5 1 1 1 ∷ w 2 0 2 5 10 1 1 2 ∷ []) 4
    -- figure 8
    ∷ accepted 8 [] printed 1
    ∷ missed 6 1 printed 4
    -- a first loading that is cut short
    ∷ accepted 12 (1 ∷ 7 ∷ []) (w 1 2 1 3 10 0 0 1 ∷ w 2 0 1 10 10 3 0 2 ∷ []) 1
    ∷ [])
    -- a single row, and its deadline 2 instead
    ++ any (accepted 5 [] (w 5 0 2 3 5 1 1 1 ∷ []))
    ++ any (missed 2 5 (w 5 0 2 2 5 1 1 1 ∷ []))
    -- a single row, and its wcet 5 instead
    ++ any (accepted 5 [] (w 1 0 4 5 5 1 0 1 ∷ []))
    ++ any (missed 5 1 (w 1 0 5 5 5 1 0 1 ∷ []))
