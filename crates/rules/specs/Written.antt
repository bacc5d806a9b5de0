-- What a call that writes bytes replies, and what the lent bytes hold after it; of such calls, ids. Definitions.
use Rattle.std.specs.Prelude.{◌≡◌, ◌≢◌, List, ◌++◌, map, ℕ, length, drop, Result, Ok, Err}
use Rattle.rules.specs.declared.Row.{Row}
use Rattle.rules.specs.declared.Refusal.{Refusal}
use Rattle.rules.specs.Sources.{Source}
use Rattle.rules.specs.Checks.{ids_refusal}
use Rattle.rules.specs.Verdicts.{tasks_of}

-- "A refusal writes nothing"; otherwise the bytes stand at the front, those past them stay, and the reply has the number n
pub record Puts (f : Refusal) (n : ℕ) (bytes before after : List ℕ) (r : Result ℕ Refusal) : Type 0 where
  pub refused : f.number ≢ 0 → (r ≡ Err f) × (after ≡ before)
  pub written : f.number ≡ 0 → (r ≡ Ok n) × (after ≡ bytes ++ drop (length bytes) before)

-- IDS: "the ids in ascending order, so that a host can label responses", and "number the rows"
abbrev pub ids_of : Source → List ℕ
ids_of s = map (λ (w : Row). w.id) (tasks_of s)

abbrev pub IdsAre : Source → List ℕ → List ℕ → Result ℕ Refusal → Type 0
IdsAre s before after r = Puts (ids_refusal (length before) s) (length s.rows) (ids_of s) before after r
