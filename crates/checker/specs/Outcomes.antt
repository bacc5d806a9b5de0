-- What the functions on the way to a reply give. Means of proof.
use Rattle.std.specs.Prelude.{◌≡◌, ◌≢◌, Bool, false, List, map, ℕ, ◌<◌, get_or}
use Rattle.rules.specs.declared.Row.{Row}
use Rattle.rules.specs.declared.Refusal.{Refusal}
use Rattle.rules.specs.declared.Table.{Table}
use Rattle.rules.specs.declared.Verdict.TheVariants.{Accepted}
use Rattle.rules.specs.Table.{omax, hyper}
use Rattle.rules.specs.Sources.{Source}
use Rattle.rules.specs.Checks.{refusal_for}
use Rattle.rules.specs.Verdicts.{tasks_of, Decides, Worst}
use Rattle.checker.specs.declared.decide.Outcome.{Outcome}
use Rattle.machine.specs.Machine.{Sound, live, system_in}

-- no check of the source fails, and the table has its tasks
pub record Passes (p : ℕ) (unfit : Bool) (s : Source) (t : Table) : Type 0 where
  pub none : (refusal_for p unfit s).number ≡ 0
  pub fit : unfit ≡ false
  pub sound : Sound t
  pub tasks : live t ≡ tasks_of s

-- or the first that does is this one
pub record Fails (p : ℕ) (unfit : Bool) (s : Source) (f : Refusal) : Type 0 where
  pub refusal : refusal_for p unfit s ≡ f
  pub some : f.number ≢ 0

-- the reply of a table in hand, and the worst responses where it is accepted
pub record Outcomes (p : ℕ) (t : Table) (a : ℕ) (r : Outcome) : Type 0 where
  pub decides : Decides (system_in p t) (omax (live t)) (hyper (live t)) a r.verdict
  pub worst : (n : ℕ) → r.verdict ≡ Accepted n → (i : ℕ) → i < t.count → Worst (system_in p t) i (get_or r.worst i 0)

-- the ids of rows
abbrev pub ids_in : List Row → List ℕ
ids_in rows = map (λ (w : Row). w.id) rows
