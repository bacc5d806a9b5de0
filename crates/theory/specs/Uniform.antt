-- The slot in one equation, where the rules word it by cases. Definitions; that the two are one is in `proofs/Uniform`.
use Rattle.std.specs.Prelude.{Bool, true, false, ◌&&◌, ℕ, suc, ◌+◌, pred, leb, eqb}
use Rattle.rules.specs.Slots.{State, complete, unless, pick, loading}

abbrev pub bit : Bool → ℕ
bit true = 1
bit false = 0

-- the slots executed, after a slot of `p` with `l` loading to do: it executes if that is none
abbrev pub served : (ℕ → ℕ) → ℕ → ℕ → ℕ → ℕ
served executed p l i = executed i + bit (eqb l 0 && eqb p (suc i))

abbrev pub uniform : State → ℕ → ℕ → State
uniform s p l = record {
  need = s.need;
  executed = served s.executed p l;
  last = unless (λ i. leb (s.need i) (served s.executed p l i)) p;
  left = pred l;
}

-- the slot of the first by rank among n tasks
abbrev pub act : ℕ → (ℕ → ℕ) → (ℕ → ℕ → ℕ) → State → State
act n rank load s = uniform s (pick rank (complete s) n) (loading load s (pick rank (complete s) n))
