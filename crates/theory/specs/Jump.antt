-- Several slots as one step in closed form, and when they are one. Definitions; that the run goes by it is in `proofs/Jump`.
use Rattle.std.specs.Prelude.{◌≡◌, ◌⊎◌, true, false, cond, leb, eqb}
use Prim.Native.Nat.{ℕ, suc, ◌+◌, ◌-◌, ◌≤◌, ◌<◌}
use Rattle.rules.specs.Policies.{System}
use Rattle.rules.specs.Slots.{to_load, State, Choice, complete, unless, released, rank, joined, run, who}
use Rattle.theory.specs.Order.{First}

-- THE CLOSED FORM: the state after m slots of p, which has l slots to load at first

abbrev pub gained : ℕ → ℕ → ℕ → ℕ → ℕ
gained p l m i = cond (eqb p (suc i)) (m - l) 0

abbrev pub jump : State → ℕ → ℕ → ℕ → State
jump s p l m = record {
  need = s.need;
  executed = λ i. s.executed i + gained p l m i;
  last = unless (λ i. leb (s.need i) (s.executed i + gained p l m i)) p;
  left = l - m;
}

-- equal states, of any run: on the tasks there are
pub record Alike (n : ℕ) (a b : State) : Type 0 where
  pub need : (i : ℕ) → i < n → a.need i ≡ b.need i
  pub executed : (i : ℕ) → i < n → a.executed i ≡ b.executed i
  pub last : a.last ≡ b.last
  pub left : a.left ≡ b.left

-- p goes before all others by policy
abbrev pub ByRank : System → ℕ → State → ℕ → Type 0
ByRank y t s p = First (rank y t) (complete s) y.tasks p

-- ON A RUN

abbrev pub now : System → (ℕ → Choice) → ℕ → State
now y c t = joined y (c t) t (run y c t)

abbrev pub whose : System → (ℕ → Choice) → ℕ → ℕ
whose y c t = who y (c t) t (run y c t)

abbrev pub loads : System → (ℕ → Choice) → ℕ → ℕ
loads y c t = to_load y (c t) t (run y c t)

-- nothing is released between t and t + m
abbrev pub Quiet : System → ℕ → ℕ → Type 0
Quiet y t m = (i u : ℕ) → i < y.tasks → t < u → u < t + m → released (y.row i) u ≡ false

-- the task that has slot t is not complete after k slots, of which it loads l
abbrev pub Busy : State → ℕ → ℕ → ℕ → Type 0
Busy s p l k = (j : ℕ) → p ≡ suc j → s.executed j + (k - l) < s.need j

-- it goes first by policy, or its chunk is under way for k slots more
abbrev pub Firm : System → ℕ → State → ℕ → ℕ → ℕ → Type 0
Firm y t s p l k = ByRank y t s p ⊎ ((j : ℕ) → p ≡ suc j → (u : ℕ) → u ≤ k → y.held j (s.executed j + (u - l)) ≡ true)
