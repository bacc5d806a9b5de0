-- Where a job may be preempted at any slot, the slot goes to the first by rank: the laws of preemption at any slot (domination, and with
-- it the weight that falls) start at `free_next` in place of `run_next`.
use Rattle.std.specs.Prelude.{◌≡◌, refl, ◌↔◌, Bool, ℕ, suc, ◌≤◌}
use Rattle.std.proofs.Common.{ap, ◌∙◌, arith}
use Rattle.rules.specs.Policies.{System}
use Rattle.rules.specs.Slots.{State, Choice, complete, pick, loading, rank, order, lengths, joined, run}
use Rattle.theory.specs.Order.{pick_first, agree_all}
use Rattle.theory.specs.Uniform.{uniform, act}
use Rattle.theory.proofs.Uniform.{run_next}
use Rattle.theory.specs.Times.{Free}

-- orders that compare alike pick alike
pub pick_like : (r s : ℕ → ℕ) (d : ℕ → Bool) (n : ℕ) → ((i j : ℕ) → (r i ≤ r j) ↔ (s i ≤ s j)) → pick r d n ≡ pick s d n
pick_like r s d n like = agree_all r s d d n (λ i h e. e) (λ i j a b u v. like i j) (λ i h e. e) (pick r d n) (pick s d n) (pick_first r d n) (pick_first s d n)

module _ (y : System) (free : Free y) where
  pub free_order : (t : ℕ) (s : State) (i : ℕ) → order y t s i ≡ suc (rank y t i)
  free_order t s i = rw (free i (s.executed i)) refl

  free_like : (t : ℕ) (s : State) (i j : ℕ) → (order y t s i ≤ order y t s j) ↔ (rank y t i ≤ rank y t j)
  free_like t s i j = let a = free_order t s i in let b = free_order t s j in (λ e. omega arith, λ e. omega arith)

  pub free_pick : (t : ℕ) (s : State) → pick (order y t s) (complete s) y.tasks ≡ pick (rank y t) (complete s) y.tasks
  free_pick t s = pick_like (order y t s) (rank y t) (complete s) y.tasks (free_like t s)

  pub free_next : (c : ℕ → Choice) (t : ℕ) → run y c (suc t) ≡ act y.tasks (rank y t) (lengths y (c t)) (joined y (c t) t (run y c t))
  free_next c t = run_next y c t ∙ ap (λ p. uniform (joined y (c t) t (run y c t)) p (loading (lengths y (c t)) (joined y (c t) t (run y c t)) p)) (free_pick t (joined y (c t) t (run y c t)))
