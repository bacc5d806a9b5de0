-- The slot in one equation. The rules word a slot by cases: idle, executing, loading. One equation covers the three, so the laws
-- of a step split no cases; `run_next` says that a run goes on by it, and every law of a run starts there.
use Rattle.std.specs.Prelude.{◌≡◌, refl, Bool, true, false, cond, ℕ, zero, suc, ◌+◌, eqb}
use Rattle.std.proofs.Common.{sym, add-zero, eq-eqb}
use Rattle.std.proofs.Math.Path.{fun_ext}
use Rattle.std.proofs.Math.Dec.{eqb-suc-zero, eqb-zero-suc, eqb-suc-suc}
use Rattle.rules.specs.Policies.{System}
use Rattle.rules.specs.Slots.{State, Choice, complete, pick, loading, slot, order, lengths, joined, run}
use Rattle.theory.specs.Order.{First, pick_first}
use Rattle.theory.specs.Uniform.{bit, uniform, act}

bit_cond : (n : ℕ) (b : Bool) → n + bit b ≡ cond b (n + 1) n
bit_cond n true = refl
bit_cond n false = add-zero n

state_path : (c e e' : ℕ → ℕ) (l l' f f' : ℕ) → e ≡ e' → l ≡ l' → f ≡ f'
    → ◌≡◌ {A = State} (record { need = c; executed = e; last = l; left = f }) (record { need = c; executed = e'; last = l'; left = f' })
state_path c e e' l l' f f' p q r = λ i. record { need = c; executed = p i; last = q i; left = r i }

idle : (s : State) → uniform s zero zero ≡ slot s zero zero
idle s = state_path s.need _ _ _ _ _ _ (fun_ext (λ i. rw (eqb-zero-suc i) (add-zero (s.executed i)))) refl refl

executes : (s : State) (j : ℕ) → uniform s (suc j) zero ≡ slot s (suc j) zero
executes s j = state_path s.need _ _ _ _ _ _ (fun_ext (λ i. rw (eqb-suc-suc j i) (bit_cond (s.executed i) (eqb j i)))) (rw (eq-eqb (suc j) (suc j) refl)) refl

loads : (s : State) (j l : ℕ) → complete s j ≡ false → uniform s (suc j) (suc l) ≡ slot s (suc j) (suc l)
loads s j l h = state_path s.need _ _ _ _ _ _ (fun_ext (λ i. rw (eqb-suc-zero l) (add-zero (s.executed i)))) (rw (eqb-suc-zero l, add-zero (s.executed j), h)) refl

act_slot : (n : ℕ) (rank : ℕ → ℕ) (load : ℕ → ℕ → ℕ) (s : State)
    → act n rank load s ≡ slot s (pick rank (complete s) n) (loading load s (pick rank (complete s) n))
act_slot n rank load s = go (pick rank (complete s) n) (pick_first rank (complete s) n)
  where
    busy : (j l : ℕ) → complete s j ≡ false → uniform s (suc j) l ≡ slot s (suc j) l
    busy j zero h = executes s j
    busy j (suc l) h = loads s j l h

    go : (p : ℕ) → First rank (complete s) n p → uniform s p (loading load s p) ≡ slot s p (loading load s p)
    go zero f = idle s
    go (suc j) f = busy j (loading load s (suc j)) f.1

pub run_next : (y : System) (c : ℕ → Choice) (t : ℕ) → run y c (suc t) ≡ act y.tasks (order y t (joined y (c t) t (run y c t))) (lengths y (c t)) (joined y (c t) t (run y c t))
unfolding run
run_next y c t = sym (act_slot y.tasks (order y t (joined y (c t) t (run y c t))) (lengths y (c t)) (joined y (c t) t (run y c t)))
