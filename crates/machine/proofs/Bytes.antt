-- The bytes of a turn of the loop: from u to v the slots stay with one task, or with none, and its loading goes on; so one stretch of
-- bytes is the run's.
use mathlib.Core.Path.{◌≡◌, refl, sym, ap, ◌∙◌}
use mathlib.Core.Bool.{cond}
use mathlib.Core.List.{List}
use Prim.Native.Nat.{ℕ, zero, suc, ◌+◌, ◌-◌, ◌%◌, ◌≤◌, ◌<◌}
use native.Mathlib.Omega.{arith}
use native.Mathlib.Nat.{mod-eq_of_lt}
use borrow.Author.Tests.{lt-ltb, le-ltb}
use lib.Dec.{eqb, ltb, eqb-suc-zero}
use Rattle.rules.specs.declared.Table.{Table}
use Rattle.rules.specs.Policies.{System, row}
use Rattle.rules.specs.Schedules.{id_byte, kind_byte}
use Rattle.basics.specs.Cases.{eq_case}
use Rattle.theory.specs.Jump.{whose, loads, Busy}
use Rattle.theory.proofs.Jump.{inside}
use Rattle.machine.specs.declared.state.State.{State}
use Rattle.machine.specs.Paint.{Painted, stretch_id, stretch_kind}
use Rattle.machine.specs.Machine.{live, system_in, choices, PaintedRun}
use Rattle.machine.proofs.SoundTables.{fine_in, periods}
use Rattle.machine.proofs.Painted.{painted_as, painted_join}
use Rattle.machine.proofs.Pass.{now_in, who_in, load_in}
use Rattle.machine.proofs.Joins.{Ready}
use Rattle.machine.proofs.Leap.{Near, firm, quiet_in}

id_is : (y : System) (n id : ℕ) → ((i : ℕ) → n ≡ suc i → id % 256 ≡ (y.row i).id) → cond (eqb n 0) 0 (id % 256) ≡ id_byte y n
id_is y zero id h = refl
id_is y (suc i) id h = rw (eqb-suc-zero i) (h i refl)

kind_is : (n l k : ℕ) → cond (eqb n 0) 0 (cond (ltb k l) 1 2) ≡ kind_byte n (l - k)
kind_is zero l k = refl
kind_is (suc i) l k = rw (eqb-suc-zero i) (go (l - k) refl)
  where
    go : (m : ℕ) → l - k ≡ m → cond (ltb k l) 1 2 ≡ kind_byte (suc i) m
    go zero e = rw (le-ltb k l (omega arith))
    go (suc m) e = rw (lt-ltb k l (omega arith))

module _ {p : ℕ} {t : Table} {xs zs : List ℕ} {u : ℕ} {s₀ s : State} (r : Ready p t xs zs u s₀ s) {v : ℕ} (near : Near u v s)
    (busy : Busy (now_in p t xs zs u) (who_in p t xs zs u) (load_in p t xs zs u) (v - u - 1))
    {at : ℕ} (who : at ≡ who_in p t xs zs u) {load : ℕ} (to_load : load ≡ load_in p t xs zs u)
    (id : ℕ) (its_id : (i : ℕ) → at ≡ suc i → (i < t.count) × (id ≡ (row (live t) i).id)) where
  -- before v the slot stays with the same task, and its loading goes on
  holds : (x : ℕ) → u ≤ x → x < v → (whose (system_in p t) (choices p t xs zs) x ≡ at) × (loads (system_in p t) (choices p t xs zs) x ≡ load - (x - u))
  holds x from to = eq_case u x
      (λ e. rw (← e) (sym who, omega (arith, to_load)))
      (λ e.
      let g : u + suc (x - suc u) ≡ x = omega arith in
      let m = rw g at (inside (system_in p t) (periods t r.sound) (choices p t xs zs) u (x - suc u) (λ i w l a b. quiet_in r near i w l a (omega arith))
      (λ j z. omega (arith, busy j z)) (firm p t xs zs u (suc (x - suc u)))) in
      (m.0 ∙ sym who, omega (arith, m.1, to_load)))

  one_byte : (i : ℕ) → at ≡ suc i → id % 256 ≡ (row (live t) i).id
  one_byte i e = let h = its_id i e in mod-eq_of_lt (omega (arith, h.1, (fine_in t r.sound i h.0).id_high)) ∙ h.1

  paints : {before after : List ℕ} → Painted (stretch_id at id) (stretch_kind u at load) u v before after → PaintedRun p t xs zs u v before after
  paints = painted_as
      (λ x from to. id_is (system_in p t) at id one_byte ∙ ap (id_byte (system_in p t)) (sym (holds x from to).0))
      (λ x from to. kind_is at load (x - u) ∙ ap (kind_byte at) (sym (holds x from to).1)
      ∙ ap (λ n. kind_byte n (loads (system_in p t) (choices p t xs zs) x)) (sym (holds x from to).0))

  -- after what was painted before
  pub painted_on : {before mid end : List ℕ} (count : ℕ) → u + count ≡ v → PaintedRun p t xs zs 0 u before mid
      → Painted (stretch_id at id) (stretch_kind u at load) u (u + count) mid end → PaintedRun p t xs zs 0 v before end
  painted_on count e b c = painted_join (omega arith) (omega (arith, near.after)) b (paints (rw e at c))
