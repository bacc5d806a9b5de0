-- The state at time 0. The loop of `begin` fills in one row after the other (`begun_turn`). Once all rows are filled in, the state stands
-- for the rules' begin (`begun_at`).
use mathlib.Core.Path.{◌≡◌, refl, sym, ap, ◌∙◌, subst}
use mathlib.Core.Logic.{inl, ◌≢◌}
use mathlib.Core.List.{List}
use Prim.Native.Nat.{ℕ, zero, suc, ◌+◌, ◌≤◌, ◌<◌, min}
use native.Mathlib.Omega.{arith}
use borrow.Author.Count.{below_more}
use borrow.Author.Tests.{le-leb}
use lib.ListN.{get_or, length, set, replicate, length-set}
use lib.Seq.{get_or-set_same, get_or-set_other}
use Rattle.rules.specs.declared.Row.{Row}
use Rattle.rules.specs.declared.Executed.{Executed}
use Rattle.rules.specs.declared.Table.{Table}
use Rattle.rules.specs.Table.{no_row}
use Rattle.rules.specs.Policies as policies
use Rattle.rules.specs.Policies.{blank}
use Rattle.basics.specs.Lists.{any_default}
use Rattle.rules.specs.Slots as rules
use Rattle.rules.specs.AsRun.{as_run}
use Rattle.basics.specs.Cases.{clash}
use Rattle.theory.specs.Counters.{until}
use Rattle.theory.proofs.Completions.{seen_start}
use Rattle.slots.specs.Jobs.{never}
use Rattle.machine.specs.declared.state.State.{State}
use Rattle.machine.specs.Least.{Least}
use Rattle.machine.specs.Begun.{over, Filled, Begun}
use Rattle.machine.specs.Turns.{tagged_of}
use Rattle.machine.specs.Machine.{live, Sound, system_in, state_at, nothing, due_in, key_in, TaskAt, At}
use Rattle.machine.proofs.Minima.{least_put}

-- NOTHING IS FILLED IN

same_all : (n i a : ℕ) → get_or (replicate n a) i a ≡ a
same_all zero i a = refl
same_all (suc n) zero a = refl
same_all (suc n) (suc i) a = same_all n i a

least_never : (n : ℕ) → Least n (replicate 16 never) never
least_never n = record { low = λ i h. omega (arith, same_all 16 i never); top = omega arith; hit = inl refl }

-- THE ROWS BELOW i ARE FILLED IN

-- row i too
module _ (rows : List Row) (i : ℕ) (below : i < length rows) (few : length rows ≤ 16) (s : State) (b : Begun rows i s) where
  abbrev w : Row
  w = get_or rows i no_row

  abbrev done : Executed
  done = record { 0 = w.wcet }

  -- o is its release
  module _ (o : ℕ) (tag : o ≡ tagged_of w.offset i) where
    filled_here : Filled w i (set s.release i o) (set s.need i done) (set s.executed i done)
    filled_here = record {
      release = get_or-set_same s.release i o never (omega (arith, b.release)) ∙ tag;
      need = ap (λ (e : Executed). e.0) (get_or-set_same s.need i done nothing (omega (arith, b.need)));
      executed = ap (λ (e : Executed). e.0) (get_or-set_same s.executed i done nothing (omega (arith, b.executed)));
    }

    filled_still : (k : ℕ) → k < i → Filled (get_or rows k no_row) k (set s.release i o) (set s.need i done) (set s.executed i done)
    filled_still k h =
        let apart : k ≢ i = λ e. omega arith in
        record {
          release = get_or-set_other s.release i k o never apart ∙ (b.tasks k h).release;
          need = ap (λ (e : Executed). e.0) (get_or-set_other s.need i k done nothing apart) ∙ (b.tasks k h).need;
          executed = ap (λ (e : Executed). e.0) (get_or-set_other s.executed i k done nothing apart) ∙ (b.tasks k h).executed;
        }

    pub begun_turn : (next : ℕ) → next ≡ min s.next o → Begun rows (i + 1) (over s (set s.release i o) (set s.need i done) (set s.executed i done) next)
    begun_turn next e = record {
      others = ap (λ (x : State). over x (set s.release i o) (set s.need i done) (set s.executed i done) next) b.others;
      release = length-set s.release i o ∙ b.release;
      need = length-set s.need i done ∙ b.need;
      executed = length-set s.executed i done ∙ b.executed;
      tasks =
          below_more (λ k. Filled (get_or rows k no_row) k (set s.release i o) (set s.need i done) (set s.executed i done)) i
          filled_still filled_here;
      rest = λ k h. get_or-set_other s.release i k o never (λ q. omega arith) ∙ b.rest k (omega arith);
      next = rw e (least_put (length rows) s.release s.next i (omega (arith, b.release)) b.next o below (b.rest i (omega arith)));
    }

-- ALL ARE FILLED IN

-- a job that is complete, at time 0
first_task : (p : ℕ) (w : Row) (x : rules.State) (i : ℕ) (s : State) → x.need i ≡ w.wcet → x.executed i ≡ w.wcet → Filled w i s.release s.need s.executed
    → due_in s i ≡ never → key_in s i ≡ never → TaskAt p w x 0 i s
unfolding until
first_task p w x i s a b f due key = record {
  need = f.need ∙ sym a;
  executed = f.executed ∙ sym b;
  release = omega (arith, f.release);
  incomplete = λ e. clash (le-leb (x.need i) (x.executed i) (omega arith)) e;
  complete = λ e. (due, key);
}

pub begun_at : (t : Table) → Sound t → (s : State) → Begun (live t) (length (live t)) s → (p : ℕ) (xs zs : List ℕ) → At p t xs zs 0 s
unfolding rules.run as_run
begun_at t sound s b p xs zs = rw b.others (record {
  full = record { release = b.release; due = refl; key = refl; need = b.need; executed = b.executed; worst = refl };
  tasks = λ i h.
      first_task p (policies.row (live t) i) (state_at p t xs zs 0) i _ refl refl
      (subst (λ (w : Row). Filled w i s.release s.need s.executed) (any_default (live t) i no_row blank (inside i h)) (b.tasks i (inside i h)))
      (same_all 16 i never) (same_all 16 i never);
  rest = λ i h. record { release = b.rest i (omega (arith, sound.count)); due = same_all 16 i never; key = same_all 16 i never };
  next = rw sound.count at b.next;
  soonest = least_never t.count;
  best = least_never t.count;
  ahead = omega arith;
  last = refl;
  left = refl;
  asked = refl;
  begun = refl;
  clean = λ v h. absurd (omega arith);
  seen = λ e i h. rw (same_all 16 i 0) (seen_start (system_in p t) i);
})
  where
    inside : (i : ℕ) → i < t.count → i < length (live t)
    inside i h = omega (arith, sound.count)
