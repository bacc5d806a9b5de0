-- From time u, where jobs have joined, to a time v not after the next release nor the soonest deadline: nothing happens before v, so
-- the slots in between are one jump of the rules, and a state in hand that is moved as the jump moves stands for the run at v.
use mathlib.Core.Path.{◌≡◌, sym, ap, ◌∙◌, subst}
use mathlib.Core.Bool.{true, false}
use mathlib.Core.List.{List}
use Prim.Native.Nat.{ℕ, suc, ◌+◌, ◌-◌, ◌/◌, ◌≤◌, ◌<◌, max}
use native.Mathlib.Omega.{arith}
use lib.Dec.{leb}
use lib.ListN.{drop, length}
use Rattle.rules.specs.declared.Table.{Table}
use Rattle.rules.specs.Policies.{System, policy, row}
use Rattle.rules.specs.Slots as rules
use Rattle.rules.specs.Slots.{newest, due, complete, joins}
use Rattle.rules.specs.AsRun.{before, as_run}
use Rattle.basics.specs.Cases.{le_case, eq_case}
use Rattle.theory.specs.Counters.{until}
use Rattle.theory.specs.Times.{Free}
use Rattle.theory.proofs.Rows.{frees}
use Rattle.theory.specs.Jump.{now, whose, loads, Quiet, Busy, Firm, Alike, gained, jump}
use Rattle.theory.proofs.Jump.{free_firm, event, quiet_until, quiet_due, until_falls}
use Rattle.theory.proofs.Lists.{requests_next, loadings_next, requests_stay, loadings_stay}
use Rattle.theory.specs.Completions.{Seen}
use Rattle.theory.proofs.Completions.{seen_served, seen_other}
use Rattle.slots.specs.Jobs.{never}
use Rattle.machine.specs.declared.state.State.{State}
use Rattle.machine.specs.Least.{Least}
use Rattle.machine.specs.Turns.{tagged_of}
use Rattle.machine.specs.Machine.{live, system_in, choices, state_at, miss_at, release_in, due_in, key_in, need_in, executed_in, worst_in, Full, Unused, At}
use Rattle.machine.proofs.SoundTables.{fine_in, periods}
use Rattle.machine.proofs.Pass.{now_in, who_in, load_in, loadings_after}
use Rattle.machine.proofs.Joins.{Ready}
use Rattle.machine.proofs.Who.{release_time, begun_before, due_is}

-- THE LONGEST RESPONSES, where the run is the schedule

pub seen_on : (y : System) (free : Free y) (pos : (i : ℕ) → i < y.tasks → 0 < (y.row i).period) (u d : ℕ) → 0 < d → Quiet y u d → (c : ℕ → rules.Choice) → c ≡ rules.stated y
    → Busy (now y c u) (whose y c u) (loads y c u) (d - 1) → (k : ℕ) → k < y.tasks → (m : ℕ) → 0 < (y.row k).wcet
    → (whose y c u ≡ suc k → (now y c u).executed k + (d - loads y c u) < (now y c u).need k) → Seen y k u m → Seen y k (u + d) m
seen_on y free pos u d some quiet c e = subst
    (λ (c : ℕ → rules.Choice). Busy (now y c u) (whose y c u) (loads y c u) (d - 1) → (k : ℕ) → k < y.tasks → (m : ℕ) → 0 < (y.row k).wcet
    → (whose y c u ≡ suc k → (now y c u).executed k + (d - loads y c u) < (now y c u).need k) → Seen y k u m → Seen y k (u + d) m)
    (sym e) (λ busy k h m w more seen. seen_other y pos u d some quiet busy (free_firm y free (rules.stated y) u (loads y (rules.stated y) u) (d - 1)) k h m w more seen)

pub seen_end : (y : System) (free : Free y) (pos : (i : ℕ) → i < y.tasks → 0 < (y.row i).period) (u d : ℕ) → 0 < d → Quiet y u d → (c : ℕ → rules.Choice) → c ≡ rules.stated y
    → Busy (now y c u) (whose y c u) (loads y c u) (d - 1) → (k : ℕ) → k < y.tasks → (m : ℕ)
    → whose y c u ≡ suc k → (now y c u).need k ≤ (now y c u).executed k + (d - loads y c u) → Seen y k u m → Seen y k (u + d) (max m (u + d - newest (y.row k) u))
seen_end y free pos u d some quiet c e = subst
    (λ (c : ℕ → rules.Choice). Busy (now y c u) (whose y c u) (loads y c u) (d - 1) → (k : ℕ) → k < y.tasks → (m : ℕ)
    → whose y c u ≡ suc k → (now y c u).need k ≤ (now y c u).executed k + (d - loads y c u) → Seen y k u m → Seen y k (u + d) (max m (u + d - newest (y.row k) u)))
    (sym e) (λ busy k h m has through seen. seen_served y pos u d some quiet busy (free_firm y free (rules.stated y) u (loads y (rules.stated y) u) (d - 1)) k h m has through seen)

-- NOTHING HAPPENS before v

-- a time not after the least is not after another
not_after : (v n release x : ℕ) → v ≤ n / 16 → n ≤ release → release / 16 ≡ x → v ≤ x
not_after v n release x a b e = omega arith

-- v is such a time
pub record Near (u v : ℕ) (s : State) : Type 0 where
  pub after : u < v
  pub next : v ≤ s.next / 16
  pub soonest : v ≤ s.soonest

-- who has slot u goes first by policy, for a table's system holds no executed count
pub firm : (p : ℕ) (t : Table) (xs zs : List ℕ) (u k : ℕ) → Firm (system_in p t) u (now_in p t xs zs u) (who_in p t xs zs u) (load_in p t xs zs u) k
firm p t xs zs u k = free_firm (system_in p t) (frees (policy p) (live t)) (choices p t xs zs) u (load_in p t xs zs u) k

module _ {p : ℕ} {t : Table} {xs zs : List ℕ} {u : ℕ} {s₀ s : State} (r : Ready p t xs zs u s₀ s) {v : ℕ} (near : Near u v s) where
  task : (k : ℕ) → k < length (live t) → k < t.count
  task k h = omega (arith, r.sound.count)

  rows : (k : ℕ) → k < length (live t) → 0 < (row (live t) k).period
  rows = periods t r.sound

  -- the release of a task is not before v
  pub release_on : (k : ℕ) → k < t.count → v ≤ suc u + until (row (live t) k) (suc u)
  release_on k h = not_after v s.next (release_in s k) (suc u + until (row (live t) k) (suc u)) near.next (r.next.low k h) (release_time r h)

  pub quiet_in : Quiet (system_in p t) u (v - u)
  quiet_in k x h a b = quiet_until (row (live t) k) (rows k h) u x a (omega (arith, release_on k (task k h)))

  calm_in : (k x : ℕ) → k < length (live t) → complete (now_in p t xs zs u) k ≡ false → u < x → x < u + (v - u) → due (row (live t) k) x ≡ false
  calm_in k x h e from to =
      let g = fine_in t r.sound k (task k h) in
      quiet_due (row (live t) k) (rows k h) (omega (arith, g.wcet_low, g.wcet_deadline)) g.deadline_period u x
      (begun_before r (task k h) e) from (λ y b c. quiet_in k y h b (omega arith))
      (λ z. omega (arith, z, due_is r (task k h) e, r.passed.soonest.low k (task k h), near.soonest))

  -- THE STATE AT v, where the task that has the slots is not complete before their end
  module _ (busy : Busy (now_in p t xs zs u) (who_in p t xs zs u) (load_in p t xs zs u) (v - u - 1)) where
    some : 0 < v - u
    some = omega (arith, near.after)

    end : u + (v - u) ≡ v
    end = omega (arith, near.after)

    ended : Alike (length (live t)) (state_at p t xs zs v) (jump (now_in p t xs zs u) (who_in p t xs zs u) (load_in p t xs zs u) (v - u))
        × ((x : ℕ) → u < x → x < v → miss_at p t xs zs x ≡ 0)
    ended = let e = event (system_in p t) rows (choices p t xs zs) u (v - u) some quiet_in busy (firm p t xs zs u (v - u - 1)) calm_in in rw end at e

    clean_after : (x : ℕ) → x < v → miss_at p t xs zs x ≡ 0
    clean_after x h = le_case u x (λ e. eq_case u x (λ g. rw (← g) r.clear) (λ g. ended.1 x (omega arith) h)) (λ e. r.at.clean x e)

    release_after : (k : ℕ) → k < t.count → suc u + until (row (live t) k) (suc u) ≡ v + until (row (live t) k) v
    release_after k h =
        let e : suc u + (v - suc u) ≡ v = omega (arith, near.after) in
        let g = until_falls (row (live t) k) (suc u) (v - suc u) (omega (arith, release_on k h)) in
        omega (arith, rw e at g, release_on k h, near.after)

    asked_after : drop s.asked xs ≡ (as_run (system_in p t) xs zs v).requests
    asked_after =
        let e : u + suc (v - u - 1) ≡ v = omega (arith, near.after) in
        let g : suc (v - u - 1) ≡ v - u = omega (arith, near.after) in
        r.passed.asked ∙ ap (λ n. drop (before (joins (system_in p t) u) n) (as_run (system_in p t) xs zs u).requests) (sym r.sound.count)
        ∙ sym (requests_next (system_in p t) rows xs zs u) ∙ sym (rw e at (requests_stay (system_in p t) rows xs zs u (v - u - 1) (rw g quiet_in)))

    begun_after : (b : ℕ) → drop b zs ≡ loadings_after p t xs zs u → drop b zs ≡ (as_run (system_in p t) xs zs v).loadings
    begun_after b h =
        let e : u + suc (v - u - 1) ≡ v = omega (arith, near.after) in
        let g : suc (v - u - 1) ≡ v - u = omega (arith, near.after) in
        h ∙ sym (loadings_next (system_in p t) rows xs zs u)
        ∙ sym (rw e at (loadings_stay (system_in p t) rows xs zs u (v - u - 1) (rw g quiet_in) busy (firm p t xs zs u (v - u - 1))))

    -- task k after these slots
    pub record Moved (k : ℕ) (s' : State) : Type 0 where
      pub need : need_in s' k ≡ (now_in p t xs zs u).need k
      pub executed : executed_in s' k ≡ (now_in p t xs zs u).executed k + gained (who_in p t xs zs u) (load_in p t xs zs u) (v - u) k
      pub release : release_in s' k ≡ release_in s k
      pub incomplete : leb (need_in s' k) (executed_in s' k) ≡ false → (complete (now_in p t xs zs u) k ≡ false) × (due_in s' k ≡ due_in s k) × (key_in s' k ≡ key_in s k)
      pub complete : leb (need_in s' k) (executed_in s' k) ≡ true → (due_in s' k ≡ never) × (key_in s' k ≡ never)
      pub seen : choices p t xs zs ≡ rules.stated (system_in p t) → Seen (system_in p t) k v (worst_in s' k)

    -- all of it
    pub record Leapt (s' : State) : Type 0 where
      pub full : Full s'
      pub moved : (k : ℕ) → k < t.count → Moved k s'
      pub rest : (k : ℕ) → t.count ≤ k → Unused k s'
      pub next : Least t.count s'.release s'.next
      pub soonest : Least t.count s'.due s'.soonest
      pub best : Least t.count s'.key s'.best
      pub ahead : v ≤ s'.soonest
      pub last : s'.last ≡ (jump (now_in p t xs zs u) (who_in p t xs zs u) (load_in p t xs zs u) (v - u)).last
      pub left : s'.left.0 ≡ load_in p t xs zs u - (v - u)
      pub asked : s'.asked ≡ s.asked
      pub begun : drop s'.begun zs ≡ loadings_after p t xs zs u

    pub at_after : {s' : State} → Leapt s' → At p t xs zs v s'
    at_after {s'} l = record {
      full = l.full;
      tasks = λ k h.
          let m = l.moved k h in
          let b : k < length (live t) = omega (arith, r.sound.count) in
          let n : need_in s' k ≡ (state_at p t xs zs v).need k = m.need ∙ sym (ended.0.need k b) in
          let e : executed_in s' k ≡ (state_at p t xs zs v).executed k = m.executed ∙ sym (ended.0.executed k b) in
          let j = r.passed.joined k h in
          record {
            need = n;
            executed = e;
            release = m.release ∙ j.release ∙ ap (λ x. tagged_of x k) (release_after k h);
            incomplete = λ c.
                let i = m.incomplete (rw (n, e) c) in
                let o = j.incomplete i.0 in
                rw (i.1, i.2) (rw (release_after k h) at o);
            complete = λ c. m.complete (rw (n, e) c);
          };
      rest = l.rest;
      next = l.next;
      soonest = l.soonest;
      best = l.best;
      ahead = l.ahead;
      last = l.last ∙ sym ended.0.last;
      left = l.left ∙ sym ended.0.left;
      asked = ap (λ n. drop n xs) l.asked ∙ asked_after;
      begun = begun_after s'.begun l.begun;
      clean = clean_after;
      seen = λ e k h. (l.moved k h).seen e;
    }
