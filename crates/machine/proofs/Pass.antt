-- Jobs join at time u, where nothing is missed, row by row. After i rows the tasks before i are as the rules have them once jobs have
-- joined, and the others are as they were. A row either has no release now and stays, or its new job joins.
use mathlib.Core.Path.{◌≡◌, refl, sym, ap, ◌∙◌}
use mathlib.Core.Logic.{◌≢◌}
use mathlib.Core.Bool.{Bool, true, false, cond}
use mathlib.Core.List.{List, []}
use Prim.Native.Nat.{ℕ, suc, ◌+◌, ◌-◌, ◌≤◌, ◌<◌, min, pred}
use native.Mathlib.Omega.{arith}
use native.Mathlib.Nat.{add-zero}
use borrow.Author.Tests.{eqb-false, eq-eqb, ne_eqb, lt-ltb, le-ltb, leb-true, leb-false}
use lib.Dec.{eqb}
use lib.ListN.{get_or, drop, length, set, length-set}
use lib.Seq.{get_or-drop, get_or-set_same, get_or-set_other, drop-drop, drop-nil, drop-length}
use Rattle.rules.specs.declared.Row.{Row}
use Rattle.rules.specs.declared.Table.{Table}
use Rattle.rules.specs.Policies.{row}
use Rattle.rules.specs.Slots as rules
use Rattle.rules.specs.Slots.{released, complete, joins, requests}
use Rattle.rules.specs.AsRun.{one, before, begins, as_run}
use Rattle.basics.specs.Cases.{test, le_case, eq_case}
use Rattle.theory.specs.Counters.{until, released_until}
use Rattle.theory.specs.Jump.{now, whose, loads}
use Rattle.slots.specs.Jobs.{never, used_of, open_of}
use Rattle.machine.specs.declared.state.State.{State}
use Rattle.machine.specs.declared.join.Joined.{Joined}
use Rattle.machine.specs.Least.{Least}
use Rattle.machine.specs.Turns.{tagged_of, rank_of, joined_of}
use Rattle.machine.specs.Machine.{live, Sound, system_in, choices, state_at, nothing, release_in, due_in, key_in, need_in, executed_in, Full, TaskAt, At}
use Rattle.machine.proofs.SoundTables.{fine_in, period_some, count_top}
use Rattle.machine.proofs.Minima.{least_put}

-- COUNTDOWNS

suc_pred : (n : ℕ) → 0 < n → suc (pred n) ≡ n
suc_pred n h = omega arith

pub until_release : (w : Row) → 0 < w.period → (u : ℕ) → released w u ≡ true → suc (until w (suc u)) ≡ w.period
unfolding until
until_release w pos u e = rw (sym (released_until w pos u) ∙ e) (suc_pred w.period pos)

pub until_go : (w : Row) → 0 < w.period → (u : ℕ) → released w u ≡ false → suc (until w (suc u)) ≡ until w u
unfolding until
until_go w pos u e =
    let f = sym (released_until w pos u) ∙ e in
    let z = eqb-false (until w u) 0 f in
    rw f (suc_pred (until w u) (omega arith))

-- ONE TASK

-- two states in hand say the same of task k
pub record SameTask (k : ℕ) (a b : State) : Type 0 where
  pub release : release_in b k ≡ release_in a k
  pub due : due_in b k ≡ due_in a k
  pub key : key_in b k ≡ key_in a k
  pub need : need_in b k ≡ need_in a k
  pub executed : executed_in b k ≡ executed_in a k

pub task_moves : (p : ℕ) (w : Row) (x : rules.State) (v k : ℕ) (a b : State) → SameTask k a b → TaskAt p w x v k a → TaskAt p w x v k b
task_moves p w x v k a b m t = record {
  need = m.need ∙ t.need;
  executed = m.executed ∙ t.executed;
  release = m.release ∙ t.release;
  incomplete = λ e. rw (m.due, m.key) (t.incomplete e);
  complete = λ e. rw (m.due, m.key) (t.complete e);
}

module _ (p : ℕ) (w : Row) (pos : 0 < w.period) (x : rules.State) (u k : ℕ) (s : State) (c : ℕ → ℕ) where
  -- no job of it joins
  task_stays : TaskAt p w x u k s → released w u ≡ false → TaskAt p w (rules.release (λ j. released w u) c x) (suc u) k s
  task_stays t r = rw r (record {
    need = t.need;
    executed = t.executed;
    release = omega (arith, t.release, until_go w pos u r);
    incomplete = λ e. (omega (arith, (t.incomplete e).0, until_go w pos u r), (t.incomplete e).1);
    complete = t.complete;
  })

  -- one joins
  task_joins : (ask : ℕ) → c k ≡ min ask w.wcet → released w u ≡ true
      → need_in s k ≡ min ask w.wcet → executed_in s k ≡ 0 → release_in s k ≡ tagged_of (u + w.period) k
      → due_in s k ≡ open_of (record { 0 = min ask w.wcet }) (u + w.deadline)
      → key_in s k ≡ open_of (record { 0 = min ask w.wcet }) (rank_of p w k (u + w.deadline))
      → TaskAt p w (rules.release (λ j. released w u) c x) (suc u) k s
  task_joins ask e r need executed release due key = rw r (record {
    need = need ∙ sym e;
    executed = executed;
    release = omega (arith, release, until_release w pos u r);
    incomplete = λ g.
        let some : min ask w.wcet ≢ 0 = λ z. omega (arith, leb-false (c k) 0 g, e, z) in
        let d = due ∙ ap (λ (b : Bool). cond b never (u + w.deadline)) (ne_eqb (min ask w.wcet) 0 some) in
        (omega (arith, d, until_release w pos u r), key ∙ ap (λ (b : Bool). cond b never (rank_of p w k (u + w.deadline))) (ne_eqb (min ask w.wcet) 0 some) ∙ ap (rank_of p w k) (sym d));
    complete = λ g.
        let none : min ask w.wcet ≡ 0 = omega (arith, leb-true (c k) 0 g, e) in (
          due ∙ ap (λ (b : Bool). cond b never (u + w.deadline)) (eq-eqb (min ask w.wcet) 0 none),
          key ∙ ap (λ (b : Bool). cond b never (rank_of p w k (u + w.deadline))) (eq-eqb (min ask w.wcet) 0 none),
        );
  })

-- THE REQUESTS: an entry is used by each release, as long as there is one

pub used_drop : (xs ys : List ℕ) (a n : ℕ) (uses : Bool) → drop a xs ≡ drop n ys → drop (used_of uses a (length xs)) xs ≡ drop (n + one uses) ys
used_drop xs ys a n false e = rw (add-zero n) e
used_drop xs ys a n true e = le_case (length xs) a
    (λ h. rw (le-ltb a (length xs) h) (gone h ∙ sym (ap (drop 1) (sym e ∙ gone h)) ∙ drop-drop 1 n ys))
    (λ h. rw (lt-ltb a (length xs) h) (sym (drop-drop 1 a xs) ∙ ap (drop 1) e ∙ drop-drop 1 n ys))
  where
    gone : length xs ≤ a → drop a xs ≡ []
    gone h = let q : length xs + (a - length xs) ≡ a = omega arith in
        rw (← q) (sym (drop-drop (a - length xs) (length xs) xs) ∙ rw (drop-length xs) (drop-nil (a - length xs)))

-- THE PASS

-- once jobs have joined at time u: the state, who has the slot, what it has to load, and the loadings that are left after it
module _ (p : ℕ) (t : Table) (xs zs : List ℕ) (u : ℕ) where
  abbrev pub now_in : rules.State
  now_in = now (system_in p t) (choices p t xs zs) u

  abbrev pub who_in : ℕ
  who_in = whose (system_in p t) (choices p t xs zs) u

  abbrev pub load_in : ℕ
  load_in = loads (system_in p t) (choices p t xs zs) u

  abbrev pub loadings_after : List ℕ
  loadings_after = drop (one (begins (system_in p t) now_in who_in)) (as_run (system_in p t) xs zs u).loadings

pub record Passing (p : ℕ) (t : Table) (xs zs : List ℕ) (u : ℕ) (s₀ : State) (i : ℕ) (s : State) : Type 0 where
  pub full : Full s
  pub joined : (k : ℕ) → k < i → TaskAt p (row (live t) k) (now_in p t xs zs u) (suc u) k s
  pub others : (k : ℕ) → i ≤ k → SameTask k s₀ s
  pub soonest : Least t.count s.due s.soonest
  pub ahead : u < s.soonest
  pub best : Least t.count s.key s.best
  pub worst : s.worst ≡ s₀.worst
  pub last : s.last ≡ s₀.last
  pub left : s.left ≡ s₀.left
  pub begun : s.begun ≡ s₀.begun
  pub asked : drop s.asked xs ≡ drop (before (joins (system_in p t) u) i) (as_run (system_in p t) xs zs u).requests

-- the state with a new job of task i
abbrev pub with_joined : State → ℕ → Joined → ℕ → ℕ → State
with_joined s i j n next = record s {
  release = set s.release i j.release;
  due = set s.due i j.due;
  key = set s.key i j.key;
  need = set s.need i j.need;
  executed = set s.executed i nothing;
  next = next;
  soonest = min s.soonest j.due;
  best = min s.best j.key;
  asked = used_of true s.asked n;
}

module _ {p : ℕ} {t : Table} (sound : Sound t) {xs zs : List ℕ} {u : ℕ} {s₀ : State} (a : At p t xs zs u s₀) where
  pub passing_start : u < s₀.soonest → Passing p t xs zs u s₀ 0 s₀
  passing_start ahead = record {
    full = a.full;
    joined = λ k h. absurd (omega arith);
    others = λ k h. record { release = refl; due = refl; key = refl; need = refl; executed = refl };
    soonest = a.soonest;
    ahead = ahead;
    best = a.best;
    worst = refl;
    last = refl;
    left = refl;
    begun = refl;
    asked = a.asked;
  }

  module _ {i : ℕ} (h : i < t.count) {s : State} (q : Passing p t xs zs u s₀ i s) where
    pos : 0 < (row (live t) i).period
    pos = period_some t sound i h

    task : TaskAt p (row (live t) i) (state_at p t xs zs u) u i s
    task = task_moves p (row (live t) i) (state_at p t xs zs u) u i s₀ s (q.others i (omega arith)) (a.tasks i h)

    released_now : release_in s i ≡ tagged_of u i → released (row (live t) i) u ≡ true
    released_now e = released_until (row (live t) i) pos u ∙ eq-eqb (until (row (live t) i) u) 0 (omega (arith, task.release))

    pub released_later : release_in s i ≢ tagged_of u i → released (row (live t) i) u ≡ false
    released_later e = released_until (row (live t) i) pos u ∙ ne_eqb (until (row (live t) i) u) 0 (λ z. e (omega (arith, task.release)))

    -- no job of row i joins
    pub passing_by : released (row (live t) i) u ≡ false → Passing p t xs zs u s₀ (suc i) s
    passing_by r = record {
      full = q.full;
      joined = λ k l. eq_case k i
          (λ e. rw e (let j = task_stays p (row (live t) i) pos (state_at p t xs zs u) u i s (requests (system_in p t) (choices p t xs zs u)) task r in record {
            need = j.need;
            executed = j.executed;
            release = j.release;
            incomplete = j.incomplete;
            complete = j.complete;
          }))
          (λ e. q.joined k (omega arith));
      others = λ k l. q.others k (omega arith);
      soonest = q.soonest;
      ahead = q.ahead;
      best = q.best;
      worst = q.worst;
      last = q.last;
      left = q.left;
      begun = q.begun;
      asked = used_drop xs (as_run (system_in p t) xs zs u).requests s.asked (before (joins (system_in p t) u) i) false q.asked
          ∙ ap (λ (b : Bool). drop (before (joins (system_in p t) u) i + one b) (as_run (system_in p t) xs zs u).requests) (sym r);
    }

    -- its job joins: the one before is complete, for its deadline is past
    module _ (e : release_in s i ≡ tagged_of u i) (next : ℕ) where
      was_complete : complete (state_at p t xs zs u) i ≡ true
      was_complete = test (complete (state_at p t xs zs u) i) (λ c. c)
          (λ c. absurd (omega (arith, (task.incomplete c).0, task.release, e, q.soonest.low i h, q.ahead, (fine_in t sound i h).deadline_period)))

      -- its request is the next of the list
      ask : get_or xs s.asked (row (live t) i).wcet ≡ (choices p t xs zs u).ask i
      ask =
          let z : s.asked + 0 ≡ s.asked = omega arith in
          let g : before (joins (system_in p t) u) i + 0 ≡ before (joins (system_in p t) u) i = omega arith in
          let k = ap (λ l. get_or l 0 (row (live t) i).wcet) q.asked in
          rw (z, g) at (sym (get_or-drop s.asked xs 0 (row (live t) i).wcet) ∙ k
          ∙ get_or-drop (before (joins (system_in p t) u) i) (as_run (system_in p t) xs zs u).requests 0 (row (live t) i).wcet)

      new : Joined
      new = joined_of p (row (live t) i) i u (get_or xs s.asked (row (live t) i).wcet)

      after : State
      after = with_joined s i new (length xs) next

      in_release : i < length s.release
      in_release = omega (arith, q.full.release, count_top t sound)

      in_due : i < length s.due
      in_due = omega (arith, q.full.due, count_top t sound)

      in_key : i < length s.key
      in_key = omega (arith, q.full.key, count_top t sound)

      in_need : i < length s.need
      in_need = omega (arith, q.full.need, count_top t sound)

      in_executed : i < length s.executed
      in_executed = omega (arith, q.full.executed, count_top t sound)

      new_task : TaskAt p (row (live t) i) (now_in p t xs zs u) (suc u) i after
      unfolding new after
      new_task =
          let j = task_joins p (row (live t) i) pos (state_at p t xs zs u) u i after (requests (system_in p t) (choices p t xs zs u))
          (get_or xs s.asked (row (live t) i).wcet) (ap (λ x. min x (row (live t) i).wcet) (sym ask)) (released_now e)
          (ap (λ n. n.0) (get_or-set_same s.need i new.need nothing in_need))
          (ap (λ n. n.0) (get_or-set_same s.executed i nothing nothing in_executed))
          (get_or-set_same s.release i new.release never in_release)
          (get_or-set_same s.due i new.due never in_due)
          (get_or-set_same s.key i new.key never in_key) in
          record { need = j.need; executed = j.executed; release = j.release; incomplete = j.incomplete; complete = j.complete }

      -- the others are as they were
      apart : (k : ℕ) → k ≢ i → SameTask k s after
      unfolding after
      apart k g = record {
        release = get_or-set_other s.release i k new.release never g;
        due = get_or-set_other s.due i k new.due never g;
        key = get_or-set_other s.key i k new.key never g;
        need = ap (λ n. n.0) (get_or-set_other s.need i k new.need nothing g);
        executed = ap (λ n. n.0) (get_or-set_other s.executed i k nothing nothing g);
      }

      -- its deadline is ahead
      new_due : u < new.due
      unfolding new
      new_due = test (eqb (min (get_or xs s.asked (row (live t) i).wcet) (row (live t) i).wcet) 0)
          (λ z. rw z (omega (arith, q.ahead, q.soonest.top)))
          (λ z. rw z (let g = fine_in t sound i h in omega (arith, g.wcet_low, g.wcet_deadline)))

      passing_new : Passing p t xs zs u s₀ (suc i) after
      unfolding after
      passing_new = record {
        full = record {
          release = simp length-set q.full.release;
          due = simp length-set q.full.due;
          key = simp length-set q.full.key;
          need = simp length-set q.full.need;
          executed = simp length-set q.full.executed;
          worst = q.full.worst;
        };
        joined = λ k l. eq_case k i
            (λ g. rw g new_task)
            (λ g. task_moves p (row (live t) k) (now_in p t xs zs u) (suc u) k s after (apart k g) (q.joined k (omega arith)));
        others = λ k l.
            let m = apart k (λ g. omega arith) in
            let o = q.others k (omega arith) in
            record { release = m.release ∙ o.release; due = m.due ∙ o.due; key = m.key ∙ o.key; need = m.need ∙ o.need; executed = m.executed ∙ o.executed };
        soonest = least_put t.count s.due s.soonest i in_due q.soonest new.due h (task.complete was_complete).0;
        ahead = omega (arith, q.ahead, new_due);
        best = least_put t.count s.key s.best i in_key q.best new.key h (task.complete was_complete).1;
        worst = q.worst;
        last = q.last;
        left = q.left;
        begun = q.begun;
        asked = used_drop xs (as_run (system_in p t) xs zs u).requests s.asked (before (joins (system_in p t) u) i) true q.asked
            ∙ ap (λ (b : Bool). drop (before (joins (system_in p t) u) i + one b) (as_run (system_in p t) xs zs u).requests) (sym (released_now e));
      }

      pub passing_joins : (j : Joined) → j ≡ joined_of p (row (live t) i) i u (get_or xs s.asked (row (live t) i).wcet)
          → Passing p t xs zs u s₀ (suc i) (with_joined s i j (length xs) next)
      unfolding new after
      passing_joins j g = rw g passing_new
