-- The three ways in which a turn of the loop ends: nobody has the slots, or a task has them and goes on after them, or it completes its
-- job with them. In each the state in hand is moved as the rules' jump moves, so it stands for the run at the new time v.
use mathlib.Core.Path.{◌≡◌, refl, sym, ap, ◌∙◌}
use mathlib.Core.Logic.{◌⊎◌, inl, inr, ◌≢◌}
use mathlib.Core.Bool.{Bool, false, cond}
use mathlib.Core.List.{List}
use Prim.Native.Nat.{ℕ, suc, ◌+◌, ◌-◌, ◌/◌, ◌≤◌, ◌<◌, min, max}
use native.Mathlib.Omega.{arith}
use native.Mathlib.Numerals.{add-one}
use borrow.Author.Tests.{eq-eqb, ne_eqb, le-leb, lt-leb, leb-true, leb-false}
use lib.Dec.{leb}
use lib.ListN.{get_or, drop, length, set, length-set}
use lib.Seq.{get_or-set_same, get_or-set_other}
use Rattle.rules.specs.declared.Executed.{Executed}
use Rattle.rules.specs.declared.Loading.{Loading}
use Rattle.rules.specs.declared.Table.{Table}
use Rattle.rules.specs.Policies.{policy, row}
use Rattle.rules.specs.Slots as rules
use Rattle.rules.specs.Slots.{newest, complete, loading, lengths}
use Rattle.rules.specs.AsRun.{one, begins, as_run}
use Rattle.basics.specs.Cases.{eq_case, clash}
use Rattle.theory.specs.Counters.{newest_until}
use Rattle.theory.proofs.Rows.{frees}
use Rattle.theory.specs.Jump.{Busy, gained, jump}
use Rattle.theory.proofs.Jump.{newest_near}
use Rattle.theory.specs.Completions.{Seen}
use Rattle.slots.specs.Jobs.{never}
use Rattle.machine.specs.declared.state.State.{State}
use Rattle.machine.specs.Least.{Least}
use Rattle.machine.specs.Machine.{live, system_in, choices, nothing, release_in, due_in, need_in, executed_in, worst_in, At}
use Rattle.machine.proofs.SoundTables.{fine_in, periods, count_top}
use Rattle.machine.proofs.Minima.{stays_empty}
use Rattle.machine.proofs.Pass.{now_in, who_in, load_in, loadings_after}
use Rattle.machine.proofs.Joins.{Ready}
use Rattle.machine.proofs.Who.{release_time, begun_before, who_none}
use Rattle.machine.proofs.Leap.{Near, quiet_in, Moved, at_after, seen_on, seen_end}

-- A JUMP'S PARTS

gained_own : (w l d i : ℕ) → w ≡ suc i → gained w l d i ≡ d - l
gained_own w l d i e = rw (e, eq-eqb (suc i) (suc i) refl)

gained_other : (w l d k : ℕ) → w ≢ suc k → gained w l d k ≡ 0
gained_other w l d k e = rw (ne_eqb w (suc k) e)

last_own : (x : rules.State) (w l d i : ℕ) → w ≡ suc i → (jump x w l d).last ≡ cond (leb (x.need i) (x.executed i + (d - l))) 0 (suc i)
last_own x w l d i e = rw (e, eq-eqb (suc i) (suc i) refl)

last_idle : (x : rules.State) (w l d : ℕ) → w ≡ 0 → (jump x w l d).last ≡ 0
last_idle x w l d e = rw e refl

busy_own : (x : rules.State) (w l m i : ℕ) → w ≡ suc i → x.executed i + (m - l) < x.need i → Busy x w l m
busy_own x w l m i e h k g = let q : i ≡ k = omega arith in rw q at h

-- all that the job needs
served_all : (u v l n e : ℕ) → v ≡ u + l + (n - e) → e < n → e + (v - u - l) ≡ n
served_all u v l n e h k = omega arith

loaded_all : (u v l f : ℕ) → v ≡ u + l + f → 0 ≡ l - (v - u)
loaded_all u v l f h = omega arith

-- a response, from the time to the next release
response_is : (u v newest period release : ℕ) → u < v → v ≤ release → newest + period ≡ release → newest ≤ u → period ≤ 10000
    → v - newest ≡ period - min (release - v) 4294967295
response_is u v newest period release a b c d e = let m : min (release - v) 4294967295 ≡ release - v = omega arith in rw m (omega arith)

-- THE STATES

abbrev pub idle_state : State → State
idle_state s = record s { last = 0; left = record { 0 = 0 } }

abbrev pub goes_state : State → ℕ → Executed → Loading → ℕ → State
goes_state s i x y b = record s { executed = set s.executed i x; last = i + 1; left = y; begun = b }

abbrev pub ends_state : State → ℕ → ℕ → ℕ → ℕ → ℕ → State
ends_state s i worst soonest best b = record s {
  due = set s.due i never;
  key = set s.key i never;
  executed = set s.executed i (get_or s.need i nothing);
  worst = set s.worst i worst;
  soonest = soonest;
  best = best;
  last = 0;
  left = record { 0 = 0 };
  begun = b;
}

module _ {p : ℕ} {t : Table} {xs zs : List ℕ} {u : ℕ} {s₀ s : State} (r : Ready p t xs zs u s₀ s) {v : ℕ} (near : Near u v s) where
  abbrev who : ℕ
  who = who_in p t xs zs u

  abbrev load : ℕ
  load = load_in p t xs zs u

  -- a task that does not have the slots, or does not complete its job in them, has the longest response that it had
  stays : Busy (now_in p t xs zs u) who load (v - u - 1) → (k : ℕ) → k < t.count
      → (who ≡ suc k → (now_in p t xs zs u).executed k + (v - u - load) < (now_in p t xs zs u).need k)
      → (m : ℕ) → m ≡ worst_in s k → choices p t xs zs ≡ rules.stated (system_in p t) → Seen (system_in p t) k v m
  stays busy k h more m e c =
      let z : u + (v - u) ≡ v = omega (arith, near.after) in
      let b = seen_on (system_in p t) (frees (policy p) (live t)) (periods t r.sound) u (v - u) (omega (arith, near.after)) (quiet_in r near)
      (choices p t xs zs) c busy k (omega (arith, r.sound.count)) (worst_in s₀ k) (fine_in t r.sound k h).wcet_low more (r.at.seen c k h) in
      rw (e ∙ ap (λ l. get_or l k 0) r.passed.worst) (rw z at b)

  -- a task that does not have the slots
  module _ (busy : Busy (now_in p t xs zs u) who load (v - u - 1)) (k : ℕ) (h : k < t.count) (other : who ≢ suc k) (s' : State)
      (release : release_in s' k ≡ release_in s k) (due : due_in s' k ≡ due_in s k) (key : get_or s'.key k never ≡ get_or s.key k never)
      (need : need_in s' k ≡ need_in s k) (executed : executed_in s' k ≡ executed_in s k) (worst : worst_in s' k ≡ worst_in s k) where
    task_waits : Moved r near busy k s'
    task_waits =
        let j = r.passed.joined k h in
        let n : need_in s' k ≡ (now_in p t xs zs u).need k = need ∙ j.need in
        let e : executed_in s' k ≡ (now_in p t xs zs u).executed k = executed ∙ j.executed in
        record {
          need = n;
          executed = omega (arith, e, gained_other who load (v - u) k other);
          release = release;
          incomplete = λ c. (rw (n, e) at c, due, key);
          complete = λ c. rw (due, key) (j.complete (rw (n, e) at c));
          seen = stays busy k h (λ z. absurd (other z)) (worst_in s' k) worst;
        }

  -- NOBODY HAS THE SLOTS
  module _ (idle : s.best ≡ never) where
    pub nobody : who ≡ 0
    nobody = who_none r idle

    pub no_load : load ≡ 0
    no_load = ap (loading (lengths (system_in p t) (choices p t xs zs u)) (now_in p t xs zs u)) nobody

    pub idle_busy : Busy (now_in p t xs zs u) who load (v - u - 1)
    idle_busy k e = absurd (omega (arith, nobody, e))

    begins_nothing : begins (system_in p t) (now_in p t xs zs u) who ≡ false
    begins_nothing = ap (begins (system_in p t) (now_in p t xs zs u)) nobody

    pub idle_at : At p t xs zs v (idle_state s)
    idle_at = at_after r near idle_busy (record {
      full = record {
        release = r.passed.full.release;
        due = r.passed.full.due;
        key = r.passed.full.key;
        need = r.passed.full.need;
        executed = r.passed.full.executed;
        worst = r.passed.full.worst;
      };
      moved = λ k h. task_waits idle_busy k h (λ e. omega (arith, nobody, e)) (idle_state s) refl refl refl refl refl refl;
      rest = λ k h. let x = r.rest k h in record { release = x.release; due = x.due; key = x.key };
      next = r.next;
      soonest = r.passed.soonest;
      best = r.passed.best;
      ahead = near.soonest;
      last = sym (last_idle (now_in p t xs zs u) who load (v - u) nobody);
      left = omega (arith, no_load);
      asked = refl;
      begun = ap (λ b. drop b zs) r.passed.begun ∙ r.at.begun
          ∙ ap (λ (b : Bool). drop (one b) (as_run (system_in p t) xs zs u).loadings) (sym begins_nothing);
    })

  -- TASK i HAS THEM, with its loading to do
  module _ {i : ℕ} (below : i < t.count) (has : who ≡ suc i) (waits : complete (now_in p t xs zs u) i ≡ false)
      (b : ℕ) (begun : drop b zs ≡ loadings_after p t xs zs u) where
    free_some : executed_in s i < need_in s i
    free_some = omega (arith, leb-false ((now_in p t xs zs u).need i) ((now_in p t xs zs u).executed i) waits, (r.passed.joined i below).need, (r.passed.joined i below).executed)

    in_executed : i < length s.executed
    in_executed = omega (arith, r.passed.full.executed, below, count_top t r.sound)

    -- the slots end with its completion at the latest
    module _ (room : v ≤ u + load + (need_in s i - executed_in s i)) where
      pub task_busy : Busy (now_in p t xs zs u) who load (v - u - 1)
      task_busy = busy_own (now_in p t xs zs u) who load (v - u - 1) i has
          (omega (arith, room, free_some, near.after, (r.passed.joined i below).need, (r.passed.joined i below).executed))

      -- IT GOES ON after them
      module _ (more : v < u + load + (need_in s i - executed_in s i)) (x : Executed) (is : x.0 ≡ executed_in s i + (v - u - load)) (y : Loading) (left : y.0 ≡ load - (v - u)) where
        goes : State
        goes = goes_state s i x y b

        own_executed : executed_in goes i ≡ executed_in s i + (v - u - load)
        unfolding goes
        own_executed = ap (λ (n : Executed). n.0) (get_or-set_same s.executed i x nothing in_executed) ∙ is

        goes_less : (now_in p t xs zs u).executed i + (v - u - load) < (now_in p t xs zs u).need i
        goes_less = omega (arith, more, free_some, (r.passed.joined i below).need, (r.passed.joined i below).executed)

        goes_own : Moved r near task_busy i goes
        unfolding goes
        goes_own =
            let j = r.passed.joined i below in
            record {
              need = j.need;
              executed = omega (arith, own_executed, j.executed, gained_own who load (v - u) i has);
              release = refl;
              incomplete = λ c. (waits, refl, refl);
              complete = λ c. absurd (omega (arith, leb-true (need_in goes i) (executed_in goes i) c, own_executed, goes_less, j.need, j.executed));
              seen = stays task_busy i below (λ z. goes_less) (worst_in goes i) refl;
            }

        pub goes_at : At p t xs zs v (goes_state s i x y b)
        unfolding goes
        goes_at = at_after r near task_busy (record {
          full = record {
            release = r.passed.full.release;
            due = r.passed.full.due;
            key = r.passed.full.key;
            need = r.passed.full.need;
            executed = simp length-set r.passed.full.executed;
            worst = r.passed.full.worst;
          };
          moved = λ k h. eq_case k i
              (λ e. rw e goes_own)
              (λ e. task_waits task_busy k h (λ z. e (omega (arith, has, z))) goes refl refl refl refl
              (ap (λ (n : Executed). n.0) (get_or-set_other s.executed i k x nothing e)) refl);
          rest = λ k h. let o = r.rest k h in record { release = o.release; due = o.due; key = o.key };
          next = r.next;
          soonest = r.passed.soonest;
          best = r.passed.best;
          ahead = near.soonest;
          last = add-one i ∙ sym (last_own (now_in p t xs zs u) who load (v - u) i has ∙ ap (λ (c : Bool). cond c 0 (suc i)) (lt-leb _ _ goes_less));
          left = left;
          asked = refl;
          begun = begun;
        })

      -- ITS JOB IS COMPLETE with them
      module _ (all : v ≡ u + load + (need_in s i - executed_in s i))
          {worst : ℕ} (took : worst ≡ max (worst_in s i) ((row (live t) i).period - min (release_in s i / 16 - v) 4294967295))
          {soonest : ℕ} (soon : Least t.count (set s.due i never) soonest) {best : ℕ} (first : Least t.count (set s.key i never) best) where
        ends : State
        ends = ends_state s i worst soonest best b

        in_due : i < length s.due
        in_due = omega (arith, r.passed.full.due, below, count_top t r.sound)

        in_key : i < length s.key
        in_key = omega (arith, r.passed.full.key, below, count_top t r.sound)

        in_rows : i < length (live t)
        in_rows = omega (arith, r.sound.count, below)

        release_is : release_in s i / 16 ≡ newest (row (live t) i) u + (row (live t) i).period
        release_is =
            let pos = periods t r.sound i in_rows in
            release_time r below ∙ sym (newest_until (row (live t) i) pos u (begun_before r below waits))

        in_time : v ≤ release_in s i / 16
        in_time = not_after v s.next (release_in s i) near.next (r.next.low i below)
          where
            not_after : (x n m : ℕ) → x ≤ n / 16 → n ≤ m → x ≤ m / 16
            not_after x n m b c = omega arith

        in_worst : i < length s.worst
        in_worst = omega (arith, r.passed.full.worst, below, count_top t r.sound)

        own_all : (now_in p t xs zs u).executed i + (v - u - load) ≡ (now_in p t xs zs u).need i
        own_all =
            let j = r.passed.joined i below in
            rw (← j.need, ← j.executed) (served_all u v load (need_in s i) (executed_in s i) all free_some)

        -- the response of the job
        response : v - newest (row (live t) i) u ≡ (row (live t) i).period - min (release_in s i / 16 - v) 4294967295
        response =
            let g = fine_in t r.sound i below in
            let pos : 0 < (row (live t) i).period = periods t r.sound i in_rows in
            let off = begun_before r below waits in
            response_is u v (newest (row (live t) i) u) (row (live t) i).period (release_in s i / 16) near.after in_time
            (sym release_is) (newest_near (row (live t) i) pos u off).0 g.period_high

        ends_seen : choices p t xs zs ≡ rules.stated (system_in p t) → Seen (system_in p t) i v worst
        ends_seen c =
            let z : u + (v - u) ≡ v = omega (arith, near.after) in
            let e = seen_end (system_in p t) (frees (policy p) (live t)) (periods t r.sound) u (v - u) (omega (arith, near.after)) (quiet_in r near)
            (choices p t xs zs) c task_busy i in_rows (worst_in s₀ i) has (omega (arith, own_all)) (r.at.seen c i below) in
            let m = took ∙ ap (λ l. max (get_or l i 0) ((row (live t) i).period - min (release_in s i / 16 - v) 4294967295)) r.passed.worst ∙ ap (max (worst_in s₀ i)) (sym response) in
            rw m (rw z at e)

        ends_own : Moved r near task_busy i ends
        unfolding ends
        ends_own =
            let j = r.passed.joined i below in
            let e : executed_in ends i ≡ need_in s i = ap (λ (n : Executed). n.0) (get_or-set_same s.executed i (get_or s.need i nothing) nothing in_executed) in
            record {
              need = j.need;
              executed = e ∙ j.need ∙ sym own_all ∙ ap (λ g. (now_in p t xs zs u).executed i + g) (sym (gained_own who load (v - u) i has));
              release = refl;
              incomplete = λ c. clash (le-leb (need_in s i) (executed_in ends i) (omega (arith, e))) c;
              complete = λ c. (get_or-set_same s.due i never never in_due, get_or-set_same s.key i never never in_key);
              seen = λ c. rw (get_or-set_same s.worst i worst 0 in_worst) (ends_seen c);
            }

        still_ahead : v ≤ soonest
        still_ahead = go soon.hit
          where
            go : (soonest ≡ never) ⊎ ((k : ℕ) × (k < t.count) × (get_or (set s.due i never) k never ≡ soonest)) → v ≤ soonest
            go (inl e) = omega (arith, e, near.soonest, r.passed.soonest.top)
            go (inr x) = eq_case x.0 i
                (λ g. omega (arith, rw g at x.2, get_or-set_same s.due i never never in_due, near.soonest, r.passed.soonest.top))
                (λ g. omega (arith, x.2, get_or-set_other s.due i x.0 never never g, near.soonest, r.passed.soonest.low x.0 x.1))

        pub ends_at : At p t xs zs v (ends_state s i worst soonest best b)
        unfolding ends
        ends_at = at_after r near task_busy (record {
          full = record {
            release = r.passed.full.release;
            due = simp length-set r.passed.full.due;
            key = simp length-set r.passed.full.key;
            need = r.passed.full.need;
            executed = simp length-set r.passed.full.executed;
            worst = simp length-set r.passed.full.worst;
          };
          moved = λ k h. eq_case k i
              (λ e. rw e ends_own)
              (λ e. task_waits task_busy k h (λ z. e (omega (arith, has, z))) ends refl
              (get_or-set_other s.due i k never never e) (get_or-set_other s.key i k never never e) refl
              (ap (λ (n : Executed). n.0) (get_or-set_other s.executed i k (get_or s.need i nothing) nothing e))
              (get_or-set_other s.worst i k worst 0 e));
          rest = λ k h.
              let o = r.rest k h in
              record { release = o.release; due = stays_empty s.due i k in_due o.due; key = stays_empty s.key i k in_key o.key };
          next = r.next;
          soonest = soon;
          best = first;
          ahead = still_ahead;
          last = sym (last_own (now_in p t xs zs u) who load (v - u) i has ∙ ap (λ (c : Bool). cond c 0 (suc i)) (le-leb ((now_in p t xs zs u).need i) ((now_in p t xs zs u).executed i + (v - u - load)) (omega (arith, own_all))));
          left = loaded_all u v load (need_in s i - executed_in s i) all;
          asked = refl;
          begun = begun;
        })
