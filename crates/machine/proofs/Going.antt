-- The laws of a turn of the loop: each way through it leads from one head on to the next (`Onward`), or to the end of the run (`Ran`). The
-- proof of `machine::run` cites each once.
use mathlib.Core.Path.{◌≡◌, refl, sym, ap, ◌∙◌}
use mathlib.Core.Logic.{◌⊎◌, ◌≢◌}
use mathlib.Core.Bool.{Bool, true, false, cond}
use mathlib.Core.List.{List}
use Rattle.std.proofs.Common.{Option, None, Some, IsSome}
use Prim.Native.Nat.{ℕ, suc, ◌+◌, ◌-◌, ◌*◌, ◌/◌, ◌%◌, ◌≤◌, ◌<◌, min, max}
use native.Mathlib.Omega.{arith}
use native.Mathlib.Numerals.{add-one}
use borrow.Author.Tests.{eq-eqb, ne_eqb, lt-ltb, leb-false}
use lib.Dec.{eqb}
use lib.ListN.{get_or, length, set, take, length-set}
use Rattle.rules.specs.declared.Row.{Row}
use Rattle.rules.specs.declared.Executed.{Executed}
use Rattle.rules.specs.declared.Loading.{Loading}
use Rattle.rules.specs.declared.Table.{Table}
use Rattle.rules.specs.Policies.{row}
use Rattle.rules.specs.Slots.{complete}
use Rattle.rules.specs.Table.{no_row}
use Rattle.basics.specs.Cases.{clash, eq_case, le_case}
use Rattle.basics.specs.Lists.{any_default}
use Rattle.theory.specs.Counters.{until, counts}
use Rattle.slots.specs.Jobs.{never, continues_of, worked_of}
use Rattle.machine.specs.declared.Why.TheVariants.{Missed, Repeats, Ended}
use Rattle.machine.specs.declared.state.State.{State}
use Rattle.machine.specs.declared.join.Joined.{Joined}
use Rattle.machine.specs.declared.turn.ToLoad.{ToLoad}
use Rattle.machine.specs.Least.{Places, LeastOf}
use Rattle.machine.specs.Turns.{joined_of, load_of}
use Rattle.machine.specs.Paint.{Painted, stretch_id, stretch_kind}
use Rattle.machine.specs.Machine.{live, Sound, miss_at, nothing, release_in, need_in, executed_in, worst_in, At, FirstAt, Again, Ran, PaintedRun}
use Rattle.machine.proofs.SoundTables.{row_in, fine_in, period_some, count_top, hyper_some}
use Rattle.machine.proofs.Minima.{stays_empty, least_part, least_drop}
use Rattle.machine.proofs.Painted.{painted_none}
use Rattle.machine.proofs.Pass.{now_in, who_in, load_in, with_joined}
use Rattle.machine.proofs.Joins.{Ready, joining_start, row_below, joining_turn, joining_less, ready}
use Rattle.machine.proofs.Who.{begun_before, who_first}
use Rattle.machine.proofs.Loads.{loads_in, loadings_in}
use Rattle.machine.proofs.Leap.{Near, release_on}
use Rattle.machine.proofs.Arms.{idle_state, goes_state, ends_state, nobody, no_load, idle_busy, idle_at, task_busy, goes_at, ends_at}
use Rattle.machine.proofs.Misses.{missed_below, missed_is, some_due, ahead_of, none_missed}
use Rattle.machine.proofs.Bytes.{painted_on}
use Rattle.machine.proofs.Watch.{keep, watched_start, mark_later, mark_now, watched_on, none_equal, repeats_now, watched_next}
use Rattle.machine.proofs.Places.{Head, head_of, at_time, past_mark, first_of, row_of, Going, Turning, Joins, Until, Serving, Onward, OneMore}

-- ARITHMETIC, apart from all else that is known in a turn

at_most : (n : ℕ) → n ≤ n
at_most n = omega arith

back_on : (u v : ℕ) → u < v → u + (v - u) ≡ v
back_on u v h = omega arith

-- the least of four
least_of : (a b c d x y n : ℕ) → x ≡ min a b → y ≡ min c d → n ≡ min x y → (n ≤ a) × (n ≤ b) × (n ≤ c) × (n ≤ d)
least_of a b c d x y n e f g = (omega arith, omega arith, omega arith, omega arith)

before_all : (u a b c d x y n : ℕ) → x ≡ min a b → y ≡ min c d → n ≡ min x y → u < a → u < b → u < c → u < d → u < n
before_all u a b c d x y n e f g h i j k = omega arith

neither : {a b : ℕ} → a ≤ b → b ≤ a → a ≡ b
neither h k = omega arith

within : {a b c : ℕ} → a ≤ b → b ≤ c → a ≤ c
within h k = omega arith

-- the slots that are counted, where they end with `stop` and where they end with the job
span_stop : (u stop full d : ℕ) → d ≡ min (min stop full - u) 4294967295 → stop < full → stop - u ≤ 4294967295 → d ≡ stop - u
span_stop u stop full d e h k = let m : min stop full ≡ stop = omega arith in let n = rw m at e in omega arith

span_full : (u stop full d : ℕ) → d ≡ min (min stop full - u) 4294967295 → full ≤ stop → stop - u ≤ 4294967295 → d ≡ full - u
span_full u stop full d e h k = let m : min stop full ≡ full = omega arith in let n = rw m at e in omega arith

-- before the job is complete some of its execution is left
some_left : (u stop l f : ℕ) → stop < u + l + f → 0 < f → stop - u - l < f
some_left u stop l f h k = omega arith

-- the measure falls as time goes on, and where a mark is compared
bit : (b : Bool) → cond b 1 0 ≤ 1
bit true = omega arith
bit false = omega arith

measure_on : (end u v mark : ℕ) → u < v → v ≤ end → 2 * (end - v) + cond (eqb mark v) 1 0 < 2 * (end - u) + cond (eqb mark u) 1 0
measure_on end u v mark h k = omega (arith, bit (eqb mark v))

measure_marks : (end u mark h : ℕ) → mark ≡ u → 0 < h → 2 * (end - u) + cond (eqb (u + h) u) 1 0 < 2 * (end - u) + cond (eqb mark u) 1 0
measure_marks end u mark h e some = rw (eq-eqb mark u e, ne_eqb (u + h) u (λ z. omega arith)) (omega arith)

-- THE FIRST HEAD

pub going_start : {p : ℕ} {t : Table} {xs zs : List ℕ} {first end : ℕ} (before : List ℕ) {s : State}
    → Sound t → (first ≡ never) ⊎ (first ≡ t.omax) → end ≤ 281474976710656 → At p t xs zs 0 s
    → Going (head_of p t xs zs first end before before s None first 0)
going_start before sound kind high a = record {
  sound = sound;
  kind = kind;
  high = high;
  most = omega arith;
  at = a;
  watched = watched_start;
  painted = painted_none _ _ before (omega arith);
}

module _ {h : Head} where
  open h use {policy as p, table as t, requests as xs, loadings as zs, first, end, before, slots, state as s, was, mark, time as u}

  module _ (g : Going h) where
    pub low : u ≤ 281474976710656
    low = within g.most g.high

    below_never : u < never
    below_never = omega (arith, low)

    -- A MISS
    pub row_due : s.soonest ≡ u → (o : Option ℕ) → FirstAt (take t.count s.due) u o → IsSome o
    row_due e (Some i) f = refl
    row_due e None f = absurd (some_due g.sound below_never g.at e f)

    pub ran_missed : {row : ℕ} → FirstAt (take t.count s.due) u (Some row)
        → Ran p t xs zs first end (record { worst = s.worst; time = u; why = Missed row })
    ran_missed f = record {
      most = g.most;
      task = missed_below g.sound below_never g.at f;
      clean = g.at.clean;
      miss = sym (missed_is g.sound below_never g.at f);
      seen = λ z. absurd (omega (arith, z));
      repeats = λ z. clash z refl;
      alone = λ z. refl;
      through = λ z none. absurd (omega (arith, none));
      apart = λ z none. absurd (omega (arith, none));
    }

    module _ (on_time : s.soonest ≢ u) where
      clear : miss_at p t xs zs u ≡ 0
      clear = none_missed g.sound below_never g.at on_time

      -- A MARK with the state of the one before, or with another
      module _ (now : mark ≡ u) where
        marked : first ≡ t.omax
        marked = mark_now g.watched below_never g.kind now

        pub ran_repeats : Again t.count (keep s) was → Ran p t xs zs first end (record { worst = s.worst; time = u; why = Repeats })
        ran_repeats like = record {
          most = g.most;
          task = omega arith;
          clean = g.at.clean;
          miss = sym clear;
          seen = λ z. g.at.seen;
          repeats = λ z. repeats_now g.watched below_never g.sound now marked g.at like;
          alone = λ f. absurd (omega (arith, g.watched.unmarked f, now, below_never));
          through = λ z. clash refl z;
          apart = λ z. clash refl z;
        }

        pub onward_marked : (Again t.count (keep s) was → ⊥) → Onward h (past_mark h)
        onward_marked differ = record {
          less = measure_marks end u mark t.hyper now (hyper_some t g.sound);
          going = record {
            sound = g.sound;
            kind = g.kind;
            high = g.high;
            most = g.most;
            at = g.at;
            watched = watched_next g.watched below_never g.sound now marked g.at differ;
            painted = g.painted;
          };
        }

      -- THE END
      pub ran_through : mark ≢ u → u ≡ end → Ran p t xs zs first end (record { worst = s.worst; time = u; why = Ended })
      ran_through later e = record {
        most = g.most;
        task = omega arith;
        clean = g.at.clean;
        miss = sym clear;
        seen = λ z. g.at.seen;
        repeats = λ z. clash z refl;
        alone = λ f. refl;
        through = λ z n. e;
        apart = λ z n f i h. none_equal g.watched below_never later f i (omega (arith, h, e));
      }

  -- A TURN: JOBS JOIN
  module _ (n : Turning h) where
    abbrev g : Going h
    g = n.going

    pub joins_start : Joins h s
    joins_start = joining_start g.sound (low g) g.at (ahead_of g.sound (below_never g) g.at n.on_time)

    module _ {s₁ : State} (so_far : Joins h s₁) where
      -- one more
      pub one_more : s₁.next / 16 ≡ u → {ask : ℕ} → ask ≡ get_or xs s₁.asked (get_or t.rows (s₁.next % 16) no_row).wcet
          → {j : Joined} → j ≡ joined_of p (get_or t.rows (s₁.next % 16) no_row) (s₁.next % 16) u ask
          → (places : ℕ) → Places t.count places → {next : ℕ} → LeastOf (take places (set s₁.release (s₁.next % 16) j.release)) next
          → OneMore h s₁ (with_joined s₁ (s₁.next % 16) j (length xs) next)
      one_more now ask-is {j} j-is places enough least =
          let new : j ≡ joined_of p (row (live t) (s₁.next % 16)) (s₁.next % 16) u (get_or xs s₁.asked (row (live t) (s₁.next % 16)).wcet) =
          rw (ask-is, ← row_in t g.sound (s₁.next % 16) (row_below g.sound (low g) g.at so_far now)) at j-is in
          record {
            less = joining_less g.sound (low g) g.at so_far now new places enough least;
            joins = joining_turn g.sound (low g) g.at so_far now new places enough least;
          }

      -- no more
      pub until_stop : s₁.next / 16 ≢ u → {x y stop : ℕ} → x ≡ min end mark → y ≡ min (s₁.next / 16) s₁.soonest → stop ≡ min x y → Until h s₁ stop
      until_stop none {x} {y} {stop} x-is y-is stop_is =
          let r = ready g.sound (low g) g.at so_far (clear g n.on_time) none in
          let bounds = least_of end mark (s₁.next / 16) s₁.soonest x y stop x-is y-is stop_is in
          record {
            going = g;
            ready = r;
            near = record {
              after = before_all u end mark (s₁.next / 16) s₁.soonest x y stop x-is y-is stop_is not_end
                  (mark_later g.watched (below_never g) g.kind n.later) r.later r.passed.ahead;
              next = bounds.2;
              soonest = bounds.3;
            };
            in_end = bounds.0;
            in_mark = bounds.1;
          }
        where
          not_end : u < end
          not_end = le_case end u (λ h. absurd (n.more (neither g.most h))) (λ h. h)

  -- THE SLOTS UP TO `stop`
  module _ {s₁ : State} {stop : ℕ} (f : Until h s₁ stop) where
    -- up to a time v not after it
    onward : {v : ℕ} → Near u v s₁ → v ≤ stop → {s' : State} → At p t xs zs v s' → {slots' : List ℕ} → PaintedRun p t xs zs 0 v before slots'
        → Onward h (at_time h slots' s' v)
    onward {v} near fits a b = record {
      less = measure_on end u v mark near.after (within fits f.in_end);
      going = record {
        sound = f.going.sound;
        kind = f.going.kind;
        high = f.going.high;
        most = within fits f.in_end;
        at = a;
        watched = watched_on f.going.watched (below_never f.going) v (within fits f.in_mark);
        painted = b;
      };
    }

    -- NOBODY HAS THEM
    pub onward_idle : s₁.best ≡ never → {slots' : List ℕ} → Painted (stretch_id 0 0) (stretch_kind u 0 0) u (u + (stop - u)) slots slots'
        → Onward h (at_time h slots' (idle_state s₁) stop)
    onward_idle idle b =
        let r = f.ready in
        let near = f.near in
        onward near (at_most stop) (idle_at r near idle)
        (painted_on r near (idle_busy r near idle) (sym (nobody r near idle)) (sym (no_load r near idle)) 0 (λ i e. absurd (apart i e))
        (stop - u) (back_on u stop near.after) f.going.painted b)
      where
        apart : (i : ℕ) → ◌≢◌ {A = ℕ} 0 (suc i)
        apart i e = omega arith

    -- THE FIRST HAS THEM
    module _ (some : s₁.best ≢ never) where
      first_has : (first_of s₁ < t.count) × (who_in p t xs zs u ≡ suc (first_of s₁)) × (complete (now_in p t xs zs u) (first_of s₁) ≡ false)
      first_has = who_first f.ready some

      -- what the code reads is what the state says
      pub serving : {again : Bool} → again ≡ continues_of s₁.last (first_of s₁ + 1) (get_or s₁.release (first_of s₁) 0 / 16) (u + (row_of t s₁).period)
          → {l : ToLoad} → l ≡ load_of (row_of t s₁) (get_or s₁.executed (first_of s₁) nothing) again s₁.left s₁.begun zs
          → {full : ℕ} → full ≡ u + l.slots.0 + (need_in s₁ (first_of s₁) - executed_in s₁ (first_of s₁))
          → {ends d : ℕ} → ends ≡ min stop full → d ≡ min (ends - u) 4294967295
          → {slots' : List ℕ} → Painted (stretch_id (first_of s₁ + 1) (row_of t s₁).id) (stretch_kind u (first_of s₁ + 1) l.slots.0) u (u + d) slots slots'
          → Serving h s₁ stop l full d slots'
      serving {again} on load fills ends_is d-is b =
          let r = f.ready in
          let its-row = sym (row_in t r.sound (first_of s₁) first_has.0) in
          let in_release : first_of s₁ < length s₁.release = omega (arith, r.passed.full.release, first_has.0, count_top t r.sound) in
          let its-release = any_default s₁.release (first_of s₁) 0 never in_release in
          let on-is : again ≡ continues_of s₁.last (suc (first_of s₁)) (release_in s₁ (first_of s₁) / 16) (u + (row (live t) (first_of s₁)).period) =
          rw (add-one (first_of s₁), its-release, its-row) at on in
          record {
            until = f;
            below = first_has.0;
            row_is = its-row;
            release_is = its-release;
            has = first_has.1;
            waits = first_has.2;
            to_load = loads_in r first_has.0 first_has.1 on-is (rw its-row at load);
            loadings_left = loadings_in r first_has.0 first_has.1 on-is (rw its-row at load);
            fills = fills;
            span = rw ends_is at d-is;
            bytes = b;
          }

  module _ {s₁ : State} {stop : ℕ} {l : ToLoad} {full d : ℕ} {slots' : List ℕ} (c : Serving h s₁ stop l full d slots') where
    abbrev i : ℕ
    i = first_of s₁

    abbrev r : Ready p t xs zs u s s₁
    r = c.until.ready

    task_low : i < 16
    task_low = omega (arith, c.below, count_top t r.sound)

    -- not further than 32 bits count
    in_span : stop - u ≤ 4294967295
    in_span = near_release u stop (until (row (live t) i) (suc u)) (row (live t) i).period (release_on r c.until.near i c.below)
        ((counts (row (live t) i) (period_some t r.sound i c.below) (suc u)).soon (later (begun_before r c.below c.waits)))
        (fine_in t r.sound i c.below).period_high
      where
        near_release : (u v q period : ℕ) → v ≤ suc u + q → q < period → period ≤ 10000 → v - u ≤ 4294967295
        near_release u v q period a b c = omega arith

        later : {a b : ℕ} → a ≤ b → a < suc b
        later h = omega arith

    free : 0 < need_in s₁ i - executed_in s₁ i
    free =
        let j = r.passed.joined i c.below in
        left_over (need_in s₁ i) (executed_in s₁ i)
        (rw (← j.need, ← j.executed) at (leb-false ((now_in p t xs zs u).need i) ((now_in p t xs zs u).executed i) c.waits))
      where
        left_over : (n e : ℕ) → e < n → 0 < n - e
        left_over n e h = omega arith

    -- the loading of the code is the run's
    full_is : full ≡ u + load_in p t xs zs u + (need_in s₁ i - executed_in s₁ i)
    full_is = c.fills ∙ ap (λ x. u + x + (need_in s₁ i - executed_in s₁ i)) c.to_load

    -- the slots up to v are its own
    module _ {v : ℕ} (near : Near u v s₁) (room : v ≤ u + load_in p t xs zs u + (need_in s₁ i - executed_in s₁ i)) (counted : d ≡ v - u) where
      painted_up : PaintedRun p t xs zs 0 v before slots'
      painted_up = painted_on r near (task_busy r near c.below c.has c.waits l.begun c.loadings_left room)
          (add-one i ∙ sym c.has) c.to_load (row_of t s₁).id its_id
          d (ap (λ n. u + n) counted ∙ back_on u v near.after) c.until.going.painted c.bytes
        where
          same_place : (a b : ℕ) → a + 1 ≡ suc b → a ≡ b
          same_place a b q = omega arith

          its_id : (j : ℕ) → i + 1 ≡ suc j → (j < t.count) × ((row_of t s₁).id ≡ (row (live t) j).id)
          its_id j e = let k : i ≡ j = same_place i j e in rw (← k) (c.below, ap (λ (x : Row). x.id) c.row_is)

    -- IT GOES ON after them
    pub onward_goes : stop < full → {e : Executed} → e ≡ worked_of (get_or s₁.need i nothing) (get_or s₁.executed i nothing) (d - l.slots.0)
        → (o : Loading) → o.0 ≡ l.slots.0 - d → Onward h (at_time h slots' (goes_state s₁ i e o l.begun) stop)
    onward_goes less {e} e-is o o_is =
        let near = c.until.near in
        let counted = span_stop u stop full d c.span less in_span in
        let less-is : stop < u + load_in p t xs zs u + (need_in s₁ i - executed_in s₁ i) = rw full_is at less in
        let room = weaker less-is in
        let more_left = some_left u stop l.slots.0 (need_in s₁ i - executed_in s₁ i) (rw c.fills at less) free in
        let e-count : e.0 ≡ executed_in s₁ i + (stop - u - load_in p t xs zs u) =
        ap (λ (n : Executed). n.0) (rw (counted, lt-ltb (stop - u - l.slots.0) (need_in s₁ i - executed_in s₁ i) more_left) at e-is)
        ∙ ap (λ n. executed_in s₁ i + (stop - u - n)) c.to_load in
        onward c.until near (at_most stop)
        (goes_at r near c.below c.has c.waits l.begun c.loadings_left room less-is e e-count o
        (o_is ∙ ap (λ n. l.slots.0 - n) counted ∙ ap (λ n. n - (stop - u)) c.to_load))
        (painted_up near room counted)
      where
        weaker : {m n : ℕ} → m < n → m ≤ n
        weaker h = omega arith

    -- ITS JOB IS COMPLETE with them
    module _ (fits : full ≤ stop) where
      near_full : Near u full s₁
      near_full = record {
        after = rw c.fills (beyond u l.slots.0 (need_in s₁ i - executed_in s₁ i) free);
        next = within fits c.until.near.next;
        soonest = within fits c.until.near.soonest;
      }
        where
          beyond : (a c e : ℕ) → 0 < e → a < a + c + e
          beyond a c e h = omega arith

      room_full : full ≤ u + load_in p t xs zs u + (need_in s₁ i - executed_in s₁ i)
      room_full = rw (← full_is) (at_most full)

      in_due : i < length s₁.due
      in_due = rw r.passed.full.due task_low

      in_key : i < length s₁.key
      in_key = rw r.passed.full.key task_low

      read_due : get_or s₁.due i 0 ≡ get_or s₁.due i never
      read_due = any_default s₁.due i 0 never in_due

      pub onward_ends : {rest took worst : ℕ} → rest ≡ min (get_or s₁.release i 0 / 16 - full) 4294967295
          → took ≡ (row_of t s₁).period - rest → worst ≡ max (worst_in s₁ i) took
          → (places : ℕ) → Places t.count places
          → {soonest : ℕ} → (get_or s₁.due i 0 ≡ s₁.soonest → LeastOf (take places (set s₁.due i never)) soonest)
          × (get_or s₁.due i 0 ≢ s₁.soonest → soonest ≡ s₁.soonest)
          → {best : ℕ} → LeastOf (take places (set s₁.key i never)) best
          → Onward h (at_time h slots' (ends_state s₁ i worst soonest best l.begun) full)
      onward_ends {worst = worst} rest_is took-is worst_is places enough {soonest} soon {best} next-best =
          let response : worst ≡ max (worst_in s₁ i) ((row (live t) i).period - min (release_in s₁ i / 16 - full) 4294967295) =
          rw (took-is, rest_is, c.release_is, c.row_is) at worst_is in
          let soonest-is = eq_case (get_or s₁.due i never) s₁.soonest
          (λ e. least_part t.count places (set s₁.due i never) soonest enough (length-set s₁.due i never ∙ r.passed.full.due)
          (λ k h. stays_empty s₁.due i k in_due (r.rest k h).due) (soon.0 (read_due ∙ e)))
          (λ e. rw (soon.1 (λ z. e (sym read_due ∙ z))) (least_drop t.count s₁.due s₁.soonest i in_due r.passed.soonest e)) in
          let best-is = least_part t.count places (set s₁.key i never) best enough (length-set s₁.key i never ∙ r.passed.full.key)
          (λ k h. stays_empty s₁.key i k in_key (r.rest k h).key) next-best in
          onward c.until near_full fits
          (ends_at r near_full c.below c.has c.waits l.begun c.loadings_left room_full full_is response soonest-is best-is)
          (painted_up near_full room_full (span_full u stop full d c.span fits in_span))
