-- The loop over events. Each way through a turn is a law of `Going` and is cited once, for both goals of it: the measure falls, and the
-- invariant holds again.
use Rattle.std.proofs.Common.{◌≡◌, ◌≢◌, ◌∙◌, ap, List, ℕ, ◌+◌, ◌-◌, ◌*◌, ◌/◌, ◌≤◌, ◌<◌, arith}
use Rattle.slots.specs.Jobs.{worked_of}
use Rattle.machine.specs.declared.state.State.{State}
use Rattle.machine.proofs.Places.{Head, Going, Turning, Until, Serving, Onward, OneMore}
use Rattle.machine.proofs.Begin.{begun_at}
use Rattle.machine.proofs.Going.{going_start, row_due, ran_missed, ran_repeats, onward_marked, ran_through, joins_start, one_more, until_stop, onward_idle, serving, onward_goes, onward_ends}
use Rattle.machine.proofs.run.Goals as goal
use Rattle.machine.proofs.run.Goals.{After-min-stop, After-stretch-in-loop-s, After-least, After-saturating_sub-then-stop-full, After-least-in-loop-s}

-- ARITHMETIC

measure_joins : (u next n : ℕ) → next / 16 ≡ u → next < n → (u + 1) * 16 - n < (u + 1) * 16 - next
measure_joins u next n e h = omega arith

less_most : {a b : ℕ} → a < b → a ≤ b
less_most h = omega arith

-- WHAT IS KNOWN on the way, said over the step up to which goals go together. `abbrev` where a head, a state or bytes are found from the law

-- nothing is missed, no mark and no end is now
turning : {h : Head} → Going h → h.state.soonest ≢ h.time → h.mark ≢ h.time → h.time ≢ h.end → Turning h
turning going on_time later more = record { going = going; on_time = on_time; later = later; more = more }

-- all have joined, and nothing else happens before `stop`
abbrev until : (c : After-min-stop) → (h : Head) × Until h c.loop-s-2.s c.min-stop.result
until c = (
  _,
  until_stop (turning c.loop-s.invariant c.if-s-time.false c.if-mark-time.false c.if-time-end.false) c.loop-s-2.invariant c.loop-s-2-test.false
      c.min-in-loop-s.ensures c.min-in-loop-s-3.ensures c.min-stop.ensures,
)

-- the first has the slots, and they are painted
abbrev serves : (c : After-stretch-in-loop-s)
    → (h : Head) × (after : List ℕ)
    × Serving h c.loop-s-2.s c.min-stop.result c.load-l.result (c.loop-s.time + c.load-l.result.slots.0 + c.saturating_sub-rest.result) c.span-d.result after
serves c = (
  _,
  _,
  serving
      (until_stop (turning c.loop-s.invariant c.if-s-time.false c.if-mark-time.false c.if-time-end.false) c.loop-s-2.invariant c.loop-s-2-test.false
      c.min-in-loop-s.ensures c.min-in-loop-s-3.ensures c.min-stop.ensures)
      c.if-s.false c.continues-again.ensures c.load-l.ensures
      (ap (λ n. c.loop-s.time + c.load-l.result.slots.0 + n) c.saturating_sub-rest.ensures) c.min-in-loop-s-4.ensures c.span-d.ensures
      c.stretch-in-loop-s.ensures,
)

-- a way through a turn, with what both of its goals ask
abbrev Way : Type 0
Way = (from : Head) × (to : Head) × Onward from to

-- THE FIRST HEAD

pub loop-s-init : goal.loop-s-init
loop-s-init c =
    going_start _ c.requires.sound c.requires.first_mark c.requires.end_bound
    (begun_at c.args.t.now c.requires.sound _ c.begin-s.ensures c.args.policy c.args.requests.now c.args.loadings.now)

-- THE ENDS OF THE RUN

pub unwrap-row-requires : goal.unwrap-row-requires
unwrap-row-requires c = row_due c.loop-s.invariant c.if-s-time.true _ c.overdue.ensures

pub returns-then-s-time-clause-ran : goal.returns-then-s-time-clause-ran
returns-then-s-time-clause-ran c = ran_missed c.loop-s.invariant (rw c.unwrap-row.ensures at c.overdue.ensures)

pub returns-then-same-clause-ran : goal.returns-then-same-clause-ran
returns-then-same-clause-ran c =
    ran_repeats c.loop-s.invariant c.if-s-time.false c.if-mark-time.true (c.same.ensures.alike c.if-same.true)

pub returns-then-time-end-clause-ran : goal.returns-then-time-end-clause-ran
returns-then-time-end-clause-ran c = ran_through c.loop-s.invariant c.if-s-time.false c.if-mark-time.false c.if-time-end.true

-- A MARK

pub loop-s-preserved-then-mark-time : goal.loop-s-preserved-then-mark-time
loop-s-preserved-then-mark-time c =
    (onward_marked c.loop-s.invariant c.if-s-time.false c.if-mark-time.true (c.same.ensures.unlike c.if-same.false)).going

-- JOBS JOIN

pub loop-s-2-init : goal.loop-s-2-init
loop-s-2-init c = joins_start (turning c.loop-s.invariant c.if-s-time.false c.if-mark-time.false c.if-time-end.false)

abbrev joins : (c : After-least) → (head : Head) × (from : State) × (to : State) × OneMore head from to
joins c = (
  _,
  _,
  _,
  one_more (turning c.loop-s.invariant c.if-s-time.false c.if-mark-time.false c.if-time-end.false) c.loop-s-2.invariant c.loop-s-2-test.true
      c.entry-ask.ensures c.join-j.ensures _ c.places-places.ensures c.least.ensures,
)

pub loop-s-2-smaller : goal.loop-s-2-smaller
loop-s-2-smaller c = measure_joins _ _ _ c.loop-s-2-test.true (joins c).3.less

pub loop-s-2-preserved : goal.loop-s-2-preserved
loop-s-2-preserved c = rw (c.used.ensures, c.min-in-loop-s-2.ensures, c.min.ensures) (joins c).3.joins

-- NOBODY HAS THE SLOTS

pub overflow_sub-stop : goal.overflow_sub-stop
overflow_sub-stop c = less_most (until (goal.at.overflow_sub-stop c).After-min-stop).1.near.after

pub loop-s-smaller-then-s : goal.loop-s-smaller-then-s
loop-s-smaller-then-s c = (onward_idle (until (goal.at.loop-s-smaller-then-s c).After-min-stop).1 c.if-s.true c.stretch.ensures).less

pub loop-s-preserved-then-s : goal.loop-s-preserved-then-s
loop-s-preserved-then-s c = (onward_idle (until (goal.at.loop-s-preserved-then-s c).After-min-stop).1 c.if-s.true c.stretch.ensures).going

-- THE FIRST HAS THEM. It goes on after them

abbrev goes : After-saturating_sub-then-stop-full → Way
goes c = (
  _,
  _,
  onward_goes (serves (goal.at.loop-s-smaller-then-stop-full c).After-stretch-in-loop-s).2 c.if-stop-full.true
      (c.worked.ensures ∙ ap (worked_of _ _) c.saturating_sub.ensures) _ c.saturating_sub-then-stop-full.ensures,
)

pub loop-s-smaller-then-stop-full : goal.loop-s-smaller-then-stop-full
loop-s-smaller-then-stop-full c = (goes c).2.less

pub loop-s-preserved-then-stop-full : goal.loop-s-preserved-then-stop-full
loop-s-preserved-then-stop-full c = (goes c).2.going

-- Its job is complete with them

abbrev ends : After-least-in-loop-s → Way
ends c = (
  _,
  _,
  onward_ends (serves (goal.at.loop-s-smaller c).After-stretch-in-loop-s).2 c.if-stop-full.false c.span.ensures c.saturating_sub-took.ensures
      c.max.ensures _ c.places-places.ensures c.without.ensures c.least-in-loop-s.ensures,
)

pub loop-s-smaller : goal.loop-s-smaller
loop-s-smaller c = (ends c).2.less

pub loop-s-preserved : goal.loop-s-preserved
loop-s-preserved c = (ends c).2.going
