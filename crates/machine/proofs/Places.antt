-- What is known at the places of a turn of the loop. `Going` is what holds at its head. Where the ways through a turn part, what they have
-- gone through is packed in a record: `Turning` once nothing is missed and no mark and no end is now, `Until` once all have joined, `Serving`
-- once a task has the slots. `Onward` is what each way leads to. The laws are in `Going`.
use mathlib.Core.Path.{◌≡◌}
use mathlib.Core.Logic.{◌⊎◌, ◌≢◌}
use mathlib.Core.Bool.{false, cond}
use mathlib.Core.List.{List}
use Prim.Native.Nat.{ℕ, suc, ◌+◌, ◌-◌, ◌*◌, ◌%◌, ◌≤◌, ◌<◌, min}
use lib.Dec.{eqb}
use lib.ListN.{get_or, drop}
use Rattle.std.proofs.Common.{Option, Some}
use Rattle.rules.specs.declared.Row.{Row}
use Rattle.rules.specs.declared.Table.{Table}
use Rattle.rules.specs.Policies.{row}
use Rattle.rules.specs.Slots.{complete}
use Rattle.rules.specs.Table.{no_row}
use Rattle.slots.specs.Jobs.{never}
use Rattle.machine.specs.declared.state.State.{State}
use Rattle.machine.specs.declared.marks.Mark.{Mark}
use Rattle.machine.specs.declared.turn.ToLoad.{ToLoad}
use Rattle.machine.specs.Paint.{Painted, stretch_id, stretch_kind}
use Rattle.machine.specs.Machine.{live, Sound, release_in, need_in, executed_in, At, PaintedRun}
use Rattle.machine.proofs.Pass.{now_in, who_in, load_in, loadings_after}
use Rattle.machine.proofs.Joins.{Ready, Joining}
use Rattle.machine.proofs.Leap.{Near}
use Rattle.machine.proofs.Watch.{Watched, keep}

-- THE HEAD OF THE LOOP: what the run is given, and where it is; `before` is what the bytes were at its start

pub record Head : Type 0 where
  pub policy : ℕ
  pub table : Table
  pub requests : List ℕ
  pub loadings : List ℕ
  pub first : ℕ
  pub end : ℕ
  pub before : List ℕ
  pub slots : List ℕ
  pub state : State
  pub was : Option Mark
  pub mark : ℕ
  pub time : ℕ

abbrev pub head_of : ℕ → Table → List ℕ → List ℕ → ℕ → ℕ → List ℕ → List ℕ → State → Option Mark → ℕ → ℕ → Head
head_of p t xs zs first end before slots s was mark u = record {
  policy = p;
  table = t;
  requests = xs;
  loadings = zs;
  first = first;
  end = end;
  before = before;
  slots = slots;
  state = s;
  was = was;
  mark = mark;
  time = u;
}

-- the same run at time v
abbrev pub at_time : Head → List ℕ → State → ℕ → Head
at_time h slots s v = record h { slots = slots; state = s; time = v }

-- at the same time, with the mark kept
abbrev pub past_mark : Head → Head
past_mark h = record h { was = Some (keep h.state); mark = h.time + h.table.hyper }

-- twice the time that is left, and one more where a mark is to be compared
abbrev pub measure : Head → ℕ
measure h = 2 * (h.end - h.time) + cond (eqb h.mark h.time) 1 0

-- the row of the least key
abbrev pub first_of : State → ℕ
first_of s = s.best % 16

abbrev pub row_of : Table → State → Row
row_of t s = get_or t.rows (first_of s) no_row

module _ (h : Head) where
  open h use {policy as p, table as t, requests as xs, loadings as zs, first, end, before, slots, state as s, was, mark, time as u}

  -- what the function asks for, and what holds at the head
  pub record Going : Type 0 where
    pub sound : Sound t
    pub kind : (first ≡ never) ⊎ (first ≡ t.omax)
    pub high : end ≤ 281474976710656
    pub most : u ≤ end
    pub at : At p t xs zs u s
    pub watched : Watched p t xs zs first mark u was
    pub painted : PaintedRun p t xs zs 0 u before slots

  -- within a turn: nothing is missed, no mark and no end is now
  pub record Turning : Type 0 where
    pub going : Going
    pub on_time : s.soonest ≢ u
    pub later : mark ≢ u
    pub more : u ≢ end

  -- so far jobs have joined as s₁ has them
  abbrev pub Joins : State → Type 0
  Joins s₁ = Joining p t xs zs u s s₁

  -- all have joined, and nothing else happens before `stop`
  pub record Until (s₁ : State) (stop : ℕ) : Type 0 where
    pub going : Going
    pub ready : Ready p t xs zs u s s₁
    pub near : Near u stop s₁
    pub in_end : stop ≤ end
    pub in_mark : stop ≤ mark

  -- the first has the slots: l is its loading, at `full` its job would be complete, and d slots are painted
  pub record Serving (s₁ : State) (stop : ℕ) (l : ToLoad) (full d : ℕ) (slots' : List ℕ) : Type 0 where
    pub until : Until s₁ stop
    pub below : first_of s₁ < t.count
    pub row_is : row_of t s₁ ≡ row (live t) (first_of s₁)
    pub release_is : get_or s₁.release (first_of s₁) 0 ≡ release_in s₁ (first_of s₁)
    pub has : who_in p t xs zs u ≡ suc (first_of s₁)
    pub waits : complete (now_in p t xs zs u) (first_of s₁) ≡ false
    pub to_load : l.slots.0 ≡ load_in p t xs zs u
    pub loadings_left : drop l.begun zs ≡ loadings_after p t xs zs u
    pub fills : full ≡ u + l.slots.0 + (need_in s₁ (first_of s₁) - executed_in s₁ (first_of s₁))
    pub span : d ≡ min (min stop full - u) 4294967295
    pub bytes : Painted (stretch_id (first_of s₁ + 1) (row_of t s₁).id) (stretch_kind u (first_of s₁ + 1) l.slots.0) u (u + d) slots slots'

-- what both of a turn's needs ask: the measure is less at the next head, and the invariant holds there
pub record Onward (h next : Head) : Type 0 where
  pub less : measure next < measure h
  pub going : Going next

-- the same of the inner loop
pub record OneMore (h : Head) (s₁ s₂ : State) : Type 0 where
  pub less : s₁.next < s₂.next
  pub joins : Joins h s₂
