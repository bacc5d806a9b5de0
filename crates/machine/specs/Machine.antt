-- How the code's state stands for the rules' state at a time, and what the loop gives in these terms. Means of proof:
-- of public contracts only that of `machine::run` cites them, which hosts do not call.
use Rattle.std.specs.Prelude.{◌≡◌, ◌≢◌, Bool, true, false, List, Option, None, Some, ℕ, suc, ◌+◌, ◌*◌, ◌≤◌, ◌<◌, get_or, take, drop, length}
use Rattle.rules.specs.declared.Row.{Row}
use Rattle.rules.specs.declared.Executed.{Executed}
use Rattle.rules.specs.declared.Table.{Table}
use Rattle.rules.specs.Table.{omax, hyper}
use Rattle.rules.specs.Policies as policies
use Rattle.rules.specs.Slots as rules
use Rattle.rules.specs.Decided.{Same, missed_at}
use Rattle.rules.specs.AsRun.{as_run, listed}
use Rattle.rules.specs.Schedules.{id_byte, kind_byte}
use Rattle.reordering.specs.Passed.{Passed}
use Rattle.theory.specs.Counters.{until}
use Rattle.theory.specs.Completions.{Seen}
use Rattle.slots.specs.Jobs.{never}
use Rattle.machine.specs.declared.state.State.{State}
use Rattle.machine.specs.declared.Stop.{Stop}
use Rattle.machine.specs.declared.Why.{Why}
use Rattle.machine.specs.declared.Why.TheVariants.{Missed, Repeats, Ended}
use Rattle.machine.specs.declared.marks.Mark.{Mark}
use Rattle.machine.specs.Least.{Least}
use Rattle.machine.specs.Turns.{tagged_of, rank_of}
use Rattle.machine.specs.Paint.{Painted}

-- THE TABLE in hand

abbrev pub live : Table → List Row
live t = take t.count t.rows

-- what a table that passed the checks is like
pub record Sound (t : Table) : Type 0 where
  pub full : length t.rows ≡ 16
  pub count : length (live t) ≡ t.count
  pub passed : Passed (live t)
  pub omax : t.omax ≡ omax (live t)
  pub hyper : t.hyper ≡ hyper (live t)

abbrev pub system_in : ℕ → Table → policies.System
system_in p t = policies.system (policies.policy p) (live t)

-- THE RUN in hand: that of two lists
module _ (p : ℕ) (t : Table) (xs zs : List ℕ) where
  abbrev pub choices : ℕ → rules.Choice
  choices = listed (system_in p t) xs zs

  abbrev pub state_at : ℕ → rules.State
  state_at u = rules.run (system_in p t) choices u

  abbrev pub miss_at : ℕ → ℕ
  miss_at u = missed_at (system_in p t) choices u

-- THE STATE in hand

abbrev pub nothing : Executed
nothing = record { 0 = 0 }

-- what it says of task i
module _ (s : State) (i : ℕ) where
  abbrev pub release_in : ℕ
  release_in = get_or s.release i never

  abbrev pub due_in : ℕ
  due_in = get_or s.due i never

  abbrev pub key_in : ℕ
  key_in = get_or s.key i never

  abbrev pub need_in : ℕ
  need_in = (get_or s.need i nothing).0

  abbrev pub executed_in : ℕ
  executed_in = (get_or s.executed i nothing).0

  abbrev pub worst_in : ℕ
  worst_in = get_or s.worst i 0

pub record Full (s : State) : Type 0 where
  pub release : length s.release ≡ 16
  pub due : length s.due ≡ 16
  pub key : length s.key ≡ 16
  pub need : length s.need ≡ 16
  pub executed : length s.executed ≡ 16
  pub worst : length s.worst ≡ 16

-- it says of task i what the rules' state x has; the release is the next from time v on
pub record TaskAt (p : ℕ) (w : Row) (x : rules.State) (v i : ℕ) (s : State) : Type 0 where
  pub need : need_in s i ≡ x.need i
  pub executed : executed_in s i ≡ x.executed i
  pub release : release_in s i ≡ tagged_of (v + until w v) i
  pub incomplete : rules.complete x i ≡ false → (due_in s i + w.period ≡ v + until w v + w.deadline) × (key_in s i ≡ rank_of p w i (due_in s i))
  pub complete : rules.complete x i ≡ true → (due_in s i ≡ never) × (key_in s i ≡ never)

-- it has no task i
pub record Unused (i : ℕ) (s : State) : Type 0 where
  pub release : release_in s i ≡ never
  pub due : due_in s i ≡ never
  pub key : key_in s i ≡ never

-- the state stands for the run at time u, up to which nothing is missed; each task's number is the largest response so far
pub record At (p : ℕ) (t : Table) (xs zs : List ℕ) (u : ℕ) (s : State) : Type 0 where
  pub full : Full s
  pub tasks : (i : ℕ) → i < t.count → TaskAt p (policies.row (live t) i) (state_at p t xs zs u) u i s
  pub rest : (i : ℕ) → t.count ≤ i → Unused i s
  pub next : Least t.count s.release s.next
  pub soonest : Least t.count s.due s.soonest
  pub best : Least t.count s.key s.best
  pub ahead : u ≤ s.soonest
  pub last : s.last ≡ (state_at p t xs zs u).last
  pub left : s.left.0 ≡ (state_at p t xs zs u).left
  pub asked : drop s.asked xs ≡ (as_run (system_in p t) xs zs u).requests
  pub begun : drop s.begun zs ≡ (as_run (system_in p t) xs zs u).loadings
  pub clean : (v : ℕ) → v < u → miss_at p t xs zs v ≡ 0
  pub seen : choices p t xs zs ≡ rules.stated (system_in p t) → (i : ℕ) → i < t.count → Seen (system_in p t) i u (worst_in s i)

-- the first of so many deadlines that is at a time; or that none is
abbrev pub FirstAt : List ℕ → ℕ → Option ℕ → Type 0
FirstAt due time (Some i) = (i < length due) × (get_or due i never ≡ time) × ((k : ℕ) → k < i → get_or due k never ≢ time)
FirstAt due time None = (k : ℕ) → k < length due → get_or due k never ≢ time

-- MARKS: the times Omax + k × H

abbrev pub mark_of : Table → ℕ → ℕ
mark_of t k = t.omax + k * t.hyper

-- the run has one state at mark k and at the next
abbrev pub SameAt : ℕ → Table → List ℕ → List ℕ → ℕ → Type 0
SameAt p t xs zs k = Same (system_in p t).tasks (state_at p t xs zs (mark_of t k)) (state_at p t xs zs (mark_of t (suc k)))

-- two states at marks are equal, on the first n tasks
pub record Alike (n : ℕ) (a b : Mark) : Type 0 where
  pub executed : (i : ℕ) → i < n → (get_or a.executed i nothing).0 ≡ (get_or b.executed i nothing).0
  pub last : a.last ≡ b.last
  pub left : a.left.0 ≡ b.left.0

-- a mark is equal to the one before, if there is one
abbrev pub Again : ℕ → Mark → Option Mark → Type 0
Again n a None = ⊥
Again n a (Some b) = Alike n a b

-- WHAT THE FUNCTIONS GIVE

-- the task that a run missed, as the rules number it: 0 for none, i + 1 for task i
abbrev pub miss_of : Why → ℕ
miss_of (Missed i) = suc i
miss_of Repeats = 0
miss_of Ended = 0

abbrev pub repeats_in : Why → Bool
repeats_in (Missed i) = false
repeats_in Repeats = true
repeats_in Ended = false

-- the run stopped at mark k + 1, the first that has the state of the mark before
pub record Repeated (p : ℕ) (t : Table) (xs zs : List ℕ) (u : ℕ) : Type 0 where
  pub k : ℕ
  pub mark : u ≡ mark_of t (suc k)
  pub same : SameAt p t xs zs k
  pub apart : (i : ℕ) → i < k → SameAt p t xs zs i → ⊥

-- a run up to `end`, whose marks are compared if the first is Omax and not `never`
pub record Ran (p : ℕ) (t : Table) (xs zs : List ℕ) (first end : ℕ) (r : Stop) : Type 0 where
  pub most : r.time ≤ end
  pub task : miss_of r.why ≤ t.count
  pub clean : (v : ℕ) → v < r.time → miss_at p t xs zs v ≡ 0
  pub miss : miss_of r.why ≡ miss_at p t xs zs r.time
  pub seen : miss_of r.why ≡ 0 → choices p t xs zs ≡ rules.stated (system_in p t) → (i : ℕ) → i < t.count → Seen (system_in p t) i r.time (get_or r.worst i 0)
  pub repeats : repeats_in r.why ≡ true → Repeated p t xs zs r.time
  pub alone : first ≡ never → repeats_in r.why ≡ false
  pub through : repeats_in r.why ≡ false → miss_of r.why ≡ 0 → r.time ≡ end
  pub apart : repeats_in r.why ≡ false → miss_of r.why ≡ 0 → first ≡ t.omax → (i : ℕ) → mark_of t (suc i) ≤ end → SameAt p t xs zs i → ⊥

-- the bytes of the run's slots u .. v
abbrev pub PaintedRun : ℕ → Table → List ℕ → List ℕ → ℕ → ℕ → List ℕ → List ℕ → Type 0
PaintedRun p t xs zs u v before after =
    Painted
    (λ x. id_byte (system_in p t) (rules.who (system_in p t) (choices p t xs zs x) x (state_at p t xs zs x)))
    (λ x.
    kind_byte
    (rules.who (system_in p t) (choices p t xs zs x) x (state_at p t xs zs x))
    (rules.to_load (system_in p t) (choices p t xs zs x) x (state_at p t xs zs x)))
    u v before after
