-- The state at time 0, as the code fills it in row by row: the first release at the offset, with its row, and a job that is complete, so
-- no deadline and no key. Means of proof: once all rows are filled in, it stands for the rules' begin.
use Rattle.std.specs.Prelude.{◌≡◌, List, ℕ, ◌≤◌, ◌<◌, get_or, length, replicate}
use Rattle.rules.specs.declared.Row.{Row}
use Rattle.rules.specs.declared.Executed.{Executed}
use Rattle.rules.specs.Table.{no_row}
use Rattle.slots.specs.Jobs.{never}
use Rattle.machine.specs.declared.state.State.{State}
use Rattle.machine.specs.Least.{Least}
use Rattle.machine.specs.Turns.{tagged_of}
use Rattle.machine.specs.Machine.{nothing, release_in}

-- what the loop begins with
abbrev pub empty : State
empty = record {
  release = replicate 16 never;
  due = replicate 16 never;
  key = replicate 16 never;
  need = replicate 16 nothing;
  executed = replicate 16 nothing;
  worst = replicate 16 0;
  next = never;
  soonest = never;
  best = never;
  last = 0;
  left = record { 0 = 0 };
  asked = 0;
  begun = 0;
}

-- a state with other releases, needs and executions
abbrev pub over : State → List ℕ → List Executed → List Executed → ℕ → State
over s release need executed next = record s { release = release; need = need; executed = executed; next = next }

-- row w is in place k
pub record Filled (w : Row) (k : ℕ) (times : List ℕ) (whole had : List Executed) : Type 0 where
  pub release : get_or times k never ≡ tagged_of w.offset k
  pub need : (get_or whole k nothing).0 ≡ w.wcet
  pub executed : (get_or had k nothing).0 ≡ w.wcet

-- the first i rows are filled in
pub record Begun (rows : List Row) (i : ℕ) (s : State) : Type 0 where
  pub others : s ≡ over empty s.release s.need s.executed s.next
  pub release : length s.release ≡ 16
  pub need : length s.need ≡ 16
  pub executed : length s.executed ≡ 16
  pub tasks : (k : ℕ) → k < i → Filled (get_or rows k no_row) k s.release s.need s.executed
  pub rest : (k : ℕ) → i ≤ k → release_in s k ≡ never
  pub next : Least (length rows) s.release s.next
