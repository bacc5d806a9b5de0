-- What the functions of a turn of the loop give, on numbers. Means of proof.
use Rattle.std.specs.Prelude.{Bool, List, ℕ, ◌+◌, ◌*◌, min, get_or, length}
use Rattle.rules.specs.declared.Row.{Row}
use Rattle.rules.specs.declared.Executed.{Executed}
use Rattle.rules.specs.declared.Loading.{Loading}
use Rattle.slots.specs.Jobs.{used_of, key_of, open_of, delay_of, begun_of, begins_of}
use Rattle.machine.specs.declared.join.Joined.{Joined}
use Rattle.machine.specs.declared.turn.ToLoad.{ToLoad}

-- a number with its row
abbrev pub tagged_of : ℕ → ℕ → ℕ
tagged_of x i = x * 16 + i

abbrev pub rank_of : ℕ → Row → ℕ → ℕ → ℕ
rank_of p r i due = tagged_of (key_of p r due) i

abbrev pub joined_of : ℕ → Row → ℕ → ℕ → ℕ → Joined
joined_of p r i time ask =
    record {
      need = record { 0 = min ask r.wcet };
      release = tagged_of (time + r.period) i;
      due = open_of (record { 0 = min ask r.wcet }) (time + r.deadline);
      key = open_of (record { 0 = min ask r.wcet }) (rank_of p r i (time + r.deadline));
    }

abbrev pub load_of : Row → Executed → Bool → Loading → ℕ → List ℕ → ToLoad
load_of r e again left begun zs =
    record {
      slots = begun_of again left (get_or zs begun (delay_of r e).0) (delay_of r e);
      begun = used_of (begins_of again (delay_of r e)) begun (length zs);
    }
