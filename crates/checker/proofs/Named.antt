-- From the table in hand to the reply of ids: the ids of the table are those of its source. `ids` uses it.
use mathlib.Core.Path.{◌≡◌, refl, sym, ap, ◌∙◌}
use mathlib.Core.List.{List, ◌++◌}
use Prim.Native.Nat.{ℕ}
use lib.ListN.{length, drop, length-map}
use Rattle.std.specs.Prelude.{Ok}
use Rattle.rules.specs.declared.Row.{Row}
use Rattle.rules.specs.declared.Table.{Table}
use Rattle.rules.specs.Sources.{Source}
use Rattle.rules.specs.Checks.{too_few}
use Rattle.rules.specs.Written.{IdsAre}
use Rattle.reordering.specs.Canonical.{canonical_length}
use Rattle.machine.specs.Machine.{live}
use Rattle.checker.specs.Outcomes.{Passes, ids_in}

pub ids_written : {s : Source} {before : List ℕ} {t : Table} → Passes 1 (too_few (length before)) s t → {after : List ℕ}
    → after ≡ ids_in (live t) ++ drop (length (live t)) before → IdsAre s before after (Ok t.count)
ids_written {s} {before} {t} passes w =
    let rows : t.count ≡ length s.rows = sym passes.sound.count ∙ ap (λ (ws : List Row). length ws) passes.tasks
    ∙ canonical_length s.rows in
    record {
      refused = λ h. absurd (h passes.none);
      written = λ h. (ap Ok rows, w ∙ rw (← passes.tasks, length-map (live t) (λ (w : Row). w.id)) refl);
    }
