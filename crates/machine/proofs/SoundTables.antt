-- What a sound table in hand meets: all that the theory asks of a table, and its rows as the code reads them are the rules' rows.
use mathlib.Core.Path.{◌≡◌, sym, ap, ◌∙◌}
use Prim.Native.Nat.{ℕ, ◌≤◌, ◌<◌}
use native.Mathlib.Omega.{arith}
use lib.ListN.{get_or, length}
use lib.Seq.{get_or-take}
use Rattle.rules.specs.declared.Row.{Row}
use Rattle.rules.specs.declared.Table.{Table}
use Rattle.rules.specs.Table.{no_row}
use Rattle.rules.specs.Policies.{blank, row}
use Rattle.basics.specs.Lists.{any_default}
use Rattle.reordering.specs.Passed.{Fine, fine_at}
use Rattle.theory.specs.Rows.{Valid}
use Rattle.theory.proofs.Sources.{valid_rows}
use Rattle.machine.specs.Machine.{live, Sound}

module _ (t : Table) (g : Sound t) where
  pub valid : Valid (live t)
  valid = valid_rows (live t) g.passed

  pub count_top : t.count ≤ 16
  count_top = omega (arith, g.count, g.passed.few)

  pub hyper_some : 0 < t.hyper
  hyper_some = omega (arith, g.hyper)

  pub row_in : (i : ℕ) → i < t.count → row (live t) i ≡ get_or t.rows i no_row
  row_in i h = get_or-take t.count t.rows i blank h ∙ any_default t.rows i blank no_row (omega (arith, count_top, g.full))

  pub fine_in : (i : ℕ) → i < t.count → Fine (row (live t) i)
  fine_in i h =
      let low : i < length (live t) = omega (arith, g.count) in
      rw (any_default (live t) i blank no_row low) (fine_at (live t) g.passed i low)

  pub period_some : (i : ℕ) → i < t.count → 0 < (row (live t) i).period
  period_some i h = let f = fine_in i h in omega (arith, f.wcet_low, f.wcet_deadline, f.deadline_period)

  -- as the theory counts rows
  pub periods : (i : ℕ) → i < length (live t) → 0 < (row (live t) i).period
  periods i h = period_some i (omega (arith, g.count))

  -- the id of task i, as the code reads it
  pub id_in : (i : ℕ) → i < t.count → (get_or t.rows i no_row).id ≡ (row (live t) i).id
  id_in i h = ap (λ (w : Row). w.id) (sym (row_in i h))

  pub deadline_some : (i : ℕ) → i < t.count → 0 < (row (live t) i).deadline
  deadline_some i h = let f = fine_in i h in omega (arith, f.wcet_low, f.wcet_deadline)
