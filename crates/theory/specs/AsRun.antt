-- As run is a run: what its two lists make is the run of certain choices, so demand 3 speaks of it; with both lists at their
-- end the stated times hold, so the schedule is as run with no list.
use Rattle.std.specs.Prelude.{◌≡◌, refl, List, [], ℕ, zero, suc}
use Rattle.std.proofs.Common.{ap}
use Rattle.std.proofs.Math.Path.{fun_ext}
use Rattle.std.proofs.Math.Seq.{drop-nil}
use Rattle.rules.specs.Policies.{System}
use Rattle.rules.specs.Slots.{step, run, stated}
use Rattle.rules.specs.AsRun.{as_run, listed}

pub as_run_lem : (y : System) (xs zs : List ℕ) (t : ℕ) → (as_run y xs zs t).state ≡ run y (listed y xs zs) t
unfolding as_run run
as_run_lem y xs zs zero = refl
as_run_lem y xs zs (suc t) = ap (step y (listed y xs zs t) t) (as_run_lem y xs zs t)

-- beyond the lists' ends
ends : (y : System) (t : ℕ) → ((as_run y [] [] t).requests ≡ []) × ((as_run y [] [] t).loadings ≡ [])
unfolding as_run
ends y zero = (refl, refl)
ends y (suc t) = let e = ends y t in (simp (e.0, drop-nil), simp (e.1, drop-nil))

pub listed_nothing : (y : System) → listed y [] [] ≡ stated y
listed_nothing y = fun_ext (λ t. let e = ends y t in rw (e.0, e.1) refl)
