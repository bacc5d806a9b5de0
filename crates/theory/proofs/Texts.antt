-- "Reordering the rows changes no reply on a table whose lines are well formed", of texts: each theorem is that of the sources which the
-- texts are.
use Rattle.std.specs.Prelude.{◌≡◌, refl, List, ℕ, ◌≤◌, length, Result}
use Rattle.std.proofs.Common.{le-leb}
use Rattle.rules.specs.declared.Verdict.{Verdict}
use Rattle.rules.specs.declared.Refusal.{Refusal}
use Rattle.rules.specs.declared.ScheduleReply.{ScheduleReply}
use Rattle.rules.specs.Text.{bad_line, rows_of}
use Rattle.rules.specs.Sources.{given, text_source}
use Rattle.rules.specs.Verdicts.{VerdictIs, ResponsesAre}
use Rattle.rules.specs.Schedules.{ScheduleIs, AsRunIs}
use Rattle.rules.specs.Written.{IdsAre}
use Rattle.reordering.specs.Permutations.{Perm}
use Rattle.reordering.specs.Alike.{Alike}
use Rattle.reordering.specs.Reordering.{perm_alike}
use Rattle.theory.proofs.Reordered.{verdict_same, responses_same, schedule_same, as_run_same, ids_same}

well_formed : (s : List ℕ) → length s ≤ 4096 → bad_line s ≡ 0 → text_source s ≡ given (rows_of s)
unfolding text_source
well_formed s short good = rw (le-leb (length s) 4096 short, good)

module _ (s t : List ℕ) (short : length s ≤ 4096) (also : length t ≤ 4096) (good : bad_line s ≡ 0) (fair : bad_line t ≡ 0) (perm : Perm (rows_of s) (rows_of t)) where
  alike : Alike (text_source s) (text_source t)
  alike = rw (well_formed s short good, well_formed t also fair) (perm_alike (given (rows_of s)) (given (rows_of t)) refl refl perm)

  pub verdict_order : (p a : ℕ) (r q : Verdict) → VerdictIs p a (text_source s) r → VerdictIs p a (text_source t) q → r ≡ q
  verdict_order = verdict_same (text_source s) (text_source t) alike

  pub responses_order : (p a : ℕ) (before x z : List ℕ) (r q : Verdict)
      → ResponsesAre p a (text_source s) before x r → ResponsesAre p a (text_source t) before z q → (r ≡ q) × (x ≡ z)
  responses_order = responses_same (text_source s) (text_source t) alike

  pub schedule_order : (p : ℕ) (before x z : List ℕ) (r q : ScheduleReply)
      → ScheduleIs p (text_source s) before x r → ScheduleIs p (text_source t) before z q → (r ≡ q) × (x ≡ z)
  schedule_order = schedule_same (text_source s) (text_source t) alike

  pub as_run_order : (xs zs : List ℕ) (p : ℕ) (before x z : List ℕ) (r q : ScheduleReply)
      → AsRunIs p (text_source s) xs zs before x r → AsRunIs p (text_source t) xs zs before z q → (r ≡ q) × (x ≡ z)
  as_run_order = as_run_same (text_source s) (text_source t) alike

  pub ids_order : (before x z : List ℕ) (r q : Result ℕ Refusal)
      → IdsAre (text_source s) before x r → IdsAre (text_source t) before z q → (r ≡ q) × (x ≡ z)
  ids_order = ids_same (text_source s) (text_source t) alike
