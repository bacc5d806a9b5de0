-- Two replies of schedule or of as run that meet the contract are equal, with the bytes that they leave.
use Rattle.std.specs.Prelude.{◌≡◌, refl, List, ℕ, ◌/◌, length}
use Rattle.std.proofs.Common.{sym, ap, ◌∙◌}
use Rattle.rules.specs.declared.Refusal.{Refusal}
use Rattle.rules.specs.declared.ScheduleReply.{ScheduleReply}
use Rattle.rules.specs.declared.ScheduleReply.TheVariants.{Filled, Missed, Refused}
use Rattle.rules.specs.Policies.{System}
use Rattle.rules.specs.Slots.{Choice}
use Rattle.rules.specs.Verdicts.{missed_id}
use Rattle.rules.specs.Schedules.{Fills, Writes}
use Rattle.basics.specs.Cases.{eq_case}
use Rattle.theory.proofs.Decides.{miss_one}

fills_one : (y : System) (c : ℕ → Choice) (n : ℕ) (r s : ScheduleReply) → Fills y c n r → Fills y c n s → r ≡ s
fills_one y c n Filled Filled d e = refl
fills_one y c n Filled (Missed t i) d e = absurd (e.0.misses (d t e.1))
fills_one y c n Filled (Refused m p) d e = absurd e
fills_one y c n (Missed t i) Filled d e = absurd (d.0.misses (e t d.1))
fills_one y c n (Missed t i) (Missed u j) d e =
    let q = miss_one y c t u d.0 e.0 in
    let p : i ≡ j = d.2 ∙ ap (missed_id y c) q ∙ sym e.2 in
    rw (q, p)
fills_one y c n (Missed t i) (Refused m p) d e = absurd e
fills_one y c n (Refused m p) s d e = absurd d

pub writes_one : (f : Refusal) (y : System) (c : ℕ → Choice) (before x z : List ℕ) (r s : ScheduleReply)
    → Writes f y c before x r → Writes f y c before z s → (r ≡ s) × (x ≡ z)
writes_one f y c before x z r s u v = eq_case f.number 0
    (λ e. let a = u.filled e in let b = v.filled e in (fills_one y c (length before / 2) r s a.0 b.0, a.1 ∙ sym b.1))
    (λ e. let a = u.refused e in let b = v.refused e in (a.0 ∙ sym b.0, a.1 ∙ sym b.1))
