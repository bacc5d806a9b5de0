-- What the replies mean: accepted exactly where no job ever misses, missed with the smallest id; and two replies that meet a
-- contract are equal, with what they leave in lent memory.
use Rattle.std.specs.Prelude.{◌≡◌, refl, ◌≢◌, false, List, ℕ, zero, suc, ◌+◌, ◌-◌, ◌*◌, ◌≤◌, ◌<◌, pred, get_or}
use Rattle.std.proofs.Common.{sym, ap, ◌∙◌, inl, inr, arith, ext_get_or, get_or-drop}
use Rattle.rules.specs.declared.Refusal.{Refusal}
use Rattle.rules.specs.declared.Verdict.{Verdict}
use Rattle.rules.specs.declared.Verdict.TheVariants.{Accepted, Missed, Undecided, Refused}
use Rattle.rules.specs.Table.{omax, hyper}
use Rattle.rules.specs.Sources.{Source}
use Rattle.rules.specs.Policies.{System}
use Rattle.rules.specs.Slots.{due, on_time, run, stated}
use Rattle.rules.specs.Decided.{missed_at, NeverMissed, SlotsNeeded}
use Rattle.rules.specs.Verdicts.{tasks_of, system_of, missed_id, plain, Decides, Replies, Hold, Leaves, ResponsesAre}
use Rattle.basics.specs.Cases.{test, le_case, eq_case}
use Rattle.theory.specs.Order.{First, pick_first}
use Rattle.theory.proofs.Runs.{unreleased}
use Rattle.theory.proofs.Jump.{pick_none}
use Rattle.theory.proofs.Decides.{miss_one, settles_one, slots_one}
use Rattle.theory.proofs.Responses.{worst_one}

none_at_start : (y : System) → missed_at y (stated y) 0 ≡ 0
none_at_start y = pick_none (λ i. 0) (on_time y 0 (run y (stated y) 0)) y.tasks
    (λ i k. test (due (y.row i) 0) (λ e. rw e (unreleased y (stated y) 0 i (omega arith))) (λ e. rw e refl))

horizon : (o k h : ℕ) → 0 < h → 0 < o + suc k * h
horizon o k h some = omega arith

module _ (y : System) (o h : ℕ) where
  -- ACCEPTED exactly where no job ever misses, given allowance enough
  pub accepted_never : (a n : ℕ) → Decides y o h a (Accepted n) → NeverMissed y
  accepted_never a n d = d.0.never

  pub never_accepted : (a : ℕ) → (n : ℕ) × SlotsNeeded y o h plain n × (n ≤ a) → NeverMissed y
      → (r : Verdict) → Decides y o h a r → (n : ℕ) × (r ≡ Accepted n)
  never_accepted a enough never (Accepted n) d = (n, refl)
  never_accepted a enough never (Missed t i) d = absurd (d.0.misses (never t))
  never_accepted a enough never Undecided d = absurd (omega (arith, enough.2, d enough.0 enough.1))
  never_accepted a enough never (Refused n p) d = absurd d

  -- UNDECIDED exactly where the slots needed exceed the allowance
  pub undecided_exceeds : (a n : ℕ) → SlotsNeeded y o h plain n → Decides y o h a Undecided → a < n
  undecided_exceeds a n s d = d n s

  pub exceeds_undecided : (a n : ℕ) → SlotsNeeded y o h plain n → a < n → (r : Verdict) → Decides y o h a r → r ≡ Undecided
  exceeds_undecided a n s k (Accepted m) d = absurd (omega (arith, d.1, slots_one y o h plain m n (inr d.0) s))
  exceeds_undecided a n s k (Missed t i) d = absurd (omega (arith, d.1, slots_one y o h plain t n (inl d.0) s))
  exceeds_undecided a n s k Undecided d = refl
  exceeds_undecided a n s k (Refused m p) d = absurd d

  -- "allowance 0 leaves every valid table undecided": at 0 every task is complete, and the least horizon is above 0
  pub nothing_undecided : 0 < h → (r : Verdict) → Decides y o h 0 r → r ≡ Undecided
  nothing_undecided some (Accepted n) d = absurd (omega (arith, d.1, d.0.number, horizon o d.0.k h some))
  nothing_undecided some (Missed t i) d = let e : t ≡ 0 = omega (arith, d.1) in absurd (d.0.misses (rw e (none_at_start y)))
  nothing_undecided some Undecided d = refl
  nothing_undecided some (Refused n p) d = absurd d

  -- TWO VERDICTS are equal
  decides_one : (a : ℕ) (r s : Verdict) → Decides y o h a r → Decides y o h a s → r ≡ s
  decides_one a (Accepted n) (Accepted m) d e = ap Accepted (settles_one y o h plain n m d.0 e.0)
  decides_one a (Accepted n) (Missed t i) d e = absurd (e.0.misses (d.0.never t))
  decides_one a (Accepted n) Undecided d e = absurd (omega (arith, d.1, e n (inr d.0)))
  decides_one a (Accepted n) (Refused m p) d e = absurd e
  decides_one a (Missed t i) (Accepted n) d e = absurd (d.0.misses (e.0.never t))
  decides_one a (Missed t i) (Missed u j) d e =
      let q = miss_one y (stated y) t u d.0 e.0 in
      let p : i ≡ j = d.2 ∙ ap (missed_id y (stated y)) q ∙ sym e.2 in
      rw (q, p)
  decides_one a (Missed t i) Undecided d e = absurd (omega (arith, d.1, e t (inl d.0)))
  decides_one a (Missed t i) (Refused m p) d e = absurd e
  decides_one a Undecided (Accepted n) d e = absurd (omega (arith, e.1, d n (inr e.0)))
  decides_one a Undecided (Missed t i) d e = absurd (omega (arith, e.1, d t (inl e.0)))
  decides_one a Undecided Undecided d e = refl
  decides_one a Undecided (Refused n p) d e = absurd e
  decides_one a (Refused n p) s d e = absurd d

-- the missed id is the smallest of those missed at that time, where ids ascend with the place
pub missed_smallest : (y : System) → ((i j : ℕ) → i ≤ j → j < y.tasks → (y.row i).id ≤ (y.row j).id) → (t : ℕ) → missed_at y (stated y) t ≢ 0
    → (i : ℕ) → i < y.tasks → on_time y t (run y (stated y) t) i ≡ false → missed_id y (stated y) t ≤ (y.row i).id
missed_smallest y ascending t some i h late = go (missed_at y (stated y) t) some (pick_first (λ j. 0) (on_time y t (run y (stated y) t)) y.tasks)
  where
    go : (p : ℕ) → p ≢ 0 → First (λ j. 0) (on_time y t (run y (stated y) t)) y.tasks p → (y.row (pred p)).id ≤ (y.row i).id
    go zero n f = absurd (n refl)
    go (suc j) n f = ascending j i ((f.2 i h late).1 (omega arith)) h

-- VERDICT
pub verdict_one : (f : Refusal) (y : System) (o h a : ℕ) (r s : Verdict) → Replies f (Decides y o h a) r → Replies f (Decides y o h a) s → r ≡ s
verdict_one f y o h a r s u v = eq_case f.number 0
    (λ e. decides_one y o h a r s (u.decided e) (v.decided e))
    (λ e. u.refused e ∙ sym (v.refused e))

-- RESPONSES
hold_one : (y : System) (before x z : List ℕ) → Hold y before x → Hold y before z → x ≡ z
hold_one y before x z a b = ext_get_or 0 x z (a.length ∙ sym b.length) (λ i k. le_case y.tasks i
    (λ e. let q : y.tasks + (i - y.tasks) ≡ i = omega arith in
    rw q at (sym (get_or-drop y.tasks x (i - y.tasks) 0) ∙ ap (λ l. get_or l (i - y.tasks) 0) (a.rest ∙ sym b.rest) ∙ get_or-drop y.tasks z (i - y.tasks) 0))
    (λ e. worst_one y i (get_or x i 0) (get_or z i 0) (a.worst i e) (b.worst i e)))

-- what is left is one, if what is held where it is accepted is one
pub leaves_one : {H K : Type 0} (r : Verdict) (before x z : List ℕ) → (H → K → x ≡ z) → Leaves H r before x → Leaves K r before z → x ≡ z
leaves_one (Accepted n) before x z one a b = one a b
leaves_one (Missed t i) before x z one a b = a ∙ sym b
leaves_one Undecided before x z one a b = a ∙ sym b
leaves_one (Refused n p) before x z one a b = a ∙ sym b

pub responses_one : (p a : ℕ) (s : Source) (before x z : List ℕ) (r q : Verdict) → ResponsesAre p a s before x r → ResponsesAre p a s before z q
    → (r ≡ q) × (x ≡ z)
responses_one p a s before x z r q u v =
    let e = verdict_one _ (system_of p s) (omax (tasks_of s)) (hyper (tasks_of s)) a r q u.reply v.reply in
    (e, leaves_one q before x z (hold_one (system_of p s) before x z) (rw e at u.buffer) v.buffer)
