-- Two replies to one call are equal, with the bytes that they leave: a contract of the boundary says all.
use mathlib.Core.Path.{◌≡◌, refl, sym, ap, ◌∙◌}
use mathlib.Core.List.{List}
use Prim.Native.Nat.{ℕ, zero, suc, ◌+◌, ◌*◌, ◌≤◌}
use native.Mathlib.Omega.{arith}
use lib.ListN.{length, take, take-append-drop}
use lib.Seq.{take-add}
use Rattle.rules.specs.Table.{omax, hyper}
use Rattle.rules.specs.Sources.{Source}
use Rattle.rules.specs.Slots.{stated}
use Rattle.rules.specs.Policies.{System}
use Rattle.rules.specs.AsRun.{listed}
use Rattle.rules.specs.Checks.{verdict_refusal, slots_refusal, ids_refusal}
use Rattle.rules.specs.Verdicts.{tasks_of, system_of}
use Rattle.rules.specs.Written.{ids_of}
use Rattle.theory.proofs.Replies.{verdict_one, leaves_one}
use Rattle.theory.proofs.Responses.{worst_one}
use Rattle.theory.proofs.ScheduleReplies.{writes_one}
use Rattle.theory.specs.WriteReplies.{puts_one}
use Rattle.boundary.specs.Packed.{packed, packed_schedule, packed_write}
use Rattle.boundary.specs.Crossing.{bytes_refusal, HoldBytes, VerdictCrosses, ResponsesCross, ScheduleCrosses, AsRunCrosses, IdsCross}

pub verdict_once : {p a : ℕ} {s : Source} {r q : ℕ} → VerdictCrosses p a s r → VerdictCrosses p a s q → r ≡ q
verdict_once {p} {a} {s} c d =
    let e = verdict_one (verdict_refusal p s) (system_of p s) (omax (tasks_of s)) (hyper (tasks_of s)) a c.reply d.reply c.right d.right in
    c.crosses ∙ ap packed e ∙ sym d.crosses

-- RESPONSES: number by number
module _ (y : System) (before x z : List ℕ) (a : HoldBytes y before x) (b : HoldBytes y before z) where
  same_front : (n : ℕ) → n ≤ y.tasks → take (4 * n) x ≡ take (4 * n) z
  same_front zero h = refl
  same_front (suc n) h =
      let on : 4 * suc n ≡ 4 * n + 4 = omega arith in
      let u = a.worst n (omega arith) in
      let v = b.worst n (omega arith) in
      rw (
        on,
        take-add (4 * n) 4 x,
        take-add (4 * n) 4 z,
        same_front n (omega arith),
        u.2.bytes,
        v.2.bytes,
        worst_one y n u.0 v.0 u.1 v.1,
      ) refl

  same_bytes : x ≡ z
  same_bytes =
      let n = 4 * y.tasks in
      sym (take-append-drop n x) ∙ rw (same_front y.tasks (omega arith), a.rest, ← b.rest) (take-append-drop n z)

pub responses_once : {p a : ℕ} {s : Source} {before x z : List ℕ} {r q : ℕ} → ResponsesCross p a s before x r
    → ResponsesCross p a s before z q → (r ≡ q) × (x ≡ z)
responses_once {p} {a} {s} {before} {x} {z} c d =
    let e = verdict_one (bytes_refusal p (length before) s) (system_of p s) (omax (tasks_of s)) (hyper (tasks_of s)) a
    c.reply d.reply c.right d.right in (
      c.crosses ∙ ap packed e ∙ sym d.crosses,
      leaves_one d.reply before x z (same_bytes (system_of p s) before x z) (rw e at c.buffer) d.buffer,
    )

pub schedule_once : {p : ℕ} {s : Source} {before x z : List ℕ} {r q : ℕ} → ScheduleCrosses p s before x r
    → ScheduleCrosses p s before z q → (r ≡ q) × (x ≡ z)
schedule_once {p} {s} {before} {x} {z} c d =
    let e = writes_one (slots_refusal p (length before) s) (system_of p s) (stated (system_of p s)) before x z
    c.reply d.reply c.right d.right in
    (c.crosses ∙ ap packed_schedule e.0 ∙ sym d.crosses, e.1)

pub as_run_once : {p : ℕ} {s : Source} {xs zs before x z : List ℕ} {r q : ℕ} → AsRunCrosses p s xs zs before x r
    → AsRunCrosses p s xs zs before z q → (r ≡ q) × (x ≡ z)
as_run_once {p} {s} {xs} {zs} {before} {x} {z} c d =
    let e = writes_one (slots_refusal p (length before) s) (system_of p s) (listed (system_of p s) xs zs) before x z
    c.reply d.reply c.right d.right in
    (c.crosses ∙ ap packed_schedule e.0 ∙ sym d.crosses, e.1)

pub ids_once : {s : Source} {before x z : List ℕ} {r q : ℕ} → IdsCross s before x r → IdsCross s before z q → (r ≡ q) × (x ≡ z)
ids_once {s} {before} {x} {z} c d =
    let e = puts_one (ids_refusal (length before) s) (length s.rows) (ids_of s) before x z c.reply d.reply c.right d.right in
    (c.crosses ∙ ap packed_write e.0 ∙ sym d.crosses, e.1)
