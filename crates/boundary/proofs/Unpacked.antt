-- Nothing is lost: of every reply that the rules give to a small source, as a text is (`Bounds.text_small`), kind, number and place are
-- had back from the one number that crosses, by the divisions of host/ottersprawl.h.
use mathlib.Core.Path.{◌≡◌, refl}
use mathlib.Core.List.{List}
use Prim.Native.Nat.{ℕ, ◌+◌, ◌*◌, ◌/◌, ◌%◌, ◌≤◌, ◌<◌}
use native.Mathlib.Nat.{div-eq_of_lt-le}
use native.Mathlib.Omega.{arith}
use lib.ListN.{length}
use Rattle.std.specs.Prelude.{Result, Ok, Err}
use Rattle.rules.specs.declared.Refusal.{Refusal}
use Rattle.rules.specs.declared.Verdict.{Verdict}
use Rattle.rules.specs.declared.ScheduleReply.{ScheduleReply}
use Rattle.rules.specs.Sources.{Source}
use Rattle.rules.specs.Slots.{stated}
use Rattle.rules.specs.AsRun.{listed}
use Rattle.rules.specs.Verdicts.{system_of}
use Rattle.rules.specs.declared.Verdict.TheVariants as verdict
use Rattle.rules.specs.declared.ScheduleReply.TheVariants as schedule
use Rattle.boundary.specs.Packed.{packed_miss, packed_refusal, packed, packed_schedule, packed_write, Parts, Unpacked, UnpackedSchedule, UnpackedWrite, Small, SmallSchedule, SmallWrite}
use Rattle.boundary.specs.Crossing.{VerdictCrosses, ResponsesCross, ScheduleCrosses, AsRunCrosses, IdsCross}
use Rattle.boundary.proofs.Bounds.{SmallSource, verdict_small, bytes_small, writes_small, ids_small}

-- THE DIVISIONS: a kind below 16, and what stands above it
apart : (r n k : ℕ) → r ≡ n * 16 + k → k < 16 → (r % 16 ≡ k) × (r / 16 ≡ n)
apart r n k e h =
    let above : r / 16 ≡ n = div-eq_of_lt-le 16 (omega arith) (omega arith) in
    (omega arith, above)

parts_miss : (r t i : ℕ) → r ≡ packed_miss t i → i ≤ 255 → Parts 2 t i r
parts_miss r t i e h =
    let both = apart r (t * 256 + i) 2 e (omega arith) in
    let time : r / 4096 ≡ t = div-eq_of_lt-le 4096 (omega arith) (omega arith) in
    let id : (t * 256 + i) % 256 ≡ i = omega (arith, div-eq_of_lt-le {k = t} 256 {m = t * 256 + i} (omega arith) (omega arith)) in
    record { kind = both.0; number = rw both.0 time; place = rw (both.0, both.1) id }

parts_refusal : (r n p : ℕ) → r ≡ packed_refusal n p → n < 32 → Parts 4 n p r
parts_refusal r n p e h =
    let both = apart r (p * 32 + n) 4 e (omega arith) in
    let place : r / 512 ≡ p = div-eq_of_lt-le 512 (omega arith) (omega arith) in
    let number : (p * 32 + n) % 32 ≡ n = omega (arith, div-eq_of_lt-le {k = p} 32 {m = p * 32 + n} (omega arith) (omega arith)) in
    record { kind = both.0; number = rw (both.0, both.1) number; place = rw both.0 place }

unpacked : (v : Verdict) (r : ℕ) → Small v → r ≡ packed v → Unpacked v r
unpacked (verdict.Accepted n) r h e =
    let both = apart r n 1 e (omega arith) in record { kind = both.0; number = rw both.0 both.1; place = rw both.0 refl }
unpacked (verdict.Missed t i) r h e = parts_miss r t i e h.1
unpacked verdict.Undecided r h e = rw e (record { kind = refl; number = refl; place = refl })
unpacked (verdict.Refused n p) r h e = parts_refusal r n p e h.0

unpacked_schedule : (v : ScheduleReply) (r : ℕ) → SmallSchedule v → r ≡ packed_schedule v → UnpackedSchedule v r
unpacked_schedule schedule.Filled r h e = rw e (record { kind = refl; number = refl; place = refl })
unpacked_schedule (schedule.Missed t i) r h e = parts_miss r t i e h.1
unpacked_schedule (schedule.Refused n p) r h e = parts_refusal r n p e h.0

unpacked_write : (v : Result ℕ Refusal) (r : ℕ) → SmallWrite v → r ≡ packed_write v → UnpackedWrite v r
unpacked_write (Ok n) r h e =
    let both = apart r n 6 e (omega arith) in record { kind = both.0; number = rw both.0 both.1; place = rw both.0 refl }
unpacked_write (Err f) r h e = parts_refusal r f.number f.place e h.0

-- OF WHAT CROSSES
module _ {s : Source} (small : SmallSource s) {p : ℕ} where
  pub verdict_unpacked : {a r : ℕ} (c : VerdictCrosses p a s r) → Unpacked c.reply r
  verdict_unpacked {a} {r} c = unpacked c.reply r (verdict_small s small p a c.reply c.right) c.crosses

  pub responses_unpacked : {a : ℕ} {before after : List ℕ} {r : ℕ} (c : ResponsesCross p a s before after r) → Unpacked c.reply r
  responses_unpacked {a} {before} {after} {r} c = unpacked c.reply r (bytes_small s small p a (length before) c.reply c.right) c.crosses

  pub schedule_unpacked : {before after : List ℕ} {r : ℕ} (c : ScheduleCrosses p s before after r) → UnpackedSchedule c.reply r
  schedule_unpacked {before} {after} {r} c =
      unpacked_schedule c.reply r (writes_small s small p (stated (system_of p s)) before after c.reply c.right) c.crosses

  pub as_run_unpacked : {xs zs before after : List ℕ} {r : ℕ} (c : AsRunCrosses p s xs zs before after r) → UnpackedSchedule c.reply r
  as_run_unpacked {xs} {zs} {before} {after} {r} c =
      unpacked_schedule c.reply r (writes_small s small p (listed (system_of p s) xs zs) before after c.reply c.right) c.crosses

pub ids_unpacked : {s : Source} (small : SmallSource s) {before after : List ℕ} {r : ℕ} (c : IdsCross s before after r)
    → UnpackedWrite c.reply r
ids_unpacked {s} small {before} {after} {r} c = unpacked_write c.reply r (ids_small s small before after c.reply c.right) c.crosses
