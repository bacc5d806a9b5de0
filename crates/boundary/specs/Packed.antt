-- A reply as one number, and how the host's header takes it apart again. Definitions.
use Rattle.std.specs.Prelude.{◌≡◌, cond, ◌||◌, ℕ, ◌+◌, ◌*◌, ◌/◌, ◌%◌, ◌^◌, ◌≤◌, ◌<◌, eqb, Result, Ok, Err}
use Rattle.rules.specs.declared.Refusal.{Refusal}
use Rattle.rules.specs.declared.Verdict.{Verdict}
use Rattle.rules.specs.declared.ScheduleReply.{ScheduleReply}
use Rattle.rules.specs.declared.Verdict.TheVariants as verdict
use Rattle.rules.specs.declared.ScheduleReply.TheVariants as schedule
use Rattle.boundary.specs.declared.pack.Kind.{Kind}
use Rattle.boundary.specs.declared.pack.Kind.TheVariants.{Accepted, Missed, Undecided, Refused, Filled, Written}

-- THE NUMBER: the kind, 1 accepted, 2 missed, 3 undecided, 4 refused, 5 filled, 6 written, is below 16; ids are below 256 and numbers
-- of refusals below 32
abbrev pub kind_number : Kind → ℕ
kind_number Accepted = 1
kind_number Missed = 2
kind_number Undecided = 3
kind_number Refused = 4
kind_number Filled = 5
kind_number Written = 6

abbrev pub packed_miss : ℕ → ℕ → ℕ
packed_miss t i = (t * 256 + i) * 16 + 2

abbrev pub packed_refusal : ℕ → ℕ → ℕ
packed_refusal n p = (p * 32 + n) * 16 + 4

abbrev pub packed : Verdict → ℕ
packed (verdict.Accepted n) = n * 16 + 1
packed (verdict.Missed t i) = packed_miss t i
packed verdict.Undecided = 3
packed (verdict.Refused n p) = packed_refusal n p

abbrev pub packed_schedule : ScheduleReply → ℕ
packed_schedule schedule.Filled = 5
packed_schedule (schedule.Missed t i) = packed_miss t i
packed_schedule (schedule.Refused n p) = packed_refusal n p

abbrev pub packed_write : Result ℕ Refusal → ℕ
packed_write (Ok n) = n * 16 + 6
packed_write (Err f) = packed_refusal f.number f.place

-- TAKEN APART: otter_kind, otter_number and otter_place of the header
abbrev pub kind_of : ℕ → ℕ
kind_of r = r % 16

abbrev pub number_of : ℕ → ℕ
number_of r =
    cond (eqb (kind_of r) 1 || eqb (kind_of r) 6) (r / 16)
    (cond (eqb (kind_of r) 2) (r / 4096)
    (cond (eqb (kind_of r) 4) (r / 16 % 32) 0))

abbrev pub place_of : ℕ → ℕ
place_of r = cond (eqb (kind_of r) 2) (r / 16 % 256) (cond (eqb (kind_of r) 4) (r / 512) 0)

-- what they are to be: "accepted with the slots needed, missed with time and id, undecided, refused with number and place", written
-- with its number
pub record Parts (k n p r : ℕ) : Type 0 where
  pub kind : kind_of r ≡ k
  pub number : number_of r ≡ n
  pub place : place_of r ≡ p

abbrev pub Unpacked : Verdict → ℕ → Type 0
Unpacked (verdict.Accepted n) = Parts 1 n 0
Unpacked (verdict.Missed t i) = Parts 2 t i
Unpacked verdict.Undecided = Parts 3 0 0
Unpacked (verdict.Refused n p) = Parts 4 n p

abbrev pub UnpackedSchedule : ScheduleReply → ℕ → Type 0
UnpackedSchedule schedule.Filled = Parts 5 0 0
UnpackedSchedule (schedule.Missed t i) = Parts 2 t i
UnpackedSchedule (schedule.Refused n p) = Parts 4 n p

abbrev pub UnpackedWrite : Result ℕ Refusal → ℕ → Type 0
UnpackedWrite (Ok n) = Parts 6 n 0
UnpackedWrite (Err f) = Parts 4 f.number f.place

-- HOW LARGE A REPLY IS: times are at most 2^48, the allowance that always decides, and no more is written; numbers of refusals are below
-- 32; places are lines of a text, or ids as they were read
abbrev pub SmallMiss : ℕ → ℕ → Type 0
SmallMiss t i = (t ≤ 2 ^ 48) × (i ≤ 255)

abbrev pub SmallRefusal : ℕ → ℕ → Type 0
SmallRefusal n p = (n < 32) × (p < 2 ^ 32)

abbrev pub Small : Verdict → Type 0
Small (verdict.Accepted n) = n ≤ 2 ^ 48
Small (verdict.Missed t i) = SmallMiss t i
Small verdict.Undecided = Unit
Small (verdict.Refused n p) = SmallRefusal n p

abbrev pub SmallSchedule : ScheduleReply → Type 0
SmallSchedule schedule.Filled = Unit
SmallSchedule (schedule.Missed t i) = SmallMiss t i
SmallSchedule (schedule.Refused n p) = SmallRefusal n p

abbrev pub SmallWrite : Result ℕ Refusal → Type 0
SmallWrite (Ok n) = n ≤ 2 ^ 48
SmallWrite (Err f) = SmallRefusal f.number f.place
