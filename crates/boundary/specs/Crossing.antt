-- What crosses to the host: document 01, "The host program is written in C and calls the checker with numbers and byte slices", of
-- whatever was read. Definitions.
use Rattle.std.specs.Prelude.{◌≡◌, List, ℕ, ◌*◌, ◌^◌, ◌<◌, ltb, length, take, drop, Result}
use Rattle.rules.specs.declared.Refusal.{Refusal}
use Rattle.rules.specs.declared.Verdict.{Verdict}
use Rattle.rules.specs.declared.ScheduleReply.{ScheduleReply}
use Rattle.rules.specs.Sources.{Source}
use Rattle.rules.specs.Checks.{refusal_for}
use Rattle.rules.specs.Policies.{System}
use Rattle.rules.specs.Verdicts.{system_of, DecidesOf, Replies, VerdictIs, Worst, Leaves}
use Rattle.rules.specs.Schedules.{ScheduleIs, AsRunIs}
use Rattle.rules.specs.Written.{IdsAre}
use Rattle.boundary.specs.Packed.{packed, packed_schedule, packed_write}
use Rattle.boundary.specs.Bytes.{four_of}

-- VERDICT: r is the number of a reply that the rules give
pub record VerdictCrosses (p a : ℕ) (s : Source) (r : ℕ) : Type 0 where
  pub reply : Verdict
  pub right : VerdictIs p a s reply
  pub crosses : r ≡ packed reply

-- RESPONSES: "responses cross as four little-endian bytes each, so there refusal 2 means fewer than 64 bytes"
abbrev pub bytes_refusal : ℕ → ℕ → Source → Refusal
bytes_refusal p n s = refusal_for p (ltb n 64) s

-- the four bytes from the place k on are those of m
pub record Four (m k : ℕ) (bs : List ℕ) : Type 0 where
  pub fits : m < 2 ^ 32
  pub bytes : take 4 (drop k bs) ≡ four_of m

-- "the lent numbers hold, in ascending id, the largest of (completion − release) ..; entries past the last row stay", "and bytes
-- past the 64th stay"
pub record HoldBytes (y : System) (before after : List ℕ) : Type 0 where
  pub length : length after ≡ length before
  pub worst : (i : ℕ) → i < y.tasks → (m : ℕ) × Worst y i m × Four m (4 * i) after
  pub rest : drop (4 * y.tasks) after ≡ drop (4 * y.tasks) before

-- the reply, and what it leaves in the lent bytes
pub record RespondsTo (p a : ℕ) (s : Source) (before after : List ℕ) (reply : Verdict) : Type 0 where
  pub right : Replies (bytes_refusal p (length before) s) (DecidesOf p a s) reply
  pub buffer : Leaves (HoldBytes (system_of p s) before after) reply before after

pub record ResponsesCross (p a : ℕ) (s : Source) (before after : List ℕ) (r : ℕ) : Type 0 where
  pub reply : Verdict
  pub right : Replies (bytes_refusal p (length before) s) (DecidesOf p a s) reply
  pub buffer : Leaves (HoldBytes (system_of p s) before after) reply before after
  pub crosses : r ≡ packed reply

-- SCHEDULE and AS RUN: the bytes are those of the rules
pub record ScheduleCrosses (p : ℕ) (s : Source) (before after : List ℕ) (r : ℕ) : Type 0 where
  pub reply : ScheduleReply
  pub right : ScheduleIs p s before after reply
  pub crosses : r ≡ packed_schedule reply

pub record AsRunCrosses (p : ℕ) (s : Source) (xs zs before after : List ℕ) (r : ℕ) : Type 0 where
  pub reply : ScheduleReply
  pub right : AsRunIs p s xs zs before after reply
  pub crosses : r ≡ packed_schedule reply

-- IDS: likewise
pub record IdsCross (s : Source) (before after : List ℕ) (r : ℕ) : Type 0 where
  pub reply : Result ℕ Refusal
  pub right : IdsAre s before after reply
  pub crosses : r ≡ packed_write reply
