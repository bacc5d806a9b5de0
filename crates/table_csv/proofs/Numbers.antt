-- The number that digits write, read from the left, and why five digits fit 32 bits. For number_of.
use Rattle.std.proofs.Common.{◌≡◌, ℕ, ◌+◌, ◌*◌, ◌-◌, ◌^◌, ◌≤◌, ◌<◌, List, length, drop, get_or, add-one, arith}
use native.Mathlib.Nat.{pow-suc}
use lib.ListN.{drop_of_length-le}
use lib.Seq.{drop-cons}
use Rattle.rules.specs.Text.{number}

pub number_cons : (s : List ℕ) (a i : ℕ) → i < length s → number a (drop i s) ≡ number (a * 10 + (get_or s i 0 - 48)) (drop (i + 1) s)
unfolding number
number_cons s a i h = rw (add-one, drop-cons s i 0)

pub number_end : (s : List ℕ) (a i : ℕ) → length s ≤ i → number a (drop i s) ≡ a
unfolding number
number_end s a i h = rw (drop_of_length-le s h)

-- a byte less 48 is at most 207
pub bound_step : (a x i : ℕ) → x ≤ 207 → a + 23 ≤ 23 * 10 ^ i → a * 10 + x + 23 ≤ 23 * 10 ^ (i + 1)
bound_step a x i h k = rw (add-one i, pow-suc 10 i) (omega arith)
