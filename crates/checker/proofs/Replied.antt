-- From the table in hand to the reply to its source: what is decided of the table is decided of the source, and what responses leaves in
-- the lent numbers is what the rules say. `responses` uses it.
use mathlib.Core.Path.{◌≡◌}
use mathlib.Core.Bool.{Bool}
use mathlib.Core.List.{List, ◌++◌}
use Prim.Native.Nat.{ℕ, ◌≤◌, ◌<◌}
use native.Mathlib.Omega.{arith}
use lib.ListN.{length, take, drop, get_or-append, length-append, length-drop}
use lib.Seq.{length-take-le, get_or-take, drop_at}
use Rattle.rules.specs.declared.Table.{Table}
use Rattle.rules.specs.declared.Verdict.TheVariants.{Accepted}
use Rattle.rules.specs.Sources.{Source}
use Rattle.rules.specs.Checks.{refusal_for}
use Rattle.rules.specs.Verdicts.{system_of, DecidesOf, Replies, Hold, Leaves}
use Rattle.machine.specs.Machine.{system_in}
use Rattle.checker.specs.declared.decide.Outcome.{Outcome}
use Rattle.checker.specs.Outcomes.{Passes, Outcomes}

module _ {p a : ℕ} {unfit : Bool} {s : Source} {t : Table} (passes : Passes p unfit s t) {o : Outcome} (d : Outcomes p t a o) where
  pub decided : Replies (refusal_for p unfit s) (DecidesOf p a s) o.verdict
  decided = record {
    refused = λ x. absurd (x passes.none);
    decided = λ z. rw passes.tasks at d.decides;
  }

  -- THE LENT NUMBERS, where it is accepted: the worst responses of the rows stand in front
  module _ (before : List ℕ) (room : t.count ≤ length before) (full : length o.worst ≡ 16) (few : t.count ≤ 16) where
    hold : (n : ℕ) → o.verdict ≡ Accepted n → Hold (system_in p t) before (take t.count o.worst ++ drop t.count before)
    hold n v =
        let size : length (take t.count o.worst) ≡ t.count = length-take-le t.count o.worst (omega (arith, full)) in
        record {
          length = rw (length-append, size, length-drop) (omega arith);
          worst = λ i h.
              let low : i < t.count = omega (arith, passes.sound.count) in
              let front = get_or-append (take t.count o.worst) (drop t.count before) 0 i (omega (arith, size)) in
              rw (front, get_or-take t.count o.worst i 0 low) (d.worst n v i low);
          rest = rw passes.sound.count (drop_at (take t.count o.worst) (drop t.count before) t.count size);
        }

    pub accepted_leaves : {n : ℕ} → o.verdict ≡ Accepted n → {after : List ℕ} → after ≡ take t.count o.worst ++ drop t.count before
        → Leaves (Hold (system_of p s) before after) o.verdict before after
    accepted_leaves {n} v e = rw (v, e) (rw passes.tasks at (hold n v))
