-- The three ends of a loop that goes from event to event and compares marks, for any system, any allowance a: what it has seen there is the
-- reply. No law here uses that jobs may be preempted at any slot, or that resume is at most start, or a bound on the slots needed.
use Rattle.std.specs.Prelude.{◌≡◌, refl, ◌≢◌, ℕ, suc, ◌+◌, ◌*◌, ◌≤◌, ◌<◌}
use Rattle.std.proofs.Common.{inl, inr, arith}
use Rattle.rules.specs.declared.Verdict.TheVariants.{Accepted, Missed, Undecided}
use Rattle.rules.specs.Policies.{System}
use Rattle.rules.specs.Slots.{stated}
use Rattle.rules.specs.Decided.{missed_at, Equal}
use Rattle.rules.specs.Verdicts.{missed_id, Decides}
use Rattle.basics.specs.Cases.{le_case}
use Rattle.theory.specs.Times.{Short, Turn}
use Rattle.theory.proofs.Repetition.{never_missed}

module _ (y : System) (o h a : ℕ) where
  -- at a miss
  pub end_missed : (t : ℕ) → t ≤ a → missed_at y (stated y) t ≢ 0 → ((v : ℕ) → v < t → missed_at y (stated y) v ≡ 0) → Decides y o h a (Missed t (missed_id y (stated y) t))
  end_missed t low misses clean = (record { misses = misses; before = clean }, low, refl)

  -- at the allowance: nothing was missed up to it, and no mark up to it had the state of the mark before
  pub end_through : ((v : ℕ) → v ≤ a → missed_at y (stated y) v ≡ 0) → ((i : ℕ) → o + suc i * h ≤ a → Equal y o h i → ⊥) → Decides y o h a Undecided
  end_through clean apart n (inl m) = le_case n a (λ k. absurd (m.misses (clean n k))) (λ k. k)
  end_through clean apart n (inr s) = le_case n a (λ k. absurd (apart s.k (omega (arith, s.number)) s.equal)) (λ k. k)

module _ (y : System) (short : Short y) (o h : ℕ) (turn : Turn y h) (pos : 0 < h) (offsets : (i : ℕ) → (y.row i).offset ≤ o) (a : ℕ) where
  -- at the first mark with the state of the mark before
  pub end_settled : (k : ℕ) → o + suc k * h ≤ a → Equal y o h k → ((i : ℕ) → i < k → Equal y o h i → ⊥)
      → ((v : ℕ) → v < o + suc k * h → missed_at y (stated y) v ≡ 0) → Decides y o h a (Accepted (o + suc k * h))
  end_settled k low equal least clean =
      let e : o + suc k * h ≡ o + k * h + h = omega arith in (
        record {
          never = never_missed y short h turn pos (o + k * h) (λ i. omega (arith, offsets i)) (rw e at equal) (rw e at clean);
          k = k;
          equal = equal;
          least = least;
          number = refl;
        },
        low,
      )
