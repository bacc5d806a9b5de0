-- Comparisons of keys repeat with any number of slots, under each of the four policies. This is all that the theory says of a
-- policy.
use Rattle.std.specs.Prelude.{◌↔◌, ℕ, zero, suc, ◌+◌, ◌≤◌}
use Rattle.std.proofs.Common.{arith}
use Rattle.rules.specs.declared.Row.{Row}
use Rattle.rules.specs.Policies.{Policy, fixed, shorter_period, shorter_deadline, earlier_deadline, policy}

abbrev pub Repeats : Policy → Type 0
Repeats k = (h : ℕ) (v w : Row) (r s : ℕ) → (k v r ≤ k w s) ↔ (k v (r + h) ≤ k w (s + h))

fixed_repeats : Repeats fixed
fixed_repeats h v w r s = (λ e. e, λ e. e)

shorter_period_repeats : Repeats shorter_period
shorter_period_repeats h v w r s = (λ e. e, λ e. e)

shorter_deadline_repeats : Repeats shorter_deadline
shorter_deadline_repeats h v w r s = (λ e. e, λ e. e)

earlier_deadline_repeats : Repeats earlier_deadline
earlier_deadline_repeats h v w r s = omega arith

pub policy_repeats : (n : ℕ) → Repeats (policy n)
policy_repeats zero = earlier_deadline_repeats
policy_repeats (suc zero) = fixed_repeats
policy_repeats (suc (suc zero)) = shorter_period_repeats
policy_repeats (suc (suc (suc zero))) = shorter_deadline_repeats
policy_repeats (suc (suc (suc (suc n)))) = earlier_deadline_repeats
