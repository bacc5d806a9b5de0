-- The library's decimal digits are as few as hold the number. `put_number` uses it.
use mathlib.Core.Path.{◌≡◌, sym, ap, ◌∙◌}
use Prim.Native.Nat.{ℕ, suc, ◌-◌, ◌^◌, ◌≤◌}
use native.Mathlib.Nat.{pow-le-pow_right}
use native.Mathlib.Omega.{arith}
use borrow.Author.Tests.{lt-ltb, le-ltb}
use lib.Dec.{ltb}
use Rattle.basics.specs.Search.{lowest_is}
use Rattle.io.specs.Digits.{last_digits, IsDigitCount}
use Rattle.report.specs.Lines.{places, decimal}

places_are : (n k : ℕ) → IsDigitCount 10 1 n k → k ≤ 20 → places n ≡ k
places_are n k f h =
    let e : suc (k - 1) ≡ k = omega (arith, f.0) in
    ap suc (lowest_is (λ i. ltb n (10 ^ suc i)) 20 (k - 1) (omega (arith, f.0)) (lt-ltb n (10 ^ suc (k - 1)) (rw e f.1))
    (λ i low. le-ltb n (10 ^ suc i)
    (omega (arith, f.2 (omega arith), pow-le-pow_right {n = 10} (omega arith) {i = suc i} {j = k - 1} (omega arith)))))
    ∙ e

pub decimal_is : (n k : ℕ) → IsDigitCount 10 1 n k → k ≤ 20 → last_digits 10 k n ≡ decimal n
unfolding decimal
decimal_is n k f h = ap (λ (x : ℕ). last_digits 10 x n) (sym (places_are n k f h))
