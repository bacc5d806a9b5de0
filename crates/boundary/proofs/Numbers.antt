-- Numbers as four bytes each: how many there are, and those of the first numbers and of the others. `little::write` uses it, and Held.
use mathlib.Core.Path.{◌≡◌, refl, sym, ap, ◌∙◌}
use mathlib.Core.List.{List, [], ◌∷◌, ◌++◌}
use Prim.Native.Nat.{ℕ, zero, suc, ◌+◌, ◌*◌, ◌<◌}
use native.Mathlib.Numerals.{add-one}
use native.Mathlib.Omega.{arith}
use lib.ListN.{length, get_or, take, drop}
use lib.Seq.{take-suc, drop-drop}
use Rattle.boundary.specs.Bytes.{four_of, bytes_of}

-- LENGTHS AND PARTS
pub bytes_length : (xs : List ℕ) → length (bytes_of xs) ≡ 4 * length xs
unfolding bytes_of
bytes_length [] = refl
bytes_length (x ∷ xs) = omega (arith, bytes_length xs)

bytes_append : (xs zs : List ℕ) → bytes_of (xs ++ zs) ≡ bytes_of xs ++ bytes_of zs
unfolding bytes_of
bytes_append [] zs = refl
bytes_append (x ∷ xs) zs = ap (λ (b : List ℕ). four_of x ++ b) (bytes_append xs zs)

pub bytes_at : (xs zs : List ℕ) (i : ℕ) → i < length xs → take 4 (drop (4 * i) (bytes_of xs ++ zs)) ≡ four_of (get_or xs i 0)
unfolding bytes_of
bytes_at [] zs i h = absurd (omega arith)
bytes_at (x ∷ xs) zs zero h = refl
bytes_at (x ∷ xs) zs (suc i) h = let e : 4 * suc i ≡ suc (suc (suc (suc (4 * i)))) = omega arith in rw e (bytes_at xs zs i (omega arith))

-- one number more
pub bytes_next : (xs : List ℕ) (i : ℕ) → i < length xs → bytes_of (take (i + 1) xs) ≡ bytes_of (take i xs) ++ four_of (get_or xs i 0)
unfolding bytes_of
bytes_next xs i h = rw (add-one i, take-suc xs i 0 h, bytes_append (take i xs) (get_or xs i 0 ∷ [])) refl

-- and what stays behind it
pub rest_next : (l before : List ℕ) (i : ℕ) → drop (4 * i) l ≡ drop (4 * i) before → drop (4 * (i + 1)) l ≡ drop (4 * (i + 1)) before
rest_next l before i e =
    let on : 4 * (i + 1) ≡ 4 * i + 4 = omega arith in
    rw on (sym (drop-drop 4 (4 * i) l) ∙ ap (drop 4) e ∙ drop-drop 4 (4 * i) before)
