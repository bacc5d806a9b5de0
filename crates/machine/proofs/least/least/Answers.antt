-- Rests on `least_more`, four times a turn.
use Rattle.std.proofs.Common.{◌≡◌, refl, ◌∙◌, List, [], ℕ, zero, suc, ◌+◌, ◌*◌, ◌/◌, ◌<◌, min, length, get_or, drop, arith}
use Rattle.std.proofs.Math.Seq.{get_or-take, get_or-drop}
use Rattle.std.specs.Simd.{first_chunks}
use Rattle.basics.specs.Lists.{any_default}
use Rattle.slots.specs.Jobs.{never}
use Rattle.machine.specs.Least.{Least}
use Rattle.machine.proofs.Minima.{least_more}
use Rattle.machine.proofs.least.least.Goals as goal

further : (m x y : ℕ) → min m (min x y) ≡ min (min m x) y
further m x y = omega arith

one_by_one : (m a b c d : ℕ) → min m (min (min a b) (min c d)) ≡ min (min (min (min m a) b) c) d
one_by_one m a b c d = rw (further m (min a b) (min c d), further m a b, further (min (min m a) b) c d)

-- four places more
four : (n : ℕ) (l : List ℕ) (m : ℕ) → Least n l m
    → Least (n + 4) l (min m (min (min (get_or l n never) (get_or l (n + 1) never)) (min (get_or l (n + 2) never) (get_or l (n + 3) never))))
four n l m h =
    let b : n + 1 ≡ suc n = omega arith in
    let c : n + 2 ≡ suc (suc n) = omega arith in
    let d : n + 3 ≡ suc (suc (suc n)) = omega arith in
    let e : n + 4 ≡ suc (suc (suc (suc n))) = omega arith in
    rw (one_by_one m (get_or l n never) (get_or l (n + 1) never) (get_or l (n + 2) never) (get_or l (n + 3) never), b, c, d, e)
    (least_more _ l _ (least_more _ l _ (least_more _ l _ (least_more n l m h))))

-- a place of a block
in_block : (k : ℕ) (l : List ℕ) (j i d : ℕ) → j < k → i < 4 → get_or (get_or (first_chunks 4 k l) j []) i d ≡ get_or l (4 * j + i) d
in_block zero l j i d h g = absurd (omega arith)
in_block (suc k) l zero i d h g = let e : 4 * 0 + i ≡ i = omega arith in rw e (get_or-take 4 l i d g)
in_block (suc k) l (suc j) i d h g =
    let e : 4 * suc j + i ≡ 4 + (4 * j + i) = omega arith in
    rw e (in_block k (drop 4 l) j i d (omega arith) g ∙ get_or-drop 4 l (4 * j + i) d)

-- as the code reads it
reads : (l : List ℕ) (blocks : List (List ℕ)) → blocks ≡ first_chunks 4 (length l / 4) l → (j i x : ℕ) → j < length l / 4 → i < 4 → x ≡ 4 * j + i
    → get_or (get_or blocks j []) i 0 ≡ get_or l x never
reads l blocks e j i x h g q = rw (e, q) (in_block (length l / 4) l j i 0 h g ∙ any_default l (4 * j + i) 0 never (omega arith))

pub loop-four-preserved : goal.loop-four-preserved
loop-four-preserved c =
    let at = c.loop-four in
    let a = c.args.a.now in
    let turn : 4 * (at.four-index + 1) ≡ 4 * at.four-index + 4 = omega arith in
    let low : at.four-index < length a / 4 = omega (arith, c.loop-four-test.true, c.as_chunks.ensures.front_len) in
    let read = reads a _ c.as_chunks.ensures.front at.four-index in
    let first = read 0 (4 * at.four-index) low (omega arith) (omega arith) in
    let second = read 1 _ low (omega arith) refl in
    let third = read 2 _ low (omega arith) refl in
    let fourth = read 3 _ low (omega arith) refl in
    rw (turn, c.min-m.ensures, c.min.ensures, c.min-y.ensures, c.min-x.ensures, first, second, third, fourth)
    (four (4 * at.four-index) a at.m at.invariant)
