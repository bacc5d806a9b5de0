-- A read into a part of a buffer puts what it takes from the reader behind what was taken before.
use Rattle.std.proofs.Common.{◌≡◌, ℕ, ◌+◌, ◌≤◌, List, ◌++◌, take, length, sym, ap, ◌∙◌, subst, length-take-le}
use Rattle.std.specs.declared.option.Option.{Option}
use Rattle.std.specs.Io.KnownBytes.{Consumes}
use Rattle.std.proofs.KnownBytes.{Consumes-trans}
use borrow.Rule.Slice.PartMut.{put_mid, post_of}
use lib.Seq.{take-append-le, take-append-add}

-- the first a of xs, where ys was put from a on, and the first n of ys
take-put : (a k n : ℕ) (xs ys : List ℕ) → a ≤ length xs → n ≤ length ys → take (a + n) (put_mid a k xs ys) ≡ take a xs ++ take n ys
take-put a k n xs ys within fits =
    let behind = post_of a k xs in
    ap (λ m. take (m + n) (take a xs ++ (ys ++ behind))) (sym (length-take-le a xs within))
    ∙ take-append-add (take a xs) (ys ++ behind) n
    ∙ ap (λ l. take a xs ++ l) (take-append-le n ys behind fits)

pub taken_more : (old mid new : Option (List ℕ)) (a k n : ℕ) (xs ys : List ℕ) → a ≤ length xs → n ≤ length ys
    → Consumes old mid (take a xs) → Consumes mid new (take n ys) → Consumes old new (take (a + n) (put_mid a k xs ys))
taken_more old mid new a k n xs ys within fits before read =
    subst (Consumes old new) (sym (take-put a k n xs ys within fits)) (Consumes-trans old mid new (take a xs) (take n ys) before read)
