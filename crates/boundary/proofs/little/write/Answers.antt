-- `little::write`: a turn puts the bytes of one number more, and at the end no number is left.
use Rattle.std.proofs.Common.{◌≡◌, refl, sym, ◌∙◌, ◌*◌, get_or, length, arith, take-append-drop}
use lib.Seq.{take-length}
use Rattle.std.proofs.lemmas.Slice.{take-put_mid, drop-put_mid}
use Rattle.boundary.specs.Bytes.{four_of, bytes_of}
use Rattle.boundary.proofs.Numbers.{bytes_next, rest_next}
use Rattle.boundary.proofs.little.write.Goals as goal

pub loop-i-init : goal.loop-i-init
unfolding bytes_of
loop-i-init c = (refl, refl)

pub loop-i-preserved : goal.loop-i-preserved
loop-i-preserved c =
    let four : length c.copy_from_slice.new.self ≡ 4 = omega arith in
    let bytes : c.copy_from_slice.new.self ≡ four_of (get_or c.args.numbers.now c.loop-i.i 0) =
    c.copy_from_slice.ensures.after ∙ c.four.ensures in (
      take-put_mid (4 * c.loop-i.i) _ c.loop-i.bytes _ _ (omega arith) (omega arith)
          ∙ rw (c.loop-i.invariant.0, bytes) (sym (bytes_next c.args.numbers.now c.loop-i.i c.loop-i-test.true)),
      drop-put_mid (4 * c.loop-i.i) _ c.loop-i.bytes _ _ (omega arith) (omega arith) (omega arith)
          ∙ rest_next c.loop-i.bytes c.args.bytes.now c.loop-i.i c.loop-i.invariant.1,
    )

pub returns : goal.returns
returns c =
    let all : c.loop-i.i ≡ length c.args.numbers.now = omega arith in
    sym (take-append-drop (4 * c.loop-i.i) c.loop-i.bytes) ∙ rw (c.loop-i.invariant.0, c.loop-i.invariant.1, all, take-length) refl
