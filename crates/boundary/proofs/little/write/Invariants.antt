-- The bytes of the numbers passed, and then the bytes as they were.
use Rattle.std.proofs.Common.{◌≡◌, ◌*◌, take, drop}
use Rattle.boundary.specs.Bytes.{bytes_of}
use Rattle.boundary.proofs.little.write.Given as goal

abbrev pub invariant-loop-i : goal.invariant-loop-i
invariant-loop-i l = (take (4 * l.i) l.bytes ≡ bytes_of (take l.i l.numbers)) × (drop (4 * l.i) l.bytes ≡ drop (4 * l.i) l.fn.bytes)
