-- The lines of the first policies, one after the other: none at the start, one more with each turn of the loop, and four at its end.
-- `report` uses it.
use mathlib.Core.Path.{◌≡◌, refl, sym, ◌∙◌}
use mathlib.Core.List.{List, [], ◌++◌, append_assoc}
use Prim.Native.Nat.{ℕ, zero, suc, ◌+◌, ◌-◌, ◌≤◌}
use native.Mathlib.Omega.{arith}
use lib.ListN.{length, drop}
use Rattle.report.specs.Reports.{Line, FourLines, Puts}

-- the lines of the first n policies
abbrev pub Laid : List ℕ → ℕ → List ℕ → Type 0
Laid text zero bytes = bytes ≡ []
Laid text (suc n) bytes = (before : List ℕ) × (line : List ℕ) × Laid text n before × Line (suc n) text line × (bytes ≡ before ++ line)

pub one_more : (text : List ℕ) (policy n : ℕ) (before line : List ℕ) {after : List ℕ} → policy ≡ suc n → Laid text n before
    → Line policy text line
    → after ≡ before ++ line → Laid text (policy + 1 - 1) after
one_more text policy n before line e l k put =
    let on : policy + 1 - 1 ≡ suc n = omega arith in rw on (before, line, l, rw e at k, put)

pub four : (text bytes : List ℕ) → Laid text 4 bytes → FourLines text bytes
four text bytes l =
    let m = l.2 in
    let n = m.2 in
    let o = n.2 in
    record {
      one = o.1;
      two = n.1;
      three = m.1;
      four = l.1;
      fixed = o.3;
      period = n.3;
      deadline = m.3;
      earliest = l.3;
      together = l.4 ∙ rw (m.4, n.4, o.4, o.2, append_assoc (o.1 ++ n.1) m.1 l.1, append_assoc o.1 n.1 (m.1 ++ l.1)) refl;
    }

-- bytes at the front of others
pub at_front : (word before after : List ℕ) → length word ≤ length before → after ≡ word ++ drop (length word) before
    → Puts 0 word before after (length word)
at_front word before after fits e =
    let none : 0 + length word ≡ length word = omega arith in
    record { end = sym none; fits = rw none fits; bytes = rw none e }
