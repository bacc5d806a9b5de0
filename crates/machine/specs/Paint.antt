-- What the functions that write bytes leave in a lent buffer. Means of proof.
use Rattle.std.specs.Prelude.{◌≡◌, ◌⊎◌, cond, List, ℕ, ◌+◌, ◌-◌, ◌*◌, ◌%◌, ◌≤◌, ◌<◌, eqb, ltb, get_or, length}
use Rattle.machine.specs.declared.paint.Kind.{Kind}
use Rattle.machine.specs.declared.paint.Kind.TheVariants.{Idle, Loading, Executing, Missed}

-- what a slot is, as its second byte says it: "0 idle .., 1 loading, 2 executing", and 3 from the miss on
abbrev pub byte_of : Kind → ℕ
byte_of Idle = 0
byte_of Loading = 1
byte_of Executing = 2
byte_of Missed = 3

-- slots from .. to are painted, as far as there is room: the two bytes of slot u are f u and g u. All other bytes stay
pub record Painted (f g : ℕ → ℕ) (from to : ℕ) (before after : List ℕ) : Type 0 where
  pub size : length after ≡ length before
  pub id : (u : ℕ) → from ≤ u → u < to → u * 2 + 1 < length before → get_or after (u * 2) 0 ≡ f u
  pub kind : (u : ℕ) → from ≤ u → u < to → u * 2 + 1 < length before → get_or after (u * 2 + 1) 0 ≡ g u
  pub stays : (x : ℕ) → (x < from * 2) ⊎ (to * 2 ≤ x) → get_or after x 0 ≡ get_or before x 0

-- the bytes of a stretch that starts at slot `from`: of the task at - 1 with this id, which loads first; idle where `at` is 0
abbrev pub stretch_id : ℕ → ℕ → ℕ → ℕ
stretch_id at id u = cond (eqb at 0) 0 (id % 256)

abbrev pub stretch_kind : ℕ → ℕ → ℕ → ℕ → ℕ
stretch_kind from at load u = cond (eqb at 0) 0 (cond (ltb (u - from) load) 1 2)
