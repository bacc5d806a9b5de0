-- From the numbers that the checker is lent to the bytes that the host lends: what the checker says of the numbers holds of the bytes
-- that they are written over, where it accepts. `respond` uses it.
use mathlib.Core.Path.{◌≡◌, refl, sym, ap, ◌∙◌}
use mathlib.Core.Bool.{Bool, true, false}
use mathlib.Core.List.{List, ◌++◌}
use Prim.Native.Nat.{ℕ, ◌*◌, ◌/◌, ◌≤◌, ◌<◌, min}
use native.Mathlib.Omega.{arith}
use borrow.Author.Tests.{eq-eqb, le-ltb, lt-ltb, ltb-false}
use lib.Dec.{ltb}
use lib.ListN.{length, get_or, take, drop, length-append, length-drop}
use lib.Seq.{drop_at, get_or-take, length-take-le, take-append-le}
use Rattle.std.specs.Prelude.{Result, MatchResult}
use Rattle.rules.specs.declared.Refusal.{Refusal}
use Rattle.rules.specs.declared.RowsRead.{RowsRead}
use Rattle.rules.specs.declared.Verdict.{Verdict}
use Rattle.rules.specs.declared.Verdict.TheVariants as verdict
use Rattle.rules.specs.Sources.{Source, read_of, source_of}
use Rattle.rules.specs.Checks.{refusal_of, refusal_for, too_few}
use Rattle.rules.specs.Verdicts.{system_of, DecidesOf, Replies, Hold, Leaves, ResponsesAre}
use Rattle.basics.specs.Cases.{clash, eq_case, le_case}
use Rattle.reordering.specs.Canonical.{canonical_length}
use Rattle.reordering.specs.Alike.{read_alike}
use Rattle.reordering.specs.Passed.{passed, lent_none}
use Rattle.theory.proofs.Reordered.{responses_to}
use Rattle.boundary.specs.Bytes.{bytes_of}
use Rattle.boundary.specs.Crossing.{bytes_refusal, HoldBytes, RespondsTo}
use Rattle.boundary.proofs.Numbers.{bytes_length, bytes_at}
use Rattle.boundary.proofs.Bounds.{tasks_few, worst_low}

-- how many numbers are written, of so many rows: none but where it is accepted
abbrev pub held_of : Verdict → ℕ → ℕ
held_of (verdict.Accepted n) rows = rows
held_of (verdict.Missed t i) rows = 0
held_of verdict.Undecided rows = 0
held_of (verdict.Refused n q) rows = 0

-- any other reply leaves lent memory as it is
by_reply : {X : Type 0} (v : Verdict) {held rows : ℕ} → held ≡ held_of v rows → ((n : ℕ) → v ≡ verdict.Accepted n → held ≡ rows → X)
    → (((H : Type 0) (before : List ℕ) → Leaves H v before before) → held ≡ 0 → X) → X
by_reply (verdict.Accepted n) e f g = f n refl e
by_reply (verdict.Missed t i) e f g = g (λ H before. refl) e
by_reply verdict.Undecided e f g = g (λ H before. refl) e
by_reply (verdict.Refused n q) e f g = g (λ H before. refl) e

abbrev accepts : Verdict → Bool
accepts (verdict.Accepted n) = true
accepts (verdict.Missed t i) = false
accepts verdict.Undecided = false
accepts (verdict.Refused n q) = false

-- sixteen numbers are lent where there are 64 bytes for them, and only there
same_room : (n lent : ℕ) → lent ≡ min (n / 4) 16 → too_few lent ≡ ltb n 64
same_room n lent most = le_case 64 n
    (λ wide. let all : lent ≡ 16 = omega arith in rw (all, le-ltb n 64 wide) refl)
    (λ short. let few : lent < 16 = omega arith in rw (lt-ltb lent 16 few, lt-ltb n 64 short) refl)

-- WHAT THE CHECKER SAYS of the lent numbers, of what was read of a source
module _ (p a : ℕ) (s : Source) (before : List ℕ) (source : Result RowsRead Refusal) (read : source ≡ read_of s) (lent numbers : List ℕ)
    (most : length lent ≡ min (length before / 4) 16) (v : Verdict) (r : ResponsesAre p a (source_of source) lent numbers v) where
  are : ResponsesAre p a s lent numbers v
  are = responses_to (source_of (read_of s)) s (read_alike s) p a _ _ _ (rw read at r)

  right : Replies (bytes_refusal p (length before) s) (DecidesOf p a s) v
  right =
      let same : refusal_for p (too_few (length lent)) s ≡ bytes_refusal p (length before) s =
      rw (same_room (length before) (length lent) most) refl in
      rw same at are.reply

  module _ (rows : ℕ) (counted : MatchResult source (λ x. rows ≡ x.count) (λ f. rows ≡ 0)) where
    -- ACCEPTED: there is room for the rows, and what is stored crosses
    module _ (n : ℕ) (yes : v ≡ verdict.Accepted n) where
      fine : (ltb (length before) 64 ≡ false) × ((refusal_of s).number ≡ 0)
      fine = eq_case (bytes_refusal p (length before) s).number 0
          (lent_none p (ltb (length before) 64) s)
          (λ z. clash (ap accepts yes) (ap accepts (right.refused z)))

      count : rows ≡ length s.rows
      count = rw (read, eq-eqb s.refusal.number 0 (passed s fine.1).0) at counted

      numbers_hold : Hold (system_of p s) lent numbers
      numbers_hold = rw yes at are.buffer

      room_accepted : (rows ≤ length numbers) × (4 * rows ≤ length before)
      room_accepted =
          let wide = ltb-false (length before) 64 fine.0 in
          let few : rows ≤ 16 = omega (arith, count, tasks_few s fine.1, canonical_length s.rows) in
          let long : length numbers ≡ 16 = omega (arith, numbers_hold.length, most, wide) in
          (omega arith, omega arith)

      hold : HoldBytes (system_of p s) before (bytes_of (take rows numbers) ++ drop (4 * rows) before)
      hold =
          let room = room_accepted in
          let tasks : (system_of p s).tasks ≡ rows = canonical_length s.rows ∙ sym count in
          let size : length (take rows numbers) ≡ rows = length-take-le rows numbers room.0 in
          let bytes : length (bytes_of (take rows numbers)) ≡ 4 * rows = rw (bytes_length, size) refl in
          record {
            length = rw (length-append, bytes, length-drop) (omega (arith, room.1));
            worst = λ i low. let here = get_or-take rows numbers i 0 (omega arith) in (
              get_or numbers i 0,
              numbers_hold.worst i low,
              record {
                fits = omega (arith, worst_low s fine.1 p i (get_or numbers i 0) (numbers_hold.worst i low));
                bytes = bytes_at (take rows numbers) (drop (4 * rows) before) i (omega arith) ∙ rw here;
              },
            );
            rest = rw tasks (drop_at (bytes_of (take rows numbers)) (drop (4 * rows) before) (4 * rows) bytes);
          }

    -- OF SO MANY THAT ARE WRITTEN
    module _ (held : ℕ) (told : held ≡ held_of v rows) where
      room : (held ≤ length numbers) × (4 * held ≤ length before)
      room = by_reply v told (λ n yes e. rw e (room_accepted n yes)) (λ other e. (omega arith, omega arith))

      -- past the numbers that are lent there are more
      module _ (more : List ℕ) where
        front : take held (numbers ++ more) ≡ take held numbers
        front = take-append-le held numbers more room.0

        pub exact : length (take held (numbers ++ more)) ≡ held
        exact = rw front (length-take-le held numbers room.0)

        pub fits : held ≤ length (numbers ++ more)
        fits = rw length-append (omega (arith, room.0))

        pub stores : (after : List ℕ)
            → after ≡ bytes_of (take held (numbers ++ more)) ++ drop (4 * length (take held (numbers ++ more))) before
            → RespondsTo p a s before after v
        unfolding bytes_of
        stores after e = record {
          right = right;
          buffer = rw (e, exact, front)
              (by_reply v told (λ n yes all. rw all (rw yes (hold n yes))) (λ other none. rw none (other _ before)));
        }
