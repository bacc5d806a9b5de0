-- A field at the front of a text: its digits, the quotes around them and what stands behind. The laws by which run, field and reach are
-- proved.
use mathlib.Core.Path.{◌≡◌, refl, sym, ap, ◌∙◌}
use mathlib.Core.Bool.{true, false, cond}
use mathlib.Core.List.{List, [], ◌∷◌}
use Prim.Native.Nat.{ℕ, ◌+◌, ◌-◌, ◌≤◌, ◌<◌}
use native.Mathlib.Numerals.{add-one}
use native.Mathlib.Omega.{arith}
use lib.ListN.{length, take, drop, get_or, length-drop, drop_of_length-le}
use lib.Seq.{drop-cons, take_all}
use denote.Ref.{Bor}
use Rattle.std.proofs.Common.{Option, None, Some, rules}
use Rattle.std.specs.Char.{is_ascii_digit}
use Rattle.std.specs.Option.{unwrap_or}
use Rattle.rules.specs.Text.{is_digit, digits, past, opens, inner, shaped}
use Rattle.table_csv.specs.Reader.{rest_of, stop, ending_at}
use Rattle.basics.specs.Cases.{test}

same_digits : (b : ℕ) → is_ascii_digit b ≡ is_digit b
same_digits b = search rules

-- the digits from a byte on: none, or that one and those behind it
module _ (s : List ℕ) (i : ℕ) where
  pub digits_none : i < length s → is_ascii_digit (get_or s i 0) ≡ false → length (digits (drop i s)) ≡ 0
  unfolding digits
  digits_none h e = rw (drop-cons s i 0 h, sym (same_digits (get_or s i 0)) ∙ e)

  pub digits_more : i < length s → is_ascii_digit (get_or s i 0) ≡ true → length (digits (drop i s)) ≡ 1 + length (digits (drop (i + 1) s))
  unfolding digits
  digits_more h e = rw (add-one, drop-cons s i 0 h, sym (same_digits (get_or s i 0)) ∙ e) (omega arith)

  pub digits_end : length s ≤ i → length (digits (drop i s)) ≡ 0
  unfolding digits
  digits_end h = rw (drop_of_length-le s h)

pub digits_take : (s : List ℕ) → take (length (digits s)) s ≡ digits s
unfolding digits
digits_take [] = refl
digits_take (b ∷ s) = test (is_digit b) (λ e. rw e (ap (λ l. b ∷ l) (digits_take s))) (λ e. rw e)

pub digits_le : (s : List ℕ) → length (digits s) ≤ length s
unfolding digits
digits_le [] = omega arith
digits_le (b ∷ s) = test (is_digit b) (λ e. rw e (omega (arith, digits_le s))) (λ e. rw e (omega arith))

digits_past : (s : List ℕ) → drop (length (digits s)) s ≡ past s
unfolding digits past
digits_past [] = refl
digits_past (b ∷ s) = test (is_digit b) (λ e. rw e (digits_past s)) (λ e. rw e)

-- a part from a place to the end
part_rest : (a : ℕ) (s : List ℕ) → take (length s - a) (drop a s) ≡ drop a s
part_rest a s = take_all (length s - a) (drop a s) (omega (arith, length-drop a s))

-- what the test for a quote at the front of s has found
abbrev pub Peeled : List ℕ → Option (Bor (List ℕ)) → Type 0
Peeled s r = rest_of r ≡ cond (opens s) (Some (drop 1 s)) None

peeled_some : (s : List ℕ) (x : Bor (List ℕ)) → Peeled s (Some x) → (opens s ≡ true) × (x.now ≡ drop 1 s)
peeled_some s x e = test (opens s)
    (λ f. let g : Some x.now ≡ Some (drop 1 s) = e ∙ rw f in (f, cc))
    (λ f. let g : Some x.now ≡ None = e ∙ rw f in cc)

peeled_none : (s : List ℕ) → Peeled s None → opens s ≡ false
peeled_none s e = test (opens s) (λ f. let g : None ≡ Some (drop 1 s) = e ∙ rw f in cc) (λ f. f)

pub without_quote : (t : Bor (List ℕ)) (r : Option (Bor (List ℕ))) → Peeled t.now r → (unwrap_or r t).now ≡ inner t.now
without_quote t None e = rw (peeled_none t.now e)
without_quote t (Some x) e = let p = peeled_some t.now x e in rw (p.0) p.1

-- what stands in t behind as many bytes as d has
abbrev pub past_d : List ℕ → List ℕ → List ℕ
past_d t d = take (length t - length d) (drop (length d) t)

-- the field at the front of s, whose digits are d
module _ (s d : List ℕ) (ed : d ≡ digits (inner s)) where
  pub ends_shape : shaped d ≡ false → None ≡ ending_at s
  unfolding ending_at
  ends_shape e = rw (ap shaped (sym ed) ∙ e)

  module _ (x : Bor (List ℕ)) (p : Peeled s (Some x)) where
    pub room_quoted : length d ≤ length x.now
    room_quoted = let q = peeled_some s x p in rw (ed, q.1, q.0) (digits_le (drop 1 s))

    rest_quoted : past_d x.now d ≡ past (drop 1 s)
    rest_quoted = let q = peeled_some s x p in part_rest (length d) x.now ∙ rw (ed, q.1, q.0) (digits_past (drop 1 s))

    module _ (sh : shaped d ≡ true) where
      shape_quoted : shaped (digits (drop 1 s)) ≡ true
      shape_quoted = let d' : d ≡ digits (drop 1 s) = ed ∙ rw (peeled_some s x p).0 in ap shaped (sym d') ∙ sh

      pub ends_open : Peeled (past_d x.now d) None → None ≡ ending_at s
      unfolding ending_at
      ends_open e =
          let o : opens (past (drop 1 s)) ≡ false = ap opens (sym rest_quoted) ∙ peeled_none (past_d x.now d) e in
          rw ((peeled_some s x p).0, shape_quoted, o)

      pub ends_closed : (y : Bor (List ℕ)) → Peeled (past_d x.now d) (Some y) → stop y.now ≡ ending_at s
      unfolding ending_at
      ends_closed y e =
          let z = peeled_some (past_d x.now d) y e in
          let o : opens (past (drop 1 s)) ≡ true = ap opens (sym rest_quoted) ∙ z.0 in
          rw ((peeled_some s x p).0, shape_quoted, o) (ap stop (z.1 ∙ ap (drop 1) rest_quoted))

  module _ (p : Peeled s None) where
    pub room_bare : length d ≤ length s
    room_bare = rw (ed, peeled_none s p) (digits_le s)

    pub ends_bare : shaped d ≡ true → stop (past_d s d) ≡ ending_at s
    unfolding ending_at
    ends_bare sh =
        let q = peeled_none s p in
        let d' : d ≡ digits s = ed ∙ rw q in
        let rest : past_d s d ≡ past s = part_rest (length d) s ∙ rw d' (digits_past s) in
        rw (q, ap shaped (sym d') ∙ sh) (ap stop rest)
