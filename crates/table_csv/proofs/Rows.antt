-- A line read field by field gives the line's fields. `first` and `cut` cut the first field off a text; every test of a field
-- (`opens`, `inner`, `closed`, `behind`, `good`) says the same of `first s` as of the text s itself, so the reader needs no cut of
-- its own (`good_first`); from there `fields_good` and `fields_values` go by the number of fields. The section at the end is the
-- loop of read_row.
use mathlib.Core.Path.{◌≡◌, refl, sym, ap, ◌∙◌}
use mathlib.Core.Bool.{Bool, true, false, cond, ◌&&◌, not, and-true, and-false}
use mathlib.Core.List.{List, [], ◌∷◌, ◌++◌, map, append-nil, append_assoc}
use Prim.Native.Nat.{ℕ, zero, suc, ◌+◌, ◌-◌, ◌≤◌, ◌<◌}
use native.Mathlib.Numerals.{add-one}
use native.Mathlib.Omega.{arith}
use lib.Dec.{eqb, leb, eqb-suc-zero, eqb-suc-suc}
use lib.ListN.{length, take, drop, get_or, set, length-set}
use lib.Seq.{take-suc-set, take_all}
use borrow.Author.Tests.{ne_eqb, eqb-true, leb-true}
use Rattle.std.proofs.Common.{Option, Some, None, is_some}
use Rattle.rules.specs.Text.{nil, breaks, fields, is_digit, digits, past, opens, inner, behind, closed, shaped, good, value, all, row_from}
use Rattle.table_csv.specs.Reader.{line, after, stop, ending_at, is_comma, fits, row_at}
use Rattle.table_csv.specs.declared.Ending.{Ending}
use Rattle.table_csv.specs.declared.Ending.TheVariants.{Comma, LineEnd, TextEnd}
use Rattle.basics.specs.Cases.{test, clash, both_true}

-- the first field of the first line
unfoldable first : List ℕ → List ℕ
first [] = []
first (b ∷ s) = cond (eqb b 44) [] (cond (breaks (b ∷ s)) [] (b ∷ first s))

-- what ends it, and what follows its comma or CR LF
unfoldable pub cut : List ℕ → Ending × List ℕ
cut [] = (TextEnd, [])
cut (b ∷ s) = cond (eqb b 44) (Comma, s) (cond (breaks (b ∷ s)) (LineEnd, drop 1 s) (cut s))

-- a field that is read so, and that n more are to follow
abbrev pub ends_so : Option (Ending × List ℕ) → ℕ → Bool
ends_so None n = false
ends_so (Some p) n = fits p.0 n

-- n fields read from here on: whether each is well-formed and ends as it should, their values, and what follows them
unfoldable pub good_from : ℕ → List ℕ → Bool
good_from zero s = true
good_from (suc n) s = cond (ends_so (ending_at s) n) (good_from n (cut s).1) false

unfoldable pub values_from : ℕ → List ℕ → List ℕ
values_from zero s = []
values_from (suc n) s = value s ∷ values_from n (cut s).1

unfoldable pub rest_from : ℕ → List ℕ → List ℕ
rest_from zero s = s
rest_from (suc n) s = rest_from n (cut s).1

-- no CR LF where the byte is no CR
no_break : (b : ℕ) (s : List ℕ) → eqb b 13 ≡ false → breaks (b ∷ s) ≡ false
no_break b s e = test (eqb (get_or s 0 0) 10) (λ f. rw (f, e)) (λ f. rw f)

pub is_cr : (b : ℕ) (s : List ℕ) → breaks (b ∷ s) ≡ true → b ≡ 13
is_cr b s e = eqb-true b 13 (both_true (eqb (get_or s 0 0) 10) (eqb b 13) e).1

pub comma_breaks : (b : ℕ) (s : List ℕ) → eqb b 44 ≡ true → breaks (b ∷ s) ≡ false
comma_breaks b s e = no_break b s (ne_eqb b 13 (λ f. omega (arith, eqb-true b 44 e)))

fields_first : (s : List ℕ) → fields (line s) ≡ first s ∷ cond (is_comma (cut s).0) (fields (line (cut s).1)) []
unfolding fields line first cut
fields_first [] = refl
fields_first (b ∷ s) = test (eqb b 44)
    (λ e. rw (comma_breaks b s e, e))
    (λ e. test (breaks (b ∷ s)) (λ f. rw (e, f)) (λ f. rw (f, e, fields_first s)))

after_first : (s : List ℕ) → after s ≡ cond (is_comma (cut s).0) (after (cut s).1) (cut s).1
unfolding after cut
after_first [] = refl
after_first (b ∷ s) = test (eqb b 44)
    (λ e. rw (comma_breaks b s e, e))
    (λ e. test (breaks (b ∷ s)) (λ f. rw (e, f)) (λ f. rw (e, f) (after_first s)))

-- bytes that end no field are passed over
digit_comma : (b : ℕ) → is_digit b ≡ true → eqb b 44 ≡ false
digit_comma b e = ne_eqb b 44 (λ f. go f e)
  where
    go : b ≡ 44 → is_digit b ≡ true → ⊥
    go f e = let g : is_digit 44 ≡ true = rw f at e in clash g refl

digit_break : (b : ℕ) (s : List ℕ) → is_digit b ≡ true → breaks (b ∷ s) ≡ false
digit_break b s e = no_break b s (ne_eqb b 13 (λ f. go f e))
  where
    go : b ≡ 13 → is_digit b ≡ true → ⊥
    go f e = let g : is_digit 13 ≡ true = rw f at e in clash g refl

digits_first : (s : List ℕ) → digits (first s) ≡ digits s
unfolding digits first
digits_first [] = refl
digits_first (b ∷ s) = test (is_digit b)
    (λ e. rw (digit_comma b e, digit_break b s e, e, digits_first s))
    (λ e. test (eqb b 44) (λ f. rw (f, e)) (λ f. test (breaks (b ∷ s)) (λ g. rw (f, g, e)) (λ g. rw (f, g, e))))

past_first : (s : List ℕ) → past (first s) ≡ first (past s)
unfolding past first
past_first [] = refl
past_first (b ∷ s) = test (is_digit b)
    (λ e. rw (digit_comma b e, digit_break b s e, e) (past_first s))
    (λ e. test (eqb b 44) (λ f. rw (f, e, f)) (λ f. test (breaks (b ∷ s)) (λ g. rw (f, g, e, f, g)) (λ g. rw (f, g, e, f, g))))

past_cut : (s : List ℕ) → cut (past s) ≡ cut s
unfolding past cut
past_cut [] = refl
past_cut (b ∷ s) = test (is_digit b)
    (λ e. rw (e, digit_comma b e, digit_break b s e) (past_cut s))
    (λ e. rw e)

-- a quote at the front
module _ (b : ℕ) (s : List ℕ) (e : b ≡ 34) where
  quote_comma : eqb b 44 ≡ false
  quote_comma = ne_eqb b 44 (λ f. omega arith)

  quote_break : breaks (b ∷ s) ≡ false
  quote_break = no_break b s (ne_eqb b 13 (λ f. omega arith))

quote_first : (s : List ℕ) → opens s ≡ true → drop 1 (first s) ≡ first (drop 1 s)
unfolding first
quote_first [] e = clash e refl
quote_first (b ∷ s) e = let f : b ≡ 34 = eqb-true b 34 e in rw (quote_comma b s f, quote_break b s f)

quote_cut : (s : List ℕ) → opens s ≡ true → cut (drop 1 s) ≡ cut s
unfolding cut
quote_cut [] e = clash e refl
quote_cut (b ∷ s) e = let f : b ≡ 34 = eqb-true b 34 e in rw (quote_comma b s f, quote_break b s f)

opens_first : (s : List ℕ) → opens (first s) ≡ opens s
unfolding first
opens_first [] = refl
opens_first (b ∷ s) = test (eqb b 44)
    (λ e. rw e (sym (ne_eqb b 34 (λ f. omega (arith, eqb-true b 44 e)))))
    (λ e. test (breaks (b ∷ s)) (λ f. rw (e, f) (sym (ne_eqb b 34 (λ g. omega (arith, is_cr b s f))))) (λ f. rw (e, f)))

inner_first : (s : List ℕ) → inner (first s) ≡ first (inner s)
inner_first s = test (opens s) (λ e. rw (opens_first s, e) (quote_first s e)) (λ e. rw (opens_first s, e))

closed_first : (s : List ℕ) → closed (first s) ≡ closed s
closed_first s = test (opens s)
    (λ e. rw (opens_first s, e, quote_first s e, past_first (drop 1 s)) (opens_first (past (drop 1 s))))
    (λ e. rw (opens_first s, e))

behind_first : (s : List ℕ) → closed s ≡ true → behind (first s) ≡ first (behind s)
behind_first s h = test (opens s)
    (λ e. rw (opens_first s, e, quote_first s e, past_first (drop 1 s)) (quote_first (past (drop 1 s)) (rw e at h)))
    (λ e. rw (opens_first s, e) (past_first s))

nil_first : (s : List ℕ) → nil (first s) ≡ is_some (stop s)
unfolding first
nil_first [] = refl
nil_first (b ∷ s) = test (eqb b 44)
    (λ e. rw e)
    (λ e. test (breaks (b ∷ s)) (λ f. rw (e, f)) (λ f. rw (e, f)))

-- the field at the front is well-formed where the reader says so
good_first : (s : List ℕ) → good (first s) ≡ is_some (ending_at s)
unfolding ending_at
good_first s = test (closed s)
    (λ e. rw (closed_first s, e, behind_first s e, nil_first (behind s))
    (go (shaped (digits (inner (first s)))) (shaped (digits (inner s))) (stop (behind s)) same))
    (λ e. rw (closed_first s, e) (none (shaped (digits (inner s)))))
  where
    same : shaped (digits (inner (first s))) ≡ shaped (digits (inner s))
    same = ap shaped (ap digits (inner_first s) ∙ digits_first (inner s))

    go : (a b : Bool) (o : Option (Ending × List ℕ)) → a ≡ b → (is_some o && a) ≡ is_some (cond b o None)
    go a true o e = rw e (and-true (is_some o))
    go a false o e = rw e (and-false (is_some o))

    none : (b : Bool) → false ≡ is_some {T = Ending × List ℕ} (cond b None None)
    none true = refl
    none false = refl

value_first : (s : List ℕ) → value (first s) ≡ value s
value_first s = rw (inner_first s, digits_first (inner s))

-- where a field ends, and what follows
stop_cut : (s : List ℕ) (p : Ending × List ℕ) → stop s ≡ Some p → cut s ≡ p
unfolding cut
stop_cut [] p h = cc
stop_cut (b ∷ s) p h = test (eqb b 44)
    (λ e. let g : Some (Comma, s) ≡ Some p = rw e at h in rw e cc)
    (λ e. test (breaks (b ∷ s))
    (λ f. let g : Some (LineEnd, drop 1 s) ≡ Some p = rw (e, f) at h in rw (e, f) cc)
    (λ f. let g : None ≡ Some p = rw (e, f) at h in cc))

inner_cut : (s : List ℕ) → cut (inner s) ≡ cut s
inner_cut s = test (opens s) (λ e. rw e (quote_cut s e)) (λ e. rw e)

behind_cut : (s : List ℕ) → closed s ≡ true → cut (behind s) ≡ cut (past (inner s))
behind_cut s h = test (opens s) (λ e. rw e (quote_cut (past (drop 1 s)) (rw e at h))) (λ e. rw e)

shaped_short : (ds : List ℕ) → shaped ds ≡ true → length ds ≤ 5
shaped_short ds h =
    let last = cond (eqb (length ds) 1) true (not (eqb (get_or ds 0 0) 48)) in
    let two = both_true (leb 1 (length ds)) (leb (length ds) 5 && last) h in
    leb-true (length ds) 5 (both_true (leb (length ds) 5) last two.1).0

module _ (s : List ℕ) (p : Ending × List ℕ) (h : ending_at s ≡ Some p) where
  has_shape : shaped (digits (inner s)) ≡ true
  unfolding ending_at
  has_shape = test (shaped (digits (inner s))) (λ e. e) (λ e. let g : None ≡ Some p = rw e at h in cc)

  has_close : closed s ≡ true
  unfolding ending_at
  has_close = test (closed s) (λ e. e) (λ e. let g : None ≡ Some p = rw (has_shape, e) at h in cc)

  has_stop : stop (behind s) ≡ Some p
  unfolding ending_at
  has_stop = rw (has_shape, has_close) at h

  pub ending_short : length (digits (inner s)) ≤ 5
  ending_short = shaped_short (digits (inner s)) has_shape

  pub ending_cut : cut s ≡ p
  ending_cut = sym (inner_cut s) ∙ sym (past_cut (inner s)) ∙ sym (behind_cut s has_close) ∙ stop_cut (behind s) p has_stop

-- n + 1 fields read one after the other are the line's fields
line_fields : (s : List ℕ) → 1 ≤ length (fields (line s))
line_fields s = omega (arith, ap length (fields_first s))

-- whether the line at the front of t has n fields, each well-formed
abbrev line_good : ℕ → List ℕ → Bool
line_good n t = eqb (length (fields (line t))) n && all good (fields (line t))

module _ (t : List ℕ) where
  -- behind a comma
  fields_more : (n : ℕ) → ((m : ℕ) → n ≡ suc m → line_good (suc m) t ≡ good_from (suc m) t)
      → (eqb (suc (length (fields (line t)))) (suc n) && all good (fields (line t))) ≡ cond (fits Comma n) (good_from n t) false
  fields_more zero f = rw (ne_eqb (suc (length (fields (line t)))) 1 (λ e. omega (arith, line_fields t)))
  fields_more (suc m) f = rw (eqb-suc-suc (length (fields (line t))) (suc m), eqb-suc-zero m) (f m refl)

  -- behind the line's last field
  fields_last : (n : ℕ) → (eqb 1 (suc n) && true) ≡ cond (cond (eqb n 0) true false) (good_from n t) false
  unfolding good_from
  fields_last zero = refl
  fields_last (suc m) = rw (ne_eqb 1 (suc (suc m)) (λ e. omega arith), eqb-suc-zero m)

  fields_go : (n : ℕ) (e : Ending) → ((m : ℕ) → n ≡ suc m → line_good (suc m) t ≡ good_from (suc m) t)
      → (eqb (suc (length (cond (is_comma e) (fields (line t)) []))) (suc n) && all good (cond (is_comma e) (fields (line t)) []))
      ≡ cond (fits e n) (good_from n t) false
  unfolding all
  fields_go n Comma on = fields_more n on
  fields_go n LineEnd on = fields_last n
  fields_go n TextEnd on = fields_last n

fields_step : (n : ℕ) (s : List ℕ) → ((m : ℕ) → n ≡ suc m → line_good (suc m) (cut s).1 ≡ good_from (suc m) (cut s).1)
    → line_good (suc n) s ≡ good_from (suc n) s
unfolding all good_from
fields_step n s on = go (ending_at s) refl
  where
    go : (o : Option (Ending × List ℕ)) → ending_at s ≡ o
        → line_good (suc n) s ≡ cond (ends_so (ending_at s) n) (good_from n (cut s).1) false
    go None e =
        let others : List (List ℕ) = cond (is_comma (cut s).0) (fields (line (cut s).1)) [] in
        rw (fields_first s, good_first s, e) (and-false (eqb (suc (length others)) (suc n)))
    go (Some p) e =
        let c : (cut s).0 ≡ p.0 = ap (λ q. q.0) (ending_cut s p e) in
        rw (fields_first s, good_first s, e, sym c) (fields_go (cut s).1 n (cut s).0 on)

fields_good : (n : ℕ) (s : List ℕ) → line_good (suc n) s ≡ good_from (suc n) s
fields_good zero s = fields_step zero s (λ m q. absurd (omega arith))
fields_good (suc k) s = fields_step (suc k) s (λ m q. let e : m ≡ k = omega arith in rw e (fields_good k (cut s).1))

cond_true : (a b : Bool) → cond a b false ≡ true → (a ≡ true) × (b ≡ true)
cond_true true b h = (refl, h)
cond_true false b h = clash h refl

-- a field that ends as it may
ends_cut : (s : List ℕ) (n : ℕ) → ends_so (ending_at s) n ≡ true → fits (cut s).0 n ≡ true
ends_cut s n h = go (ending_at s) refl
  where
    go : (o : Option (Ending × List ℕ)) → ending_at s ≡ o → fits (cut s).0 n ≡ true
    go None e = clash h (rw e)
    go (Some p) e = ap (λ q. fits q.0 n) (ending_cut s p e) ∙ (rw e at h)

fits_last : (e : Ending) → fits e 0 ≡ true → is_comma e ≡ false
fits_last Comma h = clash h refl
fits_last LineEnd h = refl
fits_last TextEnd h = refl

fits_more : (e : Ending) (m : ℕ) → fits e (suc m) ≡ true → is_comma e ≡ true
fits_more e m h = rw (eqb-suc-zero m) at h

fields_values : (n : ℕ) (s : List ℕ) → good_from (suc n) s ≡ true
    → (map value (fields (line s)) ≡ values_from (suc n) s) × (after s ≡ rest_from (suc n) s)
unfolding good_from values_from rest_from
fields_values zero s h =
    let f = cond_true (ends_so (ending_at s) 0) (good_from 0 (cut s).1) h in
    let e : is_comma (cut s).0 ≡ false = fits_last (cut s).0 (ends_cut s 0 f.0) in
    (rw (fields_first s, e, value_first s), rw (after_first s, e))
fields_values (suc m) s h =
    let f = cond_true (ends_so (ending_at s) (suc m)) (good_from (suc m) (cut s).1) h in
    let e : is_comma (cut s).0 ≡ true = fits_more (cut s).0 m (ends_cut s (suc m) f.0) in
    let r = fields_values m (cut s).1 f.1 in
    (rw (fields_first s, e, value_first s) (ap (λ l. value s ∷ l) r.0), rw (after_first s, e) r.1)

-- k of the eight fields of the line at the front of s are read into v; t is what is left
module _ (s : List ℕ) where
  abbrev pub Filling : List ℕ → List ℕ → ℕ → Type 0
  Filling v t k =
      (k ≤ 8)
      × (length v ≡ 8)
      × (good_from 8 s ≡ good_from (8 - k) t)
      × (values_from 8 s ≡ take k v ++ values_from (8 - k) t)
      × (rest_from 8 s ≡ rest_from (8 - k) t)

  module _ (v t : List ℕ) (k : ℕ) (r : Filling v t k) where
    pub filling_bad : k < 8 → ends_so (ending_at t) (7 - k) ≡ false → None ≡ row_at s
    unfolding good_from
    filling_bad h e =
        let n : 8 - k ≡ suc (7 - k) = omega arith in
        let none : good_from 8 s ≡ false = r.2 ∙ rw (n, e) in
        rw (fields_good 7 s ∙ none)

    pub filling_turn : k < 8 → (p : Ending × List ℕ) → ending_at t ≡ Some p → fits p.0 (7 - k) ≡ true
        → Filling (set v k (value t)) p.1 (k + 1)
    unfolding good_from values_from rest_from
    filling_turn h p e f =
        let n : 8 - k ≡ suc (7 - k) = omega arith in
        let n' : 8 - (k + 1) ≡ 7 - k = omega arith in
        let room : k < length v = omega (arith, r.1) in
        let on : (cut t).1 ≡ p.1 = ap (λ q. q.1) (ending_cut t p e) in (
          omega arith,
          length-set v k (value t) ∙ r.1,
          r.2 ∙ rw (n, n', e, f, on),
          r.3 ∙ rw (n, n', on, add-one k, take-suc-set v k (value t) room) (sym (append_assoc (take k v) (value t ∷ []) _)),
          r.4 ∙ rw (n, n') (ap (rest_from (7 - k)) on),
        )

    pub filling_done : 8 ≤ k → Some (row_from v, t) ≡ row_at s
    unfolding good_from values_from rest_from
    filling_done h =
        let n : 8 - k ≡ 0 = omega arith in
        let k8 : k ≡ 8 = omega arith in
        let fine : good_from 8 s ≡ true = r.2 ∙ rw n in
        let f = fields_values 7 s fine in
        let vs : map value (fields (line s)) ≡ v = f.0 ∙ r.3 ∙ rw (n, k8, append-nil) (take_all 8 v (omega (arith, r.1))) in
        let rest : after s ≡ t = f.1 ∙ r.4 ∙ rw n in
        rw (fields_good 7 s ∙ fine, vs, rest)
