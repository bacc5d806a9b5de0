-- The row checks, one by one, as the code makes them: a key is counted, the smallest id at fault is sought, and the first check that
-- finds one is given. For the functions of fault.
use Rattle.std.specs.Prelude.{◌≡◌, refl, Bool, true, false, cond, ℕ, ◌+◌, ◌-◌, ◌<◌, ◌≤◌, min, eqb, leb}
use Rattle.std.specs.Prelude.{List, [], ◌∷◌, length, map, filter, get_or, drop, Option, None, Some}
use Rattle.std.specs.List.{fold}
use Rattle.std.proofs.Common.{sym, ap, ◌∙◌, arith, ne_eqb, lt-ltb, le-ltb}
use Rattle.std.proofs.lemmas.List.{at_drop_more, at_drop_all}
use Rattle.std.proofs.lemmas.List.Sums.{length-filter}
use Rattle.std.proofs.lemmas.List.Recursion.{is_sum_by}
use Rattle.rules.specs.declared.Row.{Row}
use Rattle.rules.specs.Checks.{key, times, shared, fault, better, smallest, place, found, row_checks, first_fault}
use Rattle.basics.specs.Cases.{test, le_case}
use Rattle.table.specs.declared.fault.RowCheck.{RowCheck}
use Rattle.table.specs.declared.fault.RowCheck.TheVariants.{Id, IdRepeated, Time, Priority, PriorityShared, Order, Resume}
use Rattle.table.specs.Tables.{number_of, smallest_id, refusal_in}

-- A KEY, which more rows than one have: k is how many have it

pub key_shared : (n k : ℕ) (rows : List Row) (r : Row) → k ≡ length (filter (λ w. eqb (key n w) (key n r)) rows) → leb 2 k ≡ shared n rows r
unfolding times
key_shared n k rows r e =
    let counted = is_sum_by (times n (key n r)) (λ w. cond (eqb (key n w) (key n r)) 1 0) refl (λ w ws. refl) rows in
    rw (e, length-filter (λ w. eqb (key n w) (key n r)) rows, counted)

-- THE PLACE: one more than the smallest id, 0 for none

abbrev one_more : Option ℕ → ℕ
one_more None = 0
one_more (Some k) = k + 1

better_some : (hit : Bool) (id b : ℕ) → better hit id (b + 1) ≡ cond hit (min b id) b + 1
better_some true id b = le_case (b + 1) (id + 1)
    (λ h. let m : min b id ≡ b = omega arith in rw (ne_eqb (b + 1) 0 (λ z. omega arith), le-ltb (id + 1) (b + 1) h, m))
    (λ h. let m : min b id ≡ id = omega arith in rw (ne_eqb (b + 1) 0 (λ z. omega arith), lt-ltb (id + 1) (b + 1) h, m))
better_some false id b = refl

module _ (p : Row → Bool) where
  smallest_some : (b : ℕ) (rows : List Row) → smallest p (b + 1) rows ≡ fold min b (map (λ r. r.id) (filter p rows)) + 1
  unfolding smallest
  smallest_some b [] = refl
  smallest_some b (r ∷ rs) = test (p r)
      (λ e. rw (e, better_some true r.id b) (smallest_some (min b r.id) rs))
      (λ e. rw e (smallest_some b rs))

  smallest_none : (rows : List Row) → smallest p 0 rows ≡ one_more (smallest_id p rows)
  unfolding smallest
  smallest_none [] = refl
  smallest_none (r ∷ rs) = test (p r) (λ e. rw e (smallest_some r.id rs)) (λ e. rw e (smallest_none rs))

-- THE ORDER

module _ (rows : List Row) where
  abbrev at_fault : RowCheck → Option ℕ
  at_fault c = smallest_id (fault (number_of c) rows) rows

  found_place : (c : RowCheck) → found (number_of c) rows ≡ one_more (at_fault c)
  unfolding found place
  found_place Id = smallest_none (fault 6 rows) rows
  found_place IdRepeated = smallest_none (fault 7 rows) rows
  found_place Time = smallest_none (fault 8 rows) rows
  found_place Priority = smallest_none (fault 9 rows) rows
  found_place PriorityShared = smallest_none (fault 10 rows) rows
  found_place Order = smallest_none (fault 11 rows) rows
  found_place Resume = smallest_none (fault 12 rows) rows

  some_number : (c : RowCheck) → eqb (number_of c) 0 ≡ false
  some_number Id = refl
  some_number IdRepeated = refl
  some_number Time = refl
  some_number Priority = refl
  some_number PriorityShared = refl
  some_number Order = refl
  some_number Resume = refl

  pub fault_none : (cs : List RowCheck) (i : ℕ) → length cs ≤ i → first_fault row_checks rows ≡ first_fault (map number_of (drop i cs)) rows
      → None ≡ refusal_in (first_fault row_checks rows)
  unfolding first_fault
  fault_none cs i end so = rw (so ∙ at_drop_all (λ (ks : List RowCheck). first_fault (map number_of ks) rows) cs i end)

  -- the checks from place i on are left, and the one at i is made
  module _ (cs : List RowCheck) (i : ℕ) (low : i < length cs) (d : RowCheck)
      (so : first_fault row_checks rows ≡ first_fault (map number_of (drop i cs)) rows) where
    from_here : first_fault row_checks rows ≡ first_fault (map number_of (get_or cs i d ∷ drop (i + 1) cs)) rows
    from_here = so ∙ at_drop_more (λ (ks : List RowCheck). first_fault (map number_of ks) rows) cs i d low

    pub fault_stop : (n id : ℕ) → n ≡ number_of (get_or cs i d) → Some id ≡ at_fault (get_or cs i d)
        → Some (record { number = n; place = id }) ≡ refusal_in (first_fault row_checks rows)
    unfolding first_fault
    fault_stop n id e f =
        let here : found (number_of (get_or cs i d)) rows ≡ id + 1 = found_place (get_or cs i d) ∙ ap one_more (sym f) in
        let same : id + 1 - 1 ≡ id = omega arith in
        rw (from_here, here, ne_eqb (id + 1) 0 (λ z. omega arith), some_number (get_or cs i d), e, same)

    pub fault_next : None ≡ at_fault (get_or cs i d) → first_fault row_checks rows ≡ first_fault (map number_of (drop (i + 1) cs)) rows
    unfolding first_fault
    fault_next f =
        let here : found (number_of (get_or cs i d)) rows ≡ 0 = found_place (get_or cs i d) ∙ ap one_more (sym f) in
        from_here ∙ rw here
