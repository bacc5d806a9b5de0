-- What `pick` returns: the first by rank among the tasks that the test leaves, or none where it leaves none. And when two picks
-- agree: where what is left in one is left in the other and the orders agree on it. Every law about who has a slot goes by this.
use Rattle.std.specs.Prelude.{◌≡◌, refl, ◌↔◌, Bool, true, false, ℕ, zero, suc, ◌≤◌, ◌<◌, ltb}
use Rattle.std.proofs.Common.{arith, ltb-true, ltb-false}
use Rattle.rules.specs.Slots.{first, pick}
use Rattle.basics.specs.Cases.{test, clash, upto}

-- j is not after i
abbrev Bef : (ℕ → ℕ) → (ℕ → Bool) → ℕ → ℕ → Type 0
Bef r d j i = d i ≡ false → (r j ≤ r i) × (r i ≤ r j → j ≤ i)

abbrev pub First : (ℕ → ℕ) → (ℕ → Bool) → ℕ → ℕ → Type 0
First r d n zero = (i : ℕ) → i < n → d i ≡ true
First r d n (suc j) = (j < n) × (d j ≡ false) × ((i : ℕ) → i < n → d i ≡ false → (r j ≤ r i) × (r i ≤ r j → j ≤ i))

first_done : (r : ℕ → ℕ) (d : ℕ → Bool) (n p : ℕ) → d n ≡ true → First r d n p → First r d (suc n) p
first_done r d n zero e f = upto (λ i. d i ≡ true) n f e
first_done r d n (suc j) e f = (omega arith, f.1, upto (Bef r d j) n f.2 (λ g. clash e g))

first_better : (r : ℕ → ℕ) (d : ℕ → Bool) (n p : ℕ) → d n ≡ false → First r d n p → First r d (suc n) (first r n p)
first_better r d n zero e f = (omega arith, e, upto (Bef r d n) n (λ i h g. clash (f i h) g) (λ g. omega arith))
first_better r d n (suc j) e f = test (ltb (r n) (r j))
    (λ q. rw q (omega arith, e, upto (Bef r d n) n (λ i h g. let a = (f.2 i h g).0 in omega (arith, ltb-true)) (λ g. omega arith)))
    (λ q. rw q (omega arith, f.1, upto (Bef r d j) n f.2 (λ g. omega (arith, ltb-false))))

pub pick_first : (r : ℕ → ℕ) (d : ℕ → Bool) (n : ℕ) → First r d n (pick r d n)
pick_first r d zero = λ i h. absurd (omega arith)
pick_first r d (suc n) = test (d n)
    (λ e. rw e (first_done r d n (pick r d n) e (pick_first r d n)))
    (λ e. rw e (first_better r d n (pick r d n) e (pick_first r d n)))

-- Two picks, by r among what x leaves and by s among what y leaves. What is done in y is done in x; on what is left in x
-- the orders agree. Then the two agree, unless x has done what y picks.
module _ (r s : ℕ → ℕ) (x y : ℕ → Bool) (n : ℕ) (more : (i : ℕ) → i < n → y i ≡ true → x i ≡ true)
    (like : (i j : ℕ) → i < n → j < n → x i ≡ false → x j ≡ false → (r i ≤ r j) ↔ (s i ≤ s j)) where
  back : (i : ℕ) → i < n → x i ≡ false → y i ≡ false
  back i h e = test (y i) (λ g. clash (more i h g) e) (λ g. g)

  pub agree : (p j : ℕ) → First r x n p → First s y n (suc j) → x j ≡ false → p ≡ suc j
  agree zero j f g h = clash (f j g.0) h
  agree (suc i) j f g h =
      let u = f.2 j g.0 h in
      let v = g.2 i f.0 (back i f.0 f.1) in
      omega (arith, u.1 ((like j i g.0 f.0 h f.1).1 v.0), v.1 ((like i j f.0 g.0 f.1 h).0 u.0))

  -- where x and y leave the same
  pub agree_all : ((i : ℕ) → i < n → x i ≡ true → y i ≡ true) → (p q : ℕ) → First r x n p → First s y n q → p ≡ q
  agree_all less zero zero f g = refl
  agree_all less (suc i) zero f g = clash (more i f.0 (g i f.0)) f.1
  agree_all less p (suc j) f g = agree p j f g (test (x j) (λ e. clash (less j g.0 e) g.1) (λ e. e))
