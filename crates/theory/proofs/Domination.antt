-- DOMINATION: one step keeps a state A ahead of a state B. "Ahead" says, of each task that is incomplete in A: A has executed at
-- least as much of it as B; if B went on with it in the slot before, so did A, with no more loading left. What is complete in B is
-- then complete in A, so whatever task B picks is complete in A, or is the one that A picks too; and A loads no more for it, since
-- a loading that begins later is no longer. A's releases are among B's, A's jobs need at most c and load at most `load`, B's need
-- and load at least that, and the two orders agree on what is incomplete in A. `Runs` makes the theorem of it.
use Rattle.std.specs.Prelude.{◌≡◌, refl, ◌↔◌, Bool, true, false, cond, ◌&&◌, ℕ, zero, suc, ◌+◌, ◌≤◌, pred, eqb}
use Rattle.std.proofs.Common.{add-zero, arith, leb-true, leb-false, eqb-true, eq-eqb}
use Rattle.std.proofs.lemmas.Bool.{lt-leb}
use Rattle.std.proofs.Math.Dec.{eqb-suc-zero}
use Rattle.rules.specs.Slots.{State, complete, unless, release, pick, loading}
use Rattle.basics.specs.Cases.{test, clash, both_true}
use Rattle.theory.specs.Uniform.{bit, uniform, act}
use Rattle.theory.specs.Order.{pick_first, agree}
use Rattle.theory.specs.Domination.{Dom}

pub dropped_is : (d : ℕ → Bool) (l j : ℕ) → unless d l ≡ suc j → (l ≡ suc j) × (d j ≡ false)
dropped_is d zero j e = absurd (omega arith)
dropped_is d (suc i) j e = go (d i) refl e
  where
    go : (b : Bool) → d i ≡ b → cond b zero (suc i) ≡ suc j → (suc i ≡ suc j) × (d j ≡ false)
    go true q h = absurd (omega arith)
    go false q h = let k : i ≡ j = omega arith in (h, rw k at q)

pub dropped_keep : (d : ℕ → Bool) (l j : ℕ) → l ≡ suc j → d j ≡ false → unless d l ≡ suc j
dropped_keep d l j e h = rw (e, h)

-- a slot's lemmas
bit_le : (x y : Bool) → (x ≡ true → y ≡ true) → bit x ≤ bit y
bit_le false y h = omega arith
bit_le true y h = rw (h refl) (omega arith)

-- whoever is served as `q` is, is served as `p` is
served_le : (p q l m i : ℕ) → (q ≡ suc i → (p ≡ suc i) × (l ≤ m)) → bit (eqb m 0 && eqb q (suc i)) ≤ bit (eqb l 0 && eqb p (suc i))
served_le p q l m i h = bit_le _ _ (λ e. go (both_true _ _ e))
  where
    go : (eqb m 0 ≡ true) × (eqb q (suc i) ≡ true) → (eqb l 0 && eqb p (suc i)) ≡ true
    go k =
        let f = h (eqb-true q (suc i) k.1) in
        let z = eqb-true m 0 k.0 in
        rw (eq-eqb l 0 (omega arith), eq-eqb p (suc i) f.0)

pred_le : (l m : ℕ) → l ≤ m → pred l ≤ pred m
pred_le l m h = omega arith

left_own : (load : ℕ → ℕ) (l n : ℕ) (x : Bool) → l ≤ load n → pred l ≤ load (n + bit (eqb l 0 && x))
left_own load zero n x h = omega arith
left_own load (suc l) n x h = rw (eqb-suc-zero l, add-zero n) (omega arith)

pub was : (s : State) (p l i : ℕ) → complete (uniform s p l) i ≡ false → complete s i ≡ false
was s p l i h = lt-leb (s.need i) (s.executed i) (omega (arith, leb-false))

module _ (c : ℕ → ℕ) (load : ℕ → ℕ → ℕ) (a b : State) (d : Dom c load a b) where
  pub dom_done : (i : ℕ) → complete b i ≡ true → complete a i ≡ true
  dom_done i h = test (complete a i) (λ e. e) (λ e. absurd (omega (arith, leb-true, leb-false, d.ahead i e, d.less i, d.full i)))

  pub dom_release : (x y : ℕ → Bool) (e f : ℕ → ℕ) → ((i : ℕ) → x i ≡ true → y i ≡ true) → ((i : ℕ) → e i ≤ c i) → ((i : ℕ) → c i ≤ f i)
      → Dom c load (release x e a) (release y f b)
  dom_release x y e f sub low high = record {
    less = λ i. less' i (x i);
    full = λ i. full' i (y i);
    ahead = λ i. test (y i) (λ q z. rw q (omega arith)) (λ q z. rw q (ahead' i (not_in i q) z));
    same = λ j u v. let k = dropped_is y b.last j u in same' j k.0 (not_in j k.1) v;
    side = λ j u. let k = dropped_is x a.last j u in rw k.1 (d.side j k.0);
  }
    where
      not_in : (i : ℕ) → y i ≡ false → x i ≡ false
      not_in i q = test (x i) (λ g. clash (sub i g) q) (λ g. g)

      less' : (i : ℕ) (z : Bool) → cond z (e i) (a.need i) ≤ c i
      less' i true = low i
      less' i false = d.less i

      full' : (i : ℕ) (z : Bool) → c i ≤ cond z (f i) (b.need i)
      full' i true = high i
      full' i false = d.full i

      ahead' : (i : ℕ) → x i ≡ false → complete (release x e a) i ≡ false → b.executed i ≤ (release x e a).executed i
      ahead' i q z = rw q (d.ahead i (rw q at z))

      same' : (j : ℕ) → b.last ≡ suc j → x j ≡ false → complete (release x e a) j ≡ false → (unless x a.last ≡ suc j) × (a.left ≤ b.left)
      same' j u q v = let k = d.same j u (rw q at v) in (dropped_keep x a.last j k.0 q, k.1)

  -- the loading of the task that both give the slot to
  module _ (anti : (i m n : ℕ) → m ≤ n → load i n ≤ load i m) (la lb : ℕ → ℕ → ℕ) (low : (i m : ℕ) → la i m ≤ load i m)
      (high : (i m : ℕ) → load i m ≤ lb i m) where
    loading_own : (j : ℕ) → loading la a (suc j) ≤ load j (a.executed j)
    loading_own j = test (eqb a.last (suc j)) (λ e. rw e (d.side j (eqb-true _ _ e))) (λ e. rw e (low j (a.executed j)))

    loading_le : (j : ℕ) → complete a j ≡ false → loading la a (suc j) ≤ loading lb b (suc j)
    loading_le j h = test (eqb b.last (suc j))
        (λ e. let k = d.same j (eqb-true _ _ e) h in rw (e, eq-eqb a.last (suc j) k.0) k.1)
        (λ e. rw e (omega (arith, loading_own j, anti j (b.executed j) (a.executed j) (d.ahead j h), high j (b.executed j))))

  -- a slot of p in A with l loading to do, of q in B with m
  module _ (p q l m : ℕ) (both : (j : ℕ) → q ≡ suc j → complete a j ≡ false → (p ≡ suc j) × (l ≤ m)) (own : (j : ℕ) → p ≡ suc j → l ≤ load j (a.executed j)) where
    pub dom_slot : Dom c load (uniform a p l) (uniform b q m)
    dom_slot = record {
      less = d.less;
      full = d.full;
      ahead = λ i h. let w = was a p l i h in omega (arith, d.ahead i w, served_le p q l m i (λ e. both i e w));
      same = λ j x y.
          let k = dropped_is _ q j x in
          let w = both j k.0 (was a p l j y) in
          (dropped_keep _ p j w.0 y, pred_le l m w.1);
      side = λ j x. let k = dropped_is _ p j x in left_own (load j) l (a.executed j) (eqb p (suc j)) (own j k.0);
    }

  -- the slot that the machine gives
  pub dom_act : (n : ℕ) (r s : ℕ → ℕ) → ((i j : ℕ) → complete a i ≡ false → complete a j ≡ false → (r i ≤ r j) ↔ (s i ≤ s j))
      → ((i m n : ℕ) → m ≤ n → load i n ≤ load i m) → (la lb : ℕ → ℕ → ℕ) → ((i m : ℕ) → la i m ≤ load i m) → ((i m : ℕ) → load i m ≤ lb i m)
      → Dom c load (act n r la a) (act n s lb b)
  dom_act n r s like anti la lb low high = dom_slot p q (loading la a p) (loading lb b q) (λ j e h. (both j e h, less j e h)) own
    where
      p : ℕ
      p = pick r (complete a) n

      q : ℕ
      q = pick s (complete b) n

      both : (j : ℕ) → q ≡ suc j → complete a j ≡ false → p ≡ suc j
      both j e h = agree r s (complete a) (complete b) n (λ i z. dom_done i) (λ i j u v. like i j) p j (pick_first r (complete a) n) (rw e at (pick_first s (complete b) n)) h

      less : (j : ℕ) → q ≡ suc j → complete a j ≡ false → loading la a p ≤ loading lb b q
      less j e h = rw (both j e h, e) (loading_le anti la lb low high j h)

      own : (j : ℕ) → p ≡ suc j → loading la a p ≤ load j (a.executed j)
      own j e = rw e (loading_own anti la lb low high j)

-- ONE STEP. x, e, r, la: what A releases, its new jobs' needs, its order, its loading lengths; y, f, s, lb: B's
pub dom_step : (c : ℕ → ℕ) (load : ℕ → ℕ → ℕ) → ((i m n : ℕ) → m ≤ n → load i n ≤ load i m)
    → (a b : State) → Dom c load a b
    → (x y : ℕ → Bool) → ((i : ℕ) → x i ≡ true → y i ≡ true)
    → (e f : ℕ → ℕ) → ((i : ℕ) → e i ≤ c i) → ((i : ℕ) → c i ≤ f i)
    → (r s : ℕ → ℕ) → ((i j : ℕ) → complete (release x e a) i ≡ false → complete (release x e a) j ≡ false → (r i ≤ r j) ↔ (s i ≤ s j))
    → (la lb : ℕ → ℕ → ℕ) → ((i m : ℕ) → la i m ≤ load i m) → ((i m : ℕ) → load i m ≤ lb i m)
    → (n : ℕ) → Dom c load (act n r la (release x e a)) (act n s lb (release y f b))
dom_step c load anti a b d x y sub e f low high r s like la lb below above n =
    dom_act c load (release x e a) (release y f b) (dom_release c load a b d x y e f sub low high) n r s like anti la lb below above
