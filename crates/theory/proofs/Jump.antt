-- THE JUMP: from the state at t with its jobs joined, m slots up to the next release or the completion of the task that has the slot
-- are one step in closed form; and, if that task does not go first by policy, up to where it may be preempted. Its executed slots rise
-- by m − l, where l is the loading to do (0 if that is negative), its loading falls by m, and nothing else moves: one form for idle,
-- loading, executing, and loading that turns into executing, for any run and any key. Nothing is missed in between but at the
-- deadline of an incomplete job. The checker's loop goes by it.
use Rattle.std.specs.Prelude.{◌≡◌, refl, ◌⊎◌, ◌≢◌, Bool, true, false, cond, ◌&&◌, leb, eqb}
use Rattle.std.proofs.Common.{sym, ap, ◌∙◌, inl, inr, add-zero, add-suc, arith}
use Prim.Native.Nat.{ℕ, zero, suc, ◌+◌, ◌-◌, ◌≤◌, ◌<◌, pred}
use Rattle.std.proofs.Math.Nat.{mod_self}
use borrow.Author.Tests.{lt-leb, eqb-true, eqb-false, eq-eqb, ne_eqb}
use Rattle.rules.specs.declared.Row.{Row}
use Rattle.rules.specs.Policies.{System}
use Rattle.rules.specs.Slots.{State, Choice, complete, unless, release, pick, loading, released, newest, due, joins, rank, under_way, order, lengths, joined, run, who, on_time, missed}
use Rattle.basics.specs.Cases.{test, le_case, eq_case, clash}
use Rattle.theory.specs.Uniform.{bit, served, uniform, act}
use Rattle.theory.proofs.Uniform.{run_next}
use Rattle.theory.specs.Order.{First, pick_first, agree_all}
use Rattle.theory.proofs.Domination.{was}
use Rattle.theory.proofs.Free.{free_pick}
use Rattle.theory.specs.Times.{Free, released_again, released_from}
use Rattle.theory.proofs.Runs.{keeps, incomplete}
use Rattle.theory.specs.Counters.{until, released_until, newest_released, newest_only, newest_until, due_newest}
use Rattle.theory.specs.Jump.{gained, jump, Alike, ByRank, now, whose, loads, Quiet, Busy, Firm}

-- ON THE MACHINE

pub pick_is : (r : ℕ → ℕ) (d : ℕ → Bool) (n p : ℕ) → First r d n p → pick r d n ≡ p
pick_is r d n p f = agree_all r r d d n (λ i h e. e) (λ i j a b u v. (λ e. e, λ e. e)) (λ i h e. e) (pick r d n) p (pick_first r d n) f

pub pick_none : (r : ℕ → ℕ) (d : ℕ → Bool) (n : ℕ) → ((i : ℕ) → i < n → d i ≡ true) → pick r d n ≡ 0
pick_none r d n f = pick_is r d n 0 f

-- no chunk but that of the task that had the slot before is under way
and_false : (b : Bool) → (b && false) ≡ false
and_false true = refl
and_false false = refl

order_other : (y : System) (t : ℕ) (s : State) (i j : ℕ) → s.last ≡ suc j → i ≢ j → order y t s i ≡ suc (rank y t i)
order_other y t s i j e differ = rw (ne_eqb s.last (suc i) (λ z. absurd (differ (omega arith))), and_false (y.held i (s.executed i))) refl

order_free : (y : System) (t : ℕ) (s : State) (i : ℕ) → under_way y s i ≡ false → order y t s i ≡ suc (rank y t i)
order_free y t s i e = rw e refl

order_held : (y : System) (t : ℕ) (s : State) (i : ℕ) → under_way y s i ≡ true → order y t s i ≡ 0
order_held y t s i e = rw e refl

-- whoever has the slot at t has it at u, if what is complete and the ranks of the others stay, and it goes first by policy at t or its
-- chunk is under way at u
first_on : (y : System) (t u : ℕ) (a b : State) (p : ℕ) → b.last ≡ p → ((i : ℕ) → i < y.tasks → complete a i ≡ complete b i)
    → ((i : ℕ) → i < y.tasks → complete a i ≡ false → rank y t i ≡ rank y u i)
    → ByRank y t a p ⊎ ((j : ℕ) → p ≡ suc j → y.held j (b.executed j) ≡ true)
    → First (order y t a) (complete a) y.tasks p → First (order y u b) (complete b) y.tasks p
first_on y t u a b zero last same ranks firm f = λ i h. sym (same i h) ∙ f i h
first_on y t u a b (suc j) last same ranks firm f = (f.0, sym (same j f.0) ∙ f.1, λ i h q. before i h (same i h ∙ q))
  where
    by_rank : (i : ℕ) → i < y.tasks → complete a i ≡ false → under_way y b j ≡ false → ByRank y t a (suc j) ⊎ ((k : ℕ) → suc j ≡ suc k → y.held k (b.executed k) ≡ true)
        → (rank y u j ≤ rank y u i) × (rank y u i ≤ rank y u j → j ≤ i)
    by_rank i h e free (inl g) =
        let r = ranks i h e in
        let s = ranks j f.0 f.1 in
        let k = g.2 i h e in
        (omega (arith, k.0), λ z. k.1 (omega arith))
    by_rank i h e free (inr g) = clash (rw (g j refl, eq-eqb b.last (suc j) last) refl) free

    before : (i : ℕ) → i < y.tasks → complete a i ≡ false → (order y u b j ≤ order y u b i) × (order y u b i ≤ order y u b j → j ≤ i)
    before i h e = eq_case i j
        (λ z. rw z (omega arith, λ k. omega arith))
        (λ z. let o = order_other y u b i j last z in test (under_way y b j)
        (λ w. let x = order_held y u b j w in (omega arith, λ k. absurd (omega arith)))
        (λ w. let x = order_free y u b j w in let g = by_rank i h e w firm in (omega (arith, g.0), λ k. g.1 (omega arith))))

gain_none : (b : Bool) (l : ℕ) → cond b (0 - l) 0 ≡ 0
gain_none true l = omega arith
gain_none false l = refl

gain_more : (b : Bool) (l k : ℕ) → cond b (k - l) 0 + bit (eqb (l - k) 0 && b) ≡ cond b (suc k - l) 0
gain_more true l k = test (eqb (l - k) 0)
    (λ e. let q = eqb-true (l - k) 0 e in rw e (omega arith))
    (λ e. let q = eqb-false (l - k) 0 e in rw e (le_case l k (λ z. absurd (q (omega arith))) (λ z. omega arith)))
gain_more false l k = test (eqb (l - k) 0) (λ e. rw e refl) (λ e. rw e refl)

pred_less : (l k : ℕ) → pred (l - k) ≡ l - suc k
pred_less l k = omega arith

module _ (n : ℕ) (s : State) (p l : ℕ) (below : p ≤ n) where
  jump_more : (x : State) (k : ℕ) → ((i : ℕ) → i < n → x.executed i ≡ s.executed i + gained p l k i) → (i : ℕ) → i < n
      → served x.executed p (l - k) i ≡ s.executed i + gained p l (suc k) i
  jump_more x k e i h = rw (e i h) (omega (arith, gain_more (eqb p (suc i)) l k))

  last_more : (x : State) (k q : ℕ) → q ≤ n → ((i : ℕ) → i < n → x.need i ≡ s.need i) → ((i : ℕ) → i < n → served x.executed p (l - k) i ≡ s.executed i + gained p l (suc k) i)
      → unless (λ i. leb (x.need i) (served x.executed p (l - k) i)) q ≡ unless (λ i. leb (s.need i) (s.executed i + gained p l (suc k) i)) q
  last_more x k zero b needs e = refl
  last_more x k (suc j) b needs e = rw (e j b, needs j b)

  -- one slot more
  slot_more : (x : State) (k : ℕ) → ((i : ℕ) → i < n → x.need i ≡ s.need i) → ((i : ℕ) → i < n → x.executed i ≡ s.executed i + gained p l k i)
      → Alike n (uniform x p (l - k)) (jump s p l (suc k))
  slot_more x k needs e = record { need = needs; executed = jump_more x k e; last = last_more x k p below needs (jump_more x k e); left = pred_less l k }

  slot_first : Alike n (uniform s p l) (jump s p l 1)
  slot_first =
      let e : l - 0 ≡ l = omega arith in
      rw e at (slot_more s 0 (λ i h. refl) (λ i h. omega (arith, gain_none (eqb p (suc i)) l)))

  -- who is complete does not change, as long as p is not
  jump_done : (k : ℕ) → ((j : ℕ) → p ≡ suc j → s.executed j + (k - l) < s.need j) → (i : ℕ) → complete (jump s p l k) i ≡ complete s i
  jump_done k busy i = test (eqb p (suc i))
      (λ e. let b = busy i (eqb-true p (suc i) e) in
      rw e (lt-leb (s.need i) (s.executed i + (k - l)) b ∙ sym (lt-leb (s.need i) (s.executed i) (omega arith))))
      (λ e. rw (e, add-zero (s.executed i)))

  -- where p was not complete at the end, it is the last, with the loading that is left
  loading_more : (load : ℕ → ℕ → ℕ) (x : State) (k q : ℕ) → p ≡ q → (q ≡ 0 → l ≡ 0) → x.last ≡ q → x.left ≡ l - k → loading load x q ≡ l - k
  loading_more load x k zero e z last left = let c = z refl in omega arith
  loading_more load x k (suc j) e z last left = rw (eq-eqb x.last (suc j) last) left

  last_stays : (k q : ℕ) → p ≡ q → ((j : ℕ) → p ≡ suc j → s.executed j + (k - l) < s.need j) → (jump s p l k).last ≡ p
  last_stays k zero e busy = rw e refl
  last_stays k (suc j) e busy = let b = jump_done k busy j in
      let f = lt-leb (s.need j) (s.executed j) (omega (arith, busy j e)) in
      go p e (b ∙ f)
    where
      go : (q : ℕ) → q ≡ suc j → complete (jump s p l k) j ≡ false → unless (complete (jump s p l k)) q ≡ q
      go q a b = rw (a, b)

-- TIMES

pub newest_near : (w : Row) → 0 < w.period → (t : ℕ) → w.offset ≤ t → (newest w t ≤ t) × (t < newest w t + w.period)
unfolding newest
newest_near w pos t h = (omega arith, omega (arith, newest_until w pos t h))

-- the newest release stays the newest, as long as there is none
pub newest_quiet : (w : Row) → 0 < w.period → (t k : ℕ) → w.offset ≤ t → ((u : ℕ) → t < u → u ≤ t + k → released w u ≡ false) → newest w (t + k) ≡ newest w t
newest_quiet w pos t k h quiet =
    let e = newest_released w t h in
    let n = newest_near w pos t h in
    le_case (newest w t + w.period) (t + k)
    (λ q. clash (released_again w w.period (mod_self w.period) (newest w t) (first e) ∙ e) (quiet (newest w t + w.period) n.1 q))
    (λ q. newest_only w (newest w t) (t + k) e (omega (arith, n.0)) q)
  where
    first : released w (newest w t) ≡ true → w.offset ≤ newest w t
    first e = released_from w (newest w t) e

pub firm_less : (y : System) (t : ℕ) (s : State) (p l k m : ℕ) → k ≤ m → Firm y t s p l m → Firm y t s p l k
firm_less y t s p l k m h (inl f) = inl f
firm_less y t s p l k m h (inr f) = inr (λ j e u b. f j e u (omega arith))

-- where a job may be preempted at any slot, it goes first by policy
pub free_firm : (y : System) → Free y → (c : ℕ → Choice) (t l k : ℕ) → Firm y t (joined y (c t) t (run y c t)) (who y (c t) t (run y c t)) l k
free_firm y free c t l k = inl (rw (free_pick y free t (joined y (c t) t (run y c t))) (pick_first (rank y t) (complete (joined y (c t) t (run y c t))) y.tasks))

-- no release: jobs that join change nothing
joined_quiet : (n : ℕ) (x : ℕ → Bool) (c : ℕ → ℕ) (a b : State) → ((i : ℕ) → i < n → x i ≡ false) → b.last ≤ n → Alike n a b → Alike n (release x c a) b
joined_quiet n x c a b e h m = record { need = λ i k. rw (e i k) (m.need i k); executed = λ i k. rw (e i k) (m.executed i k); last = go a.last m.last; left = m.left }
  where
    go : (q : ℕ) → q ≡ b.last → unless x q ≡ b.last
    go zero k = k
    go (suc j) k = rw (e j (omega arith)) k

first_le : (r : ℕ → ℕ) (d : ℕ → Bool) (n p : ℕ) → First r d n p → p ≤ n
first_le r d n zero f = omega arith
first_le r d n (suc j) f = f.0

no_load : (load : ℕ → ℕ → ℕ) (s : State) (p : ℕ) → p ≡ 0 → loading load s p ≡ 0
no_load load s p e = rw e refl

module _ (y : System) (pos : (i : ℕ) → i < y.tasks → 0 < (y.row i).period) (c : ℕ → Choice) (t : ℕ) where
  -- a slot later, from the closed form of those before; s, p, l are what they are at t: the same task has the slot, it is the
  -- last, and its loading has gone on
  module _ (s : State) (p l k : ℕ) (f : First (order y t s) (complete s) y.tasks p) (idle : p ≡ 0 → l ≡ 0)
      (begun : (i : ℕ) → i < y.tasks → complete s i ≡ false → (y.row i).offset ≤ t) (quiet : Quiet y t (suc (suc k))) (busy : Busy s p l (suc k)) (firm : Firm y t s p l (suc k))
      (m : Alike y.tasks (run y c (t + suc k)) (jump s p l (suc k))) where
    stay : (jump s p l (suc k)).last ≡ p
    stay = last_stays y.tasks s p l (first_le (order y t s) (complete s) y.tasks p f) (suc k) p refl busy

    later : Alike y.tasks (now y c (t + suc k)) (jump s p l (suc k))
    later = joined_quiet y.tasks (joins y (t + suc k)) _ (run y c (t + suc k)) (jump s p l (suc k)) (λ i h. quiet i (t + suc k) h (omega arith) (omega arith))
        (omega (arith, stay, first_le (order y t s) (complete s) y.tasks p f)) m

    same : (i : ℕ) → i < y.tasks → complete s i ≡ complete (now y c (t + suc k)) i
    same i h = sym (jump_done y.tasks s p l (first_le (order y t s) (complete s) y.tasks p f) (suc k) busy i) ∙ (rw (later.need i h, later.executed i h))

    ranks : (i : ℕ) → i < y.tasks → complete s i ≡ false → rank y t i ≡ rank y (t + suc k) i
    ranks i h e = ap (y.key i) (sym (newest_quiet (y.row i) (pos i h) t (suc k) (begun i h e) (λ v a b. quiet i v h a (omega arith))))

    held_on : Firm y t s p l (suc k) → ByRank y t s p ⊎ ((j : ℕ) → p ≡ suc j → y.held j ((now y c (t + suc k)).executed j) ≡ true)
    held_on (inl g) = inl g
    held_on (inr g) = inr (λ j e.
        let below : j < y.tasks = omega (arith, first_le (order y t s) (complete s) y.tasks p f) in
        rw (later.executed j below, eq-eqb p (suc j) e) (g j e (suc k) (omega arith)))

    picked : whose y c (t + suc k) ≡ p
    picked = pick_is (order y (t + suc k) (now y c (t + suc k))) (complete (now y c (t + suc k))) y.tasks p
        (first_on y t (t + suc k) s (now y c (t + suc k)) p (later.last ∙ stay) same ranks (held_on firm) f)

    loaded : loading (lengths y (c (t + suc k))) (now y c (t + suc k)) p ≡ l - suc k
    loaded = loading_more y.tasks s p l (first_le (order y t s) (complete s) y.tasks p f) (lengths y (c (t + suc k))) (now y c (t + suc k)) (suc k) p refl idle
        (later.last ∙ stay) later.left

    goes_on : (whose y c (t + suc k) ≡ p) × (loads y c (t + suc k) ≡ l - suc k) × ((now y c (t + suc k)).last ≡ p)
    goes_on = (picked, ap (loading (lengths y (c (t + suc k))) (now y c (t + suc k))) picked ∙ loaded, later.last ∙ stay)

    more : Alike y.tasks (run y c (suc (t + suc k))) (jump s p l (suc (suc k)))
    more = rw (run_next y c (t + suc k), picked, loaded)
        (slot_more y.tasks s p l (first_le (order y t s) (complete s) y.tasks p f) (now y c (t + suc k)) (suc k) (λ i h. later.need i h) (λ i h. later.executed i h))

  -- THE JUMP
  pub jumps : (k : ℕ) → Quiet y t (suc k) → Busy (now y c t) (whose y c t) (loads y c t) k → Firm y t (now y c t) (whose y c t) (loads y c t) k
      → Alike y.tasks (run y c (t + suc k)) (jump (now y c t) (whose y c t) (loads y c t) (suc k))
  jumps zero quiet busy firm =
      let e : t + 1 ≡ suc t = omega arith in
      rw (e, run_next y c t) (slot_first y.tasks (now y c t) (whose y c t) (loads y c t) (first_le (order y t (now y c t)) (complete (now y c t)) y.tasks (whose y c t) (pick_first (order y t (now y c t)) (complete (now y c t)) y.tasks)))
  jumps (suc k) quiet busy firm = rw (add-suc t (suc k)) (more (now y c t) (whose y c t) (loads y c t) k (pick_first (order y t (now y c t)) (complete (now y c t)) y.tasks)
      (no_load (lengths y (c t)) (now y c t) (whose y c t)) (λ i h e. incomplete y c t i e) quiet busy firm
      (jumps k (λ i u h a b. quiet i u h a (omega arith)) (λ j e. omega (arith, busy j e)) (firm_less y t (now y c t) (whose y c t) (loads y c t) k (suc k) (omega arith) firm)))

  -- within it, the slot stays with the same task, which is the last, and its loading goes on
  pub inside : (k : ℕ) → Quiet y t (suc (suc k)) → Busy (now y c t) (whose y c t) (loads y c t) (suc k) → Firm y t (now y c t) (whose y c t) (loads y c t) (suc k)
      → (whose y c (t + suc k) ≡ whose y c t) × (loads y c (t + suc k) ≡ loads y c t - suc k) × ((now y c (t + suc k)).last ≡ whose y c t)
  inside k quiet busy firm = goes_on (now y c t) (whose y c t) (loads y c t) k (pick_first (order y t (now y c t)) (complete (now y c t)) y.tasks)
      (no_load (lengths y (c t)) (now y c t) (whose y c t)) (λ i h e. incomplete y c t i e) quiet busy firm
      (jumps k (λ i u h a b. quiet i u h a (omega arith)) (λ j e. omega (arith, busy j e)) (firm_less y t (now y c t) (whose y c t) (loads y c t) k (suc k) (omega arith) firm))

  -- what is complete stays so
  pub done_quiet : (k i : ℕ) → i < y.tasks → Quiet y t (suc k) → complete (now y c t) i ≡ true → complete (run y c (t + suc k)) i ≡ true
  done_quiet zero i h quiet e =
      let q : t + 1 ≡ suc t = omega arith in
      rw (q, run_next y c t) (test (complete (act y.tasks (order y t (now y c t)) (lengths y (c t)) (now y c t)) i) (λ z. z) (λ z. clash e (was (now y c t) (whose y c t) (loads y c t) i z)))
  done_quiet (suc k) i h quiet e = rw (add-suc t (suc k)) (keeps y c (t + suc k) i (quiet i (t + suc k) h (omega arith) (omega arith))
      (done_quiet k i h (λ j u a b d. quiet j u a b (omega arith)) e))

  -- NOTHING IS MISSED but what was incomplete and is due
  pub none_missed : (k : ℕ) → Quiet y t (suc k) → ((i : ℕ) → i < y.tasks → complete (now y c t) i ≡ false → due (y.row i) (t + suc k) ≡ false)
      → missed y (t + suc k) (run y c (t + suc k)) ≡ 0
  none_missed k quiet calm = pick_none (λ i. 0) (on_time y (t + suc k) (run y c (t + suc k))) y.tasks (λ i h. test (due (y.row i) (t + suc k))
      (λ e. rw e (done_quiet k i h quiet (test (complete (now y c t) i) (λ z. z) (λ z. clash e (calm i h z)))))
      (λ e. rw e refl))

  -- FOR A LOOP: m slots at once, up to the next release, the next deadline of an incomplete task, the completion of the task that
  -- has the slot, or the end of its chunk, if it does not go first by policy; or any fewer
  pub event : (m : ℕ) → 0 < m → Quiet y t m → Busy (now y c t) (whose y c t) (loads y c t) (m - 1) → Firm y t (now y c t) (whose y c t) (loads y c t) (m - 1)
      → ((i v : ℕ) → i < y.tasks → complete (now y c t) i ≡ false → t < v → v < t + m → due (y.row i) v ≡ false)
      → Alike y.tasks (run y c (t + m)) (jump (now y c t) (whose y c t) (loads y c t) m) × ((v : ℕ) → t < v → v < t + m → missed y v (run y c v) ≡ 0)
  event m some quiet busy firm calm = (first, λ v a b. between v a b)
    where
      first : Alike y.tasks (run y c (t + m)) (jump (now y c t) (whose y c t) (loads y c t) m)
      first =
          let e : suc (m - 1) ≡ m = omega arith in
          rw e at (jumps (m - 1) (λ i u h a b. quiet i u h a (omega arith)) busy firm)

      between : (v : ℕ) → t < v → v < t + m → missed y v (run y c v) ≡ 0
      between v a b =
          let e : t + suc (v - suc t) ≡ v = omega arith in
          rw e at (none_missed (v - suc t) (λ i u h p q. quiet i u h p (omega arith)) (λ i h p. calm i (t + suc (v - suc t)) h p (omega arith) (omega arith)))

-- FOR A LOOP THAT COUNTS DOWN: the next release after t is at suc t + until w (suc t)
module _ (w : Row) where
  pub until_falls : (t d : ℕ) → d ≤ until w t → until w (t + d) ≡ until w t - d
  unfolding until
  until_falls t zero h = rw (add-zero t) (omega arith)
  until_falls t (suc d) h =
      let e = until_falls t d (omega arith) in
      rw (add-suc t d, e, ne_eqb (until w t - d) 0 (λ z. absurd (omega arith))) (pred_less (until w t) d)

  pub quiet_until : 0 < w.period → (t u : ℕ) → t < u → u < suc t + until w (suc t) → released w u ≡ false
  quiet_until pos t u a b =
      let e : suc t + (u - suc t) ≡ u = omega arith in
      let f = rw e at (until_falls (suc t) (u - suc t) (omega arith)) in
      released_until w pos u ∙ ne_eqb (until w u) 0 (λ z. absurd (omega arith))

  -- where nothing is released between, the one deadline between is that of the newest job
  pub quiet_due : 0 < w.period → 0 < w.deadline → w.deadline ≤ w.period → (t v : ℕ) → w.offset ≤ t → t < v → ((u : ℕ) → t < u → u < v → released w u ≡ false)
      → (v ≡ newest w t + w.deadline → ⊥) → due w v ≡ false
  quiet_due pos some short t v h a quiet other = test (due w v) (λ e. absurd (other (go e))) (λ e. e)
    where
      go : due w v ≡ true → v ≡ newest w t + w.deadline
      go e =
          let p : suc (v - 1) ≡ v = omega arith in
          let q : t + (v - 1 - t) ≡ v - 1 = omega arith in
          let n = rw q at (newest_quiet w pos t (v - 1 - t) h (λ u k l. quiet u k (omega arith))) in
          omega (arith, n, due_newest w some short (v - 1) (rw p e))
