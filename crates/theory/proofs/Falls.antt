-- From one hyper-period to the next the schedule's state stays or falls, by a weight that is a number: what has executed, and then
-- how little loading is left. By the cousins no executed count rises; where all are equal, the job that went on either stops or has
-- more loading left. So the states at Omax + k × H differ for finitely many k only, whether or not jobs are missed.
use Rattle.std.specs.Prelude.{◌≡◌, refl, Bool, false, ◌&&◌, ℕ, zero, suc, ◌+◌, ◌*◌, ◌≤◌, ◌<◌, pred, eqb}
use Rattle.std.proofs.Common.{sym, ◌∙◌, add-zero, arith, leb-true, leb-false, eqb-true}
use Rattle.std.proofs.Math.Dec.{eqb-suc-zero}
use Rattle.rules.specs.declared.Row.{Row}
use Rattle.rules.specs.Policies.{System}
use Rattle.rules.specs.Slots.{State, Choice, complete, release, pick, loading, delay, joins, order, requests, lengths, joined, run, stated, schedule}
use Rattle.rules.specs.Decided.{Same}
use Rattle.basics.specs.Cases.{test, eq_case, both_true, upto}
use Rattle.theory.specs.Uniform.{uniform}
use Rattle.theory.proofs.Uniform.{run_next}
use Rattle.theory.specs.Order.{First, pick_first}
use Rattle.theory.proofs.Domination.{dropped_is}
use Rattle.theory.specs.Times.{Free, Quick, Turn}
use Rattle.theory.specs.Runs.{Ahead}
use Rattle.theory.proofs.Runs.{cousins, full}
use Rattle.theory.specs.Falls.{Sane, total, share, weight}

within_release : (x : ℕ → Bool) (c : ℕ → ℕ) (s : State) → ((i : ℕ) → s.executed i ≤ s.need i) → (i : ℕ) → (release x c s).executed i ≤ (release x c s).need i
within_release x c s h i = test (x i) (λ e. rw e (omega arith)) (λ e. rw e (h i))

rest_slot : (r : ℕ → ℕ) (n : ℕ) (s : State) (p l : ℕ) → First r (complete s) n p → (p ≡ 0 → l ≡ 0) → (uniform s p l).last ≡ 0 → pred l ≡ 0
rest_slot r n s zero l f h e = let z = h refl in omega arith
rest_slot r n s (suc j) zero f h e = refl
rest_slot r n s (suc j) (suc l) f h e = absurd (none (rw (eqb-suc-zero l, add-zero (s.executed j), f.1) at e))
  where
    none : suc j ≡ 0 → ⊥
    none k = omega arith

sane_slot : (r : ℕ → ℕ) (n : ℕ) (s : State) (p l : ℕ) → ((i : ℕ) → s.executed i ≤ s.need i) → First r (complete s) n p → (p ≡ 0 → l ≡ 0) → Sane n (uniform s p l)
sane_slot r n s p l w f h = record {
  within = λ i. test (eqb l 0 && eqb p (suc i))
      (λ e. let k : First r (complete s) n (suc i) = rw (eqb-true p (suc i) (both_true (eqb l 0) (eqb p (suc i)) e).1) at f in rw e (omega (arith, leb-false (s.need i) (s.executed i) k.1)))
      (λ e. rw e (omega (arith, w i)));
  current = λ j e. let k = dropped_is _ p j e in let q : First r (complete s) n (suc j) = rw k.0 at f in (q.0, k.1);
  rest = rest_slot r n s p l f h;
}

loading_none : (load : ℕ → ℕ → ℕ) (s : State) (p : ℕ) → p ≡ 0 → loading load s p ≡ 0
loading_none load s p e = rw e refl

pub sane : (y : System) (c : ℕ → Choice) (t : ℕ) → Sane y.tasks (run y c t)
unfolding run
sane y c zero = record { within = λ i. omega arith; current = λ j e. absurd (omega arith); rest = λ e. refl }
sane y c (suc t) =
    let s = joined y (c t) t (run y c t) in
    let p = pick (order y t s) (complete s) y.tasks in
    rw (run_next y c t) (sane_slot (order y t s) y.tasks s p (loading (lengths y (c t)) s p) (within_release (joins y t) (requests y (c t)) (run y c t) (sane y c t).within)
    (pick_first (order y t s) (complete s) y.tasks) (loading_none (lengths y (c t)) s p))

pub total_le : (f g : ℕ → ℕ) → ((i : ℕ) → f i ≤ g i) → (n : ℕ) → total f n ≤ total g n
unfolding total
total_le f g h zero = omega arith
total_le f g h (suc n) = omega (arith, total_le f g h n, h n)

pub total_tight : (f g : ℕ → ℕ) → ((i : ℕ) → f i ≤ g i) → (n : ℕ) → total f n ≡ total g n → (i : ℕ) → i < n → f i ≡ g i
unfolding total
total_tight f g h zero e = λ i k. absurd (omega arith)
total_tight f g h (suc n) e = upto (λ i. f i ≡ g i) n (total_tight f g h n (omega (arith, total_le f g h n, h n))) (omega (arith, total_le f g h n, h n))

pub total_top : (f : ℕ → ℕ) (c : ℕ) → ((i : ℕ) → f i ≤ c) → (n : ℕ) → total f n ≤ n * c
unfolding total
total_top f c h zero = omega arith
total_top f c h (suc n) = omega (arith, total_top f c h n, h n)

share_top : (p l : ℕ) → share p l ≤ 10001
share_top zero l = omega arith
share_top (suc j) l = omega arith

pub weight_top : (n : ℕ) (s : State) → ((i : ℕ) → s.executed i ≤ 10000) → weight n s ≤ n * 10000 * 10002 + 10001
weight_top n s h = omega (arith, total_top s.executed 10000 h n, share_top s.last s.left)

delay_top : (w : Row) → w.resume ≤ w.start → (m : ℕ) → delay w m ≤ w.start
delay_top w q zero = omega arith
delay_top w q (suc m) = q

module _ (y : System) (free : Free y) (quick : Quick y) (h : ℕ) (turn : Turn y h) (loads : (i : ℕ) → (y.row i).start ≤ 10000) (t : ℕ) where
  lead : Ahead y (schedule y t) (schedule y (t + h))
  lead = cousins y free quick h turn t

  pub ran_falls : (i : ℕ) → (schedule y (t + h)).executed i ≤ (schedule y t).executed i
  ran_falls i = test (complete (schedule y t) i)
      (λ e. omega (arith, leb-true ((schedule y t).need i) ((schedule y t).executed i) e, full y t i, full y (t + h) i, (sane y (stated y) (t + h)).within i))
      (λ e. lead.ahead i e)

  left_top : (j : ℕ) → (schedule y t).last ≡ suc j → (schedule y t).left ≤ 10000
  left_top j e = omega (arith, lead.side j e, delay_top (y.row j) (quick j) ((schedule y t).executed j), loads j)

  -- the last jobs, where what has executed is the same
  module _ (executed : (i : ℕ) → i < y.tasks → (schedule y t).executed i ≡ (schedule y (t + h)).executed i) where
    stay_or_fall : (p q : ℕ) → (schedule y t).last ≡ p → (schedule y (t + h)).last ≡ q → (Same y.tasks (schedule y t) (schedule y (t + h)) → ⊥)
        → share q (schedule y (t + h)).left < share p (schedule y t).left
    stay_or_fall zero zero e f differ = absurd (differ (record { executed = executed; last = e ∙ sym f; left = (sane y (stated y) t).rest e ∙ sym ((sane y (stated y) (t + h)).rest f) }))
    stay_or_fall (suc j) zero e f differ = omega (arith, left_top j e)
    stay_or_fall p (suc j) e f differ =
        let u = (sane y (stated y) (t + h)).current j f in
        let v : complete (schedule y t) j ≡ false = rw (full y t j ∙ sym (full y (t + h) j), executed j u.0) u.1 in
        let k = lead.same j f v in
        rw (sym e ∙ k.0) (eq_case (schedule y t).left (schedule y (t + h)).left
        (λ q. absurd (differ (record { executed = executed; last = k.0 ∙ sym f; left = q })))
        (λ q. omega (arith, left_top j k.0, k.1)))

  -- states that differ fall
  pub falls : (Same y.tasks (schedule y t) (schedule y (t + h)) → ⊥) → weight y.tasks (schedule y (t + h)) < weight y.tasks (schedule y t)
  falls differ = eq_case (total (schedule y (t + h)).executed y.tasks) (total (schedule y t).executed y.tasks)
      (λ e. omega (arith, e, stay_or_fall (λ i k. sym (total_tight _ _ ran_falls y.tasks e i k)) (schedule y t).last (schedule y (t + h)).last refl refl differ))
      (λ e. omega (arith, e, total_le (schedule y (t + h)).executed (schedule y t).executed ran_falls y.tasks, share_top (schedule y (t + h)).last (schedule y (t + h)).left))
