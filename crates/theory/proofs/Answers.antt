-- Worked tables by computation: a test that computes, and the law that a table which passes it has the reply as the rules word it. The
-- test computes the twin; that the twin is the relation is `Decides`.
use Rattle.std.specs.Prelude.{◌≡◌, true, List, [], ◌∷◌, ℕ, zero, suc, ◌+◌, ◌*◌, ◌≤◌, eqb, ltb}
use Rattle.std.proofs.Common.{sym, ◌∙◌, inl, inr, arith, eqb-true, leb-true, ltb-true}
use Rattle.rules.specs.declared.Row.{Row}
use Rattle.rules.specs.Table.{omax, hyper}
use Rattle.rules.specs.Policies.{System, policy}
use Rattle.rules.specs.Slots.{stated}
use Rattle.rules.specs.Decided.{missed_at, Settles, SlotsNeeded}
use Rattle.rules.specs.Verdicts.{plain, missed_id}
use Rattle.basics.specs.Cases.{both_true, every, each}
use Rattle.reordering.specs.All.{All}
use Rattle.theory.specs.Policies.{policy_repeats}
use Rattle.theory.specs.Twin.{slots}
use Rattle.theory.specs.Times.{Short, Turn}
use Rattle.theory.specs.Decides.{Within}
use Rattle.theory.specs.Responses.{worst}
use Rattle.theory.proofs.Responses.{worst_is}
use Rattle.theory.specs.Rows.{Fits, Passes, Valid}
use Rattle.theory.proofs.Rows.{shorts, turn, within, needed}
use Rattle.theory.specs.Answers.{Case, system_for, Worsts, Reply, Right, fitb, fitsb, worstsb, replyb, tests, right, Rights, rights}

-- and that it suffices
quick_all : (ws : List Row) → fitsb ws ≡ true → All (λ w. w.resume ≤ w.start) ws
quick_all [] e = tt
quick_all (w ∷ ws) e = let k = both_true (every (fitb w)) (fitsb ws) e in (leb-true w.resume w.start (each (fitb w) k.0).0, quick_all ws k.1)

fits_all : (ws : List Row) → fitsb ws ≡ true → All Fits ws
fits_all [] e = tt
fits_all (w ∷ ws) e =
    let k = both_true (every (fitb w)) (fitsb ws) e in
    let f = each (fitb w) k.0 in (
      record {
        short = leb-true w.deadline w.period f.1.0;
        wcet = leb-true w.wcet 10000 f.1.1.0;
        start = leb-true w.start 10000 f.1.1.1.0;
        offset = leb-true w.offset 10000 f.1.1.1.1.0;
      },
      fits_all ws k.1,
    )

module _ (y : System) (short : Short y) (o h : ℕ) (tn : Turn y h) (l : Within y o h) where
  worsts_are : (n : ℕ) → Settles y o h plain n → (i : ℕ) (ms : List ℕ) → worstsb y n i ms ≡ true → Worsts y i ms
  worsts_are n s i [] e = tt
  worsts_are n s i (m ∷ ms) e =
      let f = each (ltb i y.tasks ∷ eqb (worst y i n) m ∷ worstsb y n (suc i) ms ∷ []) e in
      let q : o + suc s.k * h ≡ o + s.k * h + h = omega arith in
      let k = worst_is y short h tn l.some (o + s.k * h) (λ j. omega (arith, l.offsets j)) (rw q at s.equal) i (ltb-true i y.tasks f.0) in
      (rw (sym q ∙ sym s.number, eqb-true (worst y i n) m f.1.0) at k, worsts_are n s (suc i) ms f.1.1.0)

  reply_is : (n m : ℕ) (ms : List ℕ) → SlotsNeeded y o h plain n → replyb y n m ms ≡ true → Reply y o h n m ms
  reply_is n zero ms (inl a) e = absurd (a.misses (eqb-true (missed_at y (stated y) n) 0 (both_true _ (worstsb y n 0 ms) e).0))
  reply_is n zero ms (inr s) e = (s, worsts_are n s 0 ms (both_true (eqb (missed_at y (stated y) n) 0) (worstsb y n 0 ms) e).1)
  reply_is n (suc m) ms (inl a) e = (a, eqb-true _ (suc m) (both_true (ltb 0 (missed_at y (stated y) n)) (eqb (missed_id y (stated y) n) (suc m)) e).1)
  reply_is n (suc m) ms (inr s) e = absurd (omega (arith, s.never n, ltb-true 0 (missed_at y (stated y) n) (both_true _ (eqb (missed_id y (stated y) n) (suc m)) e).0))

pub right_is : (c : Case) → right c ≡ true → Right c
unfolding right
right_is c e =
    let f = each (tests c) e in
    let p = policy c.by in
    let a = policy_repeats c.by in
    let w : Passes c.rows = record { rows = fits_all c.rows f.0; count = leb-true _ 16 f.1.0; limit = leb-true _ 100000 f.1.1.0 } in
    let v : Valid c.rows = record { passes = w; quick = quick_all c.rows f.0 } in
    let q : slots (system_for c) (omax c.rows) (hyper c.rows) ≡ c.time = eqb-true _ c.time f.1.1.1.0 in
    reply_is (system_for c) (shorts p a c.rows w) (omax c.rows) (hyper c.rows) (turn p a c.rows w) (within p a c.rows w)
    c.time c.id c.worsts (rw q at (needed p a c.rows v)) f.1.1.1.1.0

pub rights_are : (cs : List Case) → rights cs ≡ true → Rights cs
rights_are [] e = tt
rights_are (c ∷ cs) e = let k = both_true (right c) (rights cs) e in (right_is c k.0, rights_are cs k.1)
