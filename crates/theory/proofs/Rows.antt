-- A table that passes the checks meets what the laws ask, under every policy whose comparisons repeat; so slots needed exists, once,
-- and is at most 2^48. Check 12 stands apart, as a profile may replace it.
use Rattle.std.specs.Prelude.{◌≡◌, refl, true, List, [], ◌∷◌, ℕ, zero, suc, ◌%◌, ◌^◌, ◌≤◌, eqb}
use Rattle.std.proofs.Math.Nat.{mod-one}
use Rattle.std.proofs.Common.{arith, eqb-true}
use Rattle.rules.specs.declared.Row.{Row}
use Rattle.rules.specs.Table.{omax, whole, hyper}
use Rattle.rules.specs.Policies.{Policy, blank, row, system}
use Rattle.rules.specs.Decided.{SlotsNeeded}
use Rattle.rules.specs.Verdicts.{plain}
use Rattle.basics.specs.Cases.{both_true}
use Rattle.basics.specs.Search.{lowest_holds}
use Rattle.reordering.specs.All.{All}
use Rattle.theory.specs.Policies.{Repeats}
use Rattle.theory.specs.Times.{Free, Quick, Short, Turn}
use Rattle.theory.specs.Twin.{slots}
use Rattle.theory.specs.Decides.{Within}
use Rattle.theory.proofs.Decides.{slots_one, slots_are, slots_limit}
use Rattle.theory.specs.Rows.{Fits, Passes, Valid}

all_rows : (P : Row → Type 0) → P blank → (ws : List Row) → All P ws → (i : ℕ) → P (row ws i)
all_rows P b [] h i = b
all_rows P b (w ∷ ws) h zero = h.0
all_rows P b (w ∷ ws) h (suc i) = all_rows P b ws h.1 i

whole_rows : (ws : List Row) (h : ℕ) → whole ws h ≡ true → (i : ℕ) → h % (row ws i).period ≡ 0
unfolding whole
whole_rows [] h e i = mod-one h
whole_rows (w ∷ ws) h e zero = eqb-true (h % w.period) 0 (both_true (eqb (h % w.period) 0) (whole ws h) e).0
whole_rows (w ∷ ws) h e (suc i) = whole_rows ws h (both_true (eqb (h % w.period) 0) (whole ws h) e).1 i

omax_rows : (ws : List Row) (i : ℕ) → (row ws i).offset ≤ omax ws
unfolding omax
omax_rows [] i = omega arith
omax_rows (w ∷ ws) zero = omega arith
omax_rows (w ∷ ws) (suc i) = omega (arith, omax_rows ws i)

omax_top : (ws : List Row) → All Fits ws → omax ws ≤ 10000
unfolding omax
omax_top [] h = omega arith
omax_top (w ∷ ws) h = omega (arith, h.0.offset, omax_top ws h.1)

module _ (k : Policy) (again : Repeats k) (ws : List Row) (v : Passes ws) where
  fits : (i : ℕ) → Fits (row ws i)
  fits = all_rows Fits (record { short = omega arith; wcet = omega arith; start = omega arith; offset = omega arith }) ws v.rows

  pub shorts : Short (system k ws)
  shorts i = (fits i).short

  pub turn : Turn (system k ws) (hyper ws)
  turn = record {
    whole = whole_rows ws (hyper ws) (lowest_holds (λ h. whole ws (suc h)) 100000 v.limit);
    again = λ i j. again (hyper ws) (row ws i) (row ws j);
  }

  pub within : Within (system k ws) (omax ws) (hyper ws)
  within = record {
    offsets = omax_rows ws;
    tasks = v.count;
    wcets = λ i. (fits i).wcet;
    starts = λ i. (fits i).start;
    omax = omax_top ws v.rows;
    some = omega arith;
    hyper = v.limit;
  }

-- the normal profile: a job may be preempted at any slot
pub frees : (k : Policy) (ws : List Row) → Free (system k ws)
frees k ws i m = refl

module _ (k : Policy) (again : Repeats k) (ws : List Row) (v : Valid ws) where
  pub quicks : Quick (system k ws)
  quicks = all_rows (λ w. w.resume ≤ w.start) (omega arith) ws v.quick

  -- IN DOCUMENT 01'S WORDS
  pub needed : SlotsNeeded (system k ws) (omax ws) (hyper ws) plain (slots (system k ws) (omax ws) (hyper ws))
  needed = slots_are (system k ws) (frees k ws) quicks (shorts k again ws v.passes) (omax ws) (hyper ws) (turn k again ws v.passes) (within k again ws v.passes)

  -- "An allowance of 2^48 slots always decides."
  pub at_most : (n : ℕ) → SlotsNeeded (system k ws) (omax ws) (hyper ws) plain n → n ≤ 2 ^ 48
  at_most n s =
      let most = slots_limit (system k ws) (frees k ws) quicks (shorts k again ws v.passes) (omax ws) (hyper ws) (turn k again ws v.passes) (within k again ws v.passes) in
      rw (slots_one (system k ws) (omax ws) (hyper ws) plain _ n needed s) at most
