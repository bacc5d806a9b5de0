-- What the task that has the slot at time u loads: it goes on with its loading if the slot before was this same job's, and begins one
-- otherwise, with the next entry of the list.
use mathlib.Core.Path.{◌≡◌, refl, sym, ap, ◌∙◌}
use mathlib.Core.Logic.{◌≢◌}
use mathlib.Core.Bool.{Bool, false, cond}
use mathlib.Core.List.{List}
use Prim.Native.Nat.{ℕ, zero, suc, ◌+◌, ◌/◌, ◌<◌, min}
use native.Mathlib.Omega.{arith}
use native.Mathlib.Nat.{zero-add}
use borrow.Author.Tests.{eq-eqb, ne_eqb, lt-ltb, le-ltb}
use lib.Dec.{eqb, eqb-suc-zero}
use lib.ListN.{get_or, drop, length}
use lib.Seq.{get_or-drop}
use Rattle.rules.specs.declared.Row.{Row}
use Rattle.rules.specs.declared.Executed.{Executed}
use Rattle.rules.specs.declared.Loading.{Loading}
use Rattle.rules.specs.declared.Table.{Table}
use Rattle.rules.specs.Policies.{row}
use Rattle.rules.specs.Slots.{released, unless, delay, loading, joins, lengths}
use Rattle.rules.specs.AsRun.{one, begins, as_run}
use Rattle.basics.specs.Cases.{test, le_case, eq_case, clash}
use Rattle.theory.proofs.Runs.{unreleased}
use Rattle.theory.proofs.Falls.{sane}
use Rattle.theory.specs.Counters.{until, counts}
use Rattle.slots.specs.Jobs.{used_of, continues_of, delay_of, begins_of}
use Rattle.machine.specs.declared.state.State.{State}
use Rattle.machine.specs.declared.turn.ToLoad.{ToLoad}
use Rattle.machine.specs.Turns.{load_of}
use Rattle.machine.specs.Machine.{live, system_in, choices, state_at, nothing, release_in}
use Rattle.machine.proofs.SoundTables.{period_some}
use Rattle.machine.proofs.Pass.{until_release, until_go, used_drop, now_in, who_in, load_in, loadings_after}
use Rattle.machine.proofs.Joins.{Ready}
use Rattle.machine.proofs.Who.{release_time}

-- one entry of a list, if it is used
used_first : (zs l : List ℕ) (a : ℕ) (uses b : Bool) → drop a zs ≡ l → uses ≡ b → drop (used_of uses a (length zs)) zs ≡ drop (one b) l
used_first zs l a uses b e f = used_drop zs l a 0 uses e ∙ ap (λ n. drop n l) (zero-add (one uses)) ∙ ap (λ c. drop (one c) l) f

unless_other : (d : ℕ → Bool) (l j : ℕ) → l ≢ suc j → eqb (unless d l) (suc j) ≡ false
unless_other d zero j e = ne_eqb 0 (suc j) e
unless_other d (suc k) j e = test (d k) (λ q. rw q (ne_eqb 0 (suc j) (λ g. omega arith))) (λ q. rw q (ne_eqb (suc k) (suc j) e))

delay_is : (w : Row) (m : ℕ) → ◌≡◌ {A = ℕ} (cond {A = Loading} (eqb m 0) (record { 0 = w.start }) (record { 0 = w.resume })).0 (delay w m)
delay_is w zero = refl
delay_is w (suc m) = rw (eqb-suc-zero m)

module _ {p : ℕ} {t : Table} {xs zs : List ℕ} {u : ℕ} {s₀ s : State} (r : Ready p t xs zs u s₀ s)
    {i : ℕ} (below : i < t.count) (has : who_in p t xs zs u ≡ suc i) where
  pos : 0 < (row (live t) i).period
  pos = period_some t r.sound i below

  same_last : s.last ≡ (state_at p t xs zs u).last
  same_last = r.passed.last ∙ r.at.last

  -- where it was the last, it has been released before
  started : (state_at p t xs zs u).last ≡ suc i → (row (live t) i).offset < u
  started e = le_case u (row (live t) i).offset
      (λ k. clash (unreleased (system_in p t) (choices p t xs zs) u i k) ((sane (system_in p t) (choices p t xs zs) u).current i e).1)
      (λ k. k)

  release_is : release_in s i / 16 ≡ suc u + until (row (live t) i) (suc u)
  release_is = release_time r below

  continues_in : continues_of s.last (suc i) (release_in s i / 16) (u + (row (live t) i).period) ≡ eqb (now_in p t xs zs u).last (suc i)
  continues_in = eq_case (state_at p t xs zs u).last (suc i)
      (λ e. rw (same_last, e, eq-eqb (suc i) (suc i) refl) (test (released (row (live t) i) u)
      (λ j. rw j (le-ltb (release_in s i / 16) (u + (row (live t) i).period) (omega (arith, release_is, until_release (row (live t) i) pos u j))
      ∙ sym (ne_eqb 0 (suc i) (λ g. omega arith))))
      (λ j. rw j (lt-ltb (release_in s i / 16) (u + (row (live t) i).period)
      (omega (arith, release_is, until_go (row (live t) i) pos u j, (counts (row (live t) i) pos u).soon (started e)))
      ∙ sym (eq-eqb (suc i) (suc i) refl)))))
      (λ e. rw (same_last, ne_eqb (state_at p t xs zs u).last (suc i) e) (sym (unless_other (joins (system_in p t) u) (state_at p t xs zs u).last i e)))

  done : Executed
  done = get_or s.executed i nothing

  delay_in : (delay_of (row (live t) i) done).0 ≡ delay (row (live t) i) ((now_in p t xs zs u).executed i)
  unfolding done
  delay_in = rw (r.passed.joined i below).executed (delay_is (row (live t) i) ((now_in p t xs zs u).executed i))

  begun_in : drop s.begun zs ≡ (as_run (system_in p t) xs zs u).loadings
  begun_in = ap (λ b. drop b zs) r.passed.begun ∙ r.at.begun

  -- the next entry of the list
  len : get_or zs s.begun (delay_of (row (live t) i) done).0 ≡ (choices p t xs zs u).len i ((now_in p t xs zs u).executed i)
  len =
      let e : s.begun + 0 ≡ s.begun = omega arith in
      rw delay_in (rw e at (sym (get_or-drop s.begun zs 0 (delay (row (live t) i) ((now_in p t xs zs u).executed i)))
      ∙ ap (λ l. get_or l 0 (delay (row (live t) i) ((now_in p t xs zs u).executed i))) begun_in))

  module _ {again : Bool} (on : again ≡ continues_of s.last (suc i) (release_in s i / 16) (u + (row (live t) i).period))
      {l : ToLoad} (is : l ≡ load_of (row (live t) i) (get_or s.executed i nothing) again s.left s.begun zs) where
    goes_on : again ≡ eqb (now_in p t xs zs u).last (suc i)
    goes_on = on ∙ continues_in

    pub loads_in : l.slots.0 ≡ load_in p t xs zs u
    unfolding done
    loads_in = ap (λ (x : ToLoad). x.slots.0) is
        ∙ sym (ap (loading (lengths (system_in p t) (choices p t xs zs u)) (now_in p t xs zs u)) has ∙ test (eqb (now_in p t xs zs u).last (suc i))
        (λ e. rw (e, goes_on ∙ e) (sym r.at.left ∙ ap (λ (x : Loading). x.0) (sym r.passed.left)))
        (λ e. rw (e, goes_on ∙ e) (sym (ap (λ x. min x (delay_of (row (live t) i) done).0) len
        ∙ ap (min ((choices p t xs zs u).len i ((now_in p t xs zs u).executed i))) delay_in))))

    uses_in : begins_of again (delay_of (row (live t) i) done) ≡ begins (system_in p t) (now_in p t xs zs u) (who_in p t xs zs u)
    uses_in = (test (eqb (now_in p t xs zs u).last (suc i)) (λ e. rw (goes_on ∙ e, e)) (λ e. rw (goes_on ∙ e, e, delay_in)))
        ∙ sym (ap (begins (system_in p t) (now_in p t xs zs u)) has)

    pub loadings_in : drop l.begun zs ≡ loadings_after p t xs zs u
    unfolding done
    loadings_in = ap (λ (x : ToLoad). drop x.begun zs) is
        ∙ used_first zs (as_run (system_in p t) xs zs u).loadings s.begun _ _ begun_in uses_in
