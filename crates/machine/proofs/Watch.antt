-- Marks, as the loop goes by them: what was kept at the last mark stands for the run there, and no mark so far has the state of the
-- mark before. So the first mark that is equal is found, and where none is, none is equal.
use mathlib.Core.Path.{◌≡◌, refl, sym, ◌∙◌}
use mathlib.Core.Logic.{◌⊎◌, inl, inr, ◌≢◌}
use mathlib.Core.List.{List}
use Prim.Native.Nat.{ℕ, zero, suc, ◌+◌, ◌*◌, ◌≤◌, ◌<◌}
use native.Mathlib.Omega.{arith}
use native.Mathlib.Nat.{mul-le-mul_right}
use lib.ListN.{get_or}
use Rattle.rules.specs.declared.Table.{Table}
use Rattle.std.proofs.Common.{Option, None, Some}
use Rattle.basics.specs.Cases.{eq_case, le_case}
use Rattle.slots.specs.Jobs.{never}
use Rattle.machine.specs.declared.state.State.{State}
use Rattle.machine.specs.declared.marks.Mark.{Mark}
use Rattle.machine.specs.Machine.{Sound, state_at, nothing, At, mark_of, SameAt, Again, Repeated}

-- what is kept of a state stands for the run at time u
pub record KeptAt (p : ℕ) (t : Table) (xs zs : List ℕ) (u : ℕ) (m : Mark) : Type 0 where
  pub executed : (i : ℕ) → i < t.count → (get_or m.executed i nothing).0 ≡ (state_at p t xs zs u).executed i
  pub last : m.last ≡ (state_at p t xs zs u).last
  pub left : m.left.0 ≡ (state_at p t xs zs u).left

abbrev pub KeptIn : ℕ → Table → List ℕ → List ℕ → ℕ → Option Mark → Type 0
KeptIn p t xs zs u None = ⊥
KeptIn p t xs zs u (Some m) = KeptAt p t xs zs u m

-- n is the next mark, the k-th, and not before u; there is a mark before it, unless it is the first
pub record Watch (p : ℕ) (t : Table) (xs zs : List ℕ) (n u : ℕ) (was : Option Mark) : Type 0 where
  pub k : ℕ
  pub mark : n ≡ mark_of t k
  pub ahead : u ≤ n
  pub none : k ≡ 0 → was ≡ None
  pub kept : (j : ℕ) → k ≡ suc j → KeptIn p t xs zs (mark_of t j) was
  pub apart : (i : ℕ) → suc i < k → SameAt p t xs zs i → ⊥

-- marks are compared only if the first is Omax
pub record Watched (p : ℕ) (t : Table) (xs zs : List ℕ) (first mark u : ℕ) (was : Option Mark) : Type 0 where
  pub unmarked : first ≡ never → mark ≡ never
  pub marked : first ≡ t.omax → Watch p t xs zs mark u was

abbrev pub keep : State → Mark
keep s = record { executed = s.executed; last = s.last; left = s.left }

pub watched_start : {p : ℕ} {t : Table} {xs zs : List ℕ} {first : ℕ} → Watched p t xs zs first first 0 None
watched_start = record {
  unmarked = λ f. f;
  marked = λ f. record {
    k = 0;
    mark = omega (arith, f);
    ahead = omega arith;
    none = λ z. refl;
    kept = λ j z. absurd (omega arith);
    apart = λ i h. absurd (omega arith);
  };
}

module _ {p : ℕ} {t : Table} {xs zs : List ℕ} {first mark u : ℕ} {was : Option Mark} (w : Watched p t xs zs first mark u was) (low : u < never) where
  -- the next mark is later, where it is not now
  pub mark_later : (first ≡ never) ⊎ (first ≡ t.omax) → mark ≢ u → u < mark
  mark_later (inl e) apart = omega (arith, w.unmarked e)
  mark_later (inr e) apart = le_case mark u (λ h. absurd (apart (omega (arith, (w.marked e).ahead)))) (λ h. h)

  -- a mark that is now is one
  pub mark_now : (first ≡ never) ⊎ (first ≡ t.omax) → mark ≡ u → first ≡ t.omax
  mark_now (inl e) now = absurd (omega (arith, w.unmarked e))
  mark_now (inr e) now = e

  -- time goes on, not past the mark
  pub watched_on : (v : ℕ) → v ≤ mark → Watched p t xs zs first mark v was
  watched_on v h = record {
    unmarked = w.unmarked;
    marked = λ f. let x = w.marked f in record { k = x.k; mark = x.mark; ahead = h; none = x.none; kept = x.kept; apart = x.apart };
  }

  -- no mark up to now is equal to the one before
  pub none_equal : mark ≢ u → first ≡ t.omax → (i : ℕ) → mark_of t (suc i) ≤ u → SameAt p t xs zs i → ⊥
  none_equal later f i h = let x = w.marked f in le_case x.k (suc i)
      (λ g.
      let m : x.k * t.hyper ≤ suc i * t.hyper = mul-le-mul_right t.hyper g in
      absurd (later (omega (arith, m, x.mark, x.ahead, h))))
      (λ g. x.apart i g)

  -- AT A MARK
  module _ (sound : Sound t) (now : mark ≡ u) (f : first ≡ t.omax) {s : State} (a : At p t xs zs u s) where
    abbrev watch : Watch p t xs zs mark u was
    watch = w.marked f

    at_mark : u ≡ mark_of t watch.k
    at_mark = sym now ∙ watch.mark

    kept_now : KeptAt p t xs zs (mark_of t watch.k) (keep s)
    kept_now = rw (← at_mark) (record { executed = λ i h. (a.tasks i h).executed; last = a.last; left = a.left })

    -- equal to the mark before
    same_as : (j : ℕ) → watch.k ≡ suc j → Again t.count (keep s) was → SameAt p t xs zs j
    same_as j e = go was (watch.kept j e)
      where
        go : (o : Option Mark) → KeptIn p t xs zs (mark_of t j) o → Again t.count (keep s) o → SameAt p t xs zs j
        go None b like = absurd b
        go (Some m) b like =
            let c = rw e at kept_now in
            record {
              executed = λ i h. let l : i < t.count = omega (arith, sound.count) in sym (b.executed i l) ∙ sym (like.executed i l) ∙ c.executed i l;
              last = sym b.last ∙ sym like.last ∙ c.last;
              left = sym b.left ∙ sym like.left ∙ c.left;
            }

    like_as : (j : ℕ) → watch.k ≡ suc j → SameAt p t xs zs j → Again t.count (keep s) was
    like_as j e same = go was (watch.kept j e)
      where
        go : (o : Option Mark) → KeptIn p t xs zs (mark_of t j) o → Again t.count (keep s) o
        go None b = absurd b
        go (Some m) b =
            let c = rw e at kept_now in
            record {
              executed = λ i h. c.executed i h ∙ sym (same.executed i (omega (arith, sound.count))) ∙ sym (b.executed i h);
              last = c.last ∙ sym same.last ∙ sym b.last;
              left = c.left ∙ sym same.left ∙ sym b.left;
            }

    pub repeats_now : Again t.count (keep s) was → Repeated p t xs zs u
    repeats_now like = go watch.k refl
      where
        go : (n : ℕ) → watch.k ≡ n → Repeated p t xs zs u
        go zero e = absurd (rw (watch.none e) at like)
        go (suc j) e = record {
          k = j;
          mark = rw e at at_mark;
          same = same_as j e like;
          apart = λ i h. watch.apart i (omega arith);
        }

    pub watched_next : (Again t.count (keep s) was → ⊥) → Watched p t xs zs first (u + t.hyper) u (Some (keep s))
    watched_next differ = record {
      unmarked = λ e. absurd (omega (arith, w.unmarked e));
      marked = λ g. record {
        k = suc watch.k;
        mark = omega (arith, at_mark);
        ahead = omega arith;
        none = λ z. absurd (omega arith);
        kept = λ j e. let q : watch.k ≡ j = omega arith in rw q at kept_now;
        apart = λ i h. eq_case watch.k (suc i)
            (λ e same. differ (like_as i e same))
            (λ e. watch.apart i (omega arith));
      };
    }
