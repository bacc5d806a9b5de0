-- Which rows join at time u: the least release tells the next of them, and no row between has a release now. So rows join in turn, as
-- the rules go through them, until the least release is later.
use mathlib.Core.Path.{◌≡◌, sym, ap, ◌∙◌}
use mathlib.Core.Logic.{◌⊎◌, inl, inr, ◌≢◌}
use mathlib.Core.List.{List}
use Prim.Native.Nat.{ℕ, zero, suc, ◌+◌, ◌-◌, ◌/◌, ◌%◌, ◌≤◌, ◌<◌}
use native.Mathlib.Omega.{arith}
use native.Mathlib.Nat.{add-zero}
use lib.ListN.{get_or, length, set, take, length-set}
use lib.Seq.{get_or-set_same, get_or-set_other}
use Rattle.rules.specs.declared.Table.{Table}
use Rattle.rules.specs.Policies.{row}
use Rattle.basics.specs.Cases.{le_case, eq_case}
use Rattle.slots.specs.Jobs.{never}
use Rattle.machine.specs.declared.state.State.{State}
use Rattle.machine.specs.declared.join.Joined.{Joined}
use Rattle.machine.specs.Least.{Least, Places, LeastOf}
use Rattle.machine.specs.Turns.{tagged_of, joined_of}
use Rattle.machine.specs.Machine.{live, Sound, miss_at, release_in, Unused, At}
use Rattle.machine.proofs.SoundTables.{period_some, count_top}
use Rattle.machine.proofs.Minima.{least_part}
use Rattle.machine.proofs.Pass.{released_later, Passing, passing_start, passing_by, with_joined, passing_joins}

pub tag_parts : (n x i : ℕ) → n ≡ tagged_of x i → i < 16 → (n / 16 ≡ x) × (n % 16 ≡ i)
tag_parts n x i e h = (omega arith, omega arith)

-- two tagged numbers of different rows differ
tag_apart : (x y i j : ℕ) → i < 16 → j < 16 → tagged_of x i ≡ tagged_of y j → i ≡ j
tag_apart x y i j a b e = omega arith

-- all have joined at time u, where nothing is missed; s₀ is the state before they did. It has what was known before too, so that laws on
-- what follows ask for nothing else
pub record Ready (p : ℕ) (t : Table) (xs zs : List ℕ) (u : ℕ) (s₀ s : State) : Type 0 where
  pub sound : Sound t
  pub low : u ≤ 281474976710656
  pub at : At p t xs zs u s₀
  pub clear : miss_at p t xs zs u ≡ 0
  pub passed : Passing p t xs zs u s₀ t.count s
  pub rest : (k : ℕ) → t.count ≤ k → Unused k s
  pub next : Least t.count s.release s.next
  pub later : u < s.next / 16

-- so far: the tasks below i have joined
pub record Joining (p : ℕ) (t : Table) (xs zs : List ℕ) (u : ℕ) (s₀ s : State) : Type 0 where
  pub i : ℕ
  pub low : i ≤ t.count
  pub passing : Passing p t xs zs u s₀ i s
  pub next : Least t.count s.release s.next
  pub rest : (k : ℕ) → t.count ≤ k → Unused k s

module _ {p : ℕ} {t : Table} (sound : Sound t) {xs zs : List ℕ} {u : ℕ} (low : u ≤ 281474976710656) {s₀ : State} (a : At p t xs zs u s₀) where
  pub joining_start : u < s₀.soonest → Joining p t xs zs u s₀ s₀
  joining_start ahead = record { i = 0; low = omega arith; passing = passing_start sound a ahead; next = a.next; rest = a.rest }

  module _ {s : State} (g : Joining p t xs zs u s₀ s) where
    -- rows without a release now are gone through
    all_by : (n : ℕ) → g.i + n ≤ t.count → ((k : ℕ) → g.i ≤ k → k < g.i + n → release_in s k ≢ tagged_of u k) → Passing p t xs zs u s₀ (g.i + n) s
    all_by zero h f = rw (add-zero g.i) g.passing
    all_by (suc n) h f =
        let b = all_by n (omega arith) (λ k l m. f k l (omega arith)) in
        let e : g.i + suc n ≡ suc (g.i + n) = omega arith in
        let l : g.i + n < t.count = omega arith in
        rw e (passing_by sound a l b (released_later sound a l b (f (g.i + n) (omega arith) (omega arith))))

    -- the release of a task that has joined is later; of one that has not, it is now or later
    tag_of : (k : ℕ) → k < t.count → (x : ℕ) × (release_in s k ≡ tagged_of x k) × (u ≤ x) × (k < g.i → u < x)
    tag_of k h = le_case g.i k
        (λ l. (_, (g.passing.others k l).release ∙ (a.tasks k h).release, omega arith, λ m. absurd (omega arith)))
        (λ l. (_, (g.passing.joined k l).release, omega arith, λ m. omega arith))

    row_top : (k : ℕ) → k < t.count → k < 16
    row_top k h = omega (arith, count_top t sound)

    -- A RELEASE IS NOW
    module _ (now : s.next / 16 ≡ u) where
      abbrev row_now : ℕ
      row_now = s.next % 16

      found : (row_now < t.count) × (g.i ≤ row_now) × (s.next ≡ tagged_of u row_now) × (release_in s row_now ≡ tagged_of u row_now)
      found = go g.next.hit
        where
          go : (s.next ≡ never) ⊎ ((k : ℕ) × (k < t.count) × (release_in s k ≡ s.next))
              → (row_now < t.count) × (g.i ≤ row_now) × (s.next ≡ tagged_of u row_now) × (release_in s row_now ≡ tagged_of u row_now)
          go (inl e) = absurd (omega (arith, e, now, low))
          go (inr x) =
              let z = tag_of x.0 x.1 in
              let q = tag_parts s.next z.0 x.0 (sym x.2 ∙ z.1) (row_top x.0 x.1) in
              let w : z.0 ≡ u = sym q.0 ∙ now in
              let n : s.next ≡ tagged_of u x.0 = sym x.2 ∙ z.1 ∙ ap (λ y. tagged_of y x.0) w in
              rw q.1 (
                x.1,
                le_case g.i x.0 (λ l. l) (λ l. absurd (omega (arith, z.3 l, w))),
                n,
                z.1 ∙ ap (λ y. tagged_of y x.0) w,
              )

      pub row_below : row_now < t.count
      row_below = found.0

      -- no row before it has a release now
      before_row : (k : ℕ) → g.i ≤ k → k < row_now → release_in s k ≢ tagged_of u k
      before_row k l m e = omega (arith, e, found.2, g.next.low k (omega (arith, found.0)), m)

      passing_to : Passing p t xs zs u s₀ row_now s
      passing_to =
          let e : g.i + (row_now - g.i) ≡ row_now = omega (arith, found.1) in
          rw e at (all_by (row_now - g.i) (omega (arith, found.0, found.1)) (λ k l m. before_row k l (omega (arith, m, found.1))))

      module _ {j : Joined} (is : j ≡ joined_of p (row (live t) row_now) row_now u (get_or xs s.asked (row (live t) row_now).wcet))
          (places : ℕ) (enough : Places t.count places) {n : ℕ} (least : LeastOf (take places (set s.release row_now j.release)) n) where
        in_array : row_now < length s.release
        in_array = omega (arith, g.passing.full.release, row_top row_now found.0)

        release_is : j.release ≡ tagged_of (u + (row (live t) row_now).period) row_now
        release_is = ap (λ (x : Joined). x.release) is

        rest_after : (k : ℕ) → t.count ≤ k → get_or (set s.release row_now j.release) k never ≡ never
        rest_after k h = get_or-set_other s.release row_now k j.release never (λ e. omega (arith, e, h, found.0)) ∙ (g.rest k h).release

        next_after : Least t.count (set s.release row_now j.release) n
        next_after = least_part t.count places (set s.release row_now j.release) n enough
            (length-set s.release row_now j.release ∙ g.passing.full.release) rest_after least

        pub joining_turn : Joining p t xs zs u s₀ (with_joined s row_now j (length xs) n)
        joining_turn = record {
          i = suc row_now;
          low = omega (arith, found.0);
          passing = passing_joins sound a found.0 passing_to found.3 n j is;
          next = next_after;
          rest = λ k h. let r = g.rest k h in record {
            release = rest_after k h;
            due = get_or-set_other s.due row_now k j.due never (λ e. omega (arith, e, h, found.0)) ∙ r.due;
            key = get_or-set_other s.key row_now k j.key never (λ e. omega (arith, e, h, found.0)) ∙ r.key;
          };
        }

        -- the next is later
        pub joining_less : s.next < n
        joining_less = go next_after.hit
          where
            between : (m o r : ℕ) → r ≡ m → m ≤ o → o ≤ r → r ≡ o
            between m o r e l k = omega arith

            go : (n ≡ never) ⊎ ((k : ℕ) × (k < t.count) × (get_or (set s.release row_now j.release) k never ≡ n)) → s.next < n
            go (inl e) = omega (arith, e, found.2, row_top row_now found.0, low)
            go (inr x) = eq_case x.0 row_now
                (λ e. omega (
                  arith,
                  rw e at x.2,
                  get_or-set_same s.release row_now j.release never in_array,
                  release_is,
                  found.2,
                  period_some t sound row_now found.0,
                ))
                (λ e.
                let b = get_or-set_other s.release row_now x.0 j.release never e in
                let z = tag_of x.0 x.1 in
                le_case n s.next
                (λ l. absurd (e (tag_apart z.0 u x.0 row_now (row_top x.0 x.1) (row_top row_now found.0)
                (sym z.1 ∙ between n s.next (release_in s x.0) (sym b ∙ x.2) l (g.next.low x.0 x.1) ∙ found.2))))
                (λ l. l))

    -- NO RELEASE IS NOW
    pub ready : miss_at p t xs zs u ≡ 0 → s.next / 16 ≢ u → Ready p t xs zs u s₀ s
    ready clear apart = record {
      sound = sound;
      low = low;
      at = a;
      clear = clear;
      passed = let e : g.i + (t.count - g.i) ≡ t.count = omega (arith, g.low) in
          rw e at (all_by (t.count - g.i) (omega (arith, g.low)) (λ k l m. none k (omega (arith, m, g.low))));
      rest = g.rest;
      next = g.next;
      later = after;
    }
      where
        after : u < s.next / 16
        after = go g.next.hit
          where
            go : (s.next ≡ never) ⊎ ((k : ℕ) × (k < t.count) × (release_in s k ≡ s.next)) → u < s.next / 16
            go (inl e) = omega (arith, e, low)
            go (inr x) =
                let z = tag_of x.0 x.1 in
                let q = tag_parts s.next z.0 x.0 (sym x.2 ∙ z.1) (row_top x.0 x.1) in
                le_case (s.next / 16) u (λ l. absurd (apart (omega (arith, l, q.0, z.2)))) (λ l. l)

        none : (k : ℕ) → k < t.count → release_in s k ≢ tagged_of u k
        none k h e = omega (arith, e, g.next.low k h, row_top k h, after)
