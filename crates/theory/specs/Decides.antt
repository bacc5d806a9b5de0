-- What the laws that it always decides ask of Omax and H. Definitions; the laws are in `proofs/Decides`.
use Prim.Native.Nat.{ℕ, ◌≤◌, ◌<◌}
use Rattle.rules.specs.Policies.{System}

-- THE LIMITS that the laws use
pub record Within (y : System) (o h : ℕ) : Type 0 where
  pub offsets : (i : ℕ) → (y.row i).offset ≤ o
  pub tasks : y.tasks ≤ 16
  pub wcets : (i : ℕ) → (y.row i).wcet ≤ 10000
  pub starts : (i : ℕ) → (y.row i).start ≤ 10000
  pub omax : o ≤ 10000
  pub some : 0 < h
  pub hyper : h ≤ 100000
