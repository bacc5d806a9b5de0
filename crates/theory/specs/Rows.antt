-- What the laws use of a table that passes the checks. Definitions; that such a table meets what they ask is in `proofs/Rows`.
use Rattle.std.specs.Prelude.{List, ◌≤◌, length}
use Rattle.rules.specs.declared.Row.{Row}
use Rattle.rules.specs.Table.{hyper}
use Rattle.reordering.specs.All.{All}

-- what the laws use of checks 8 and 11; the blank row meets it too
pub record Fits (w : Row) : Type 0 where
  pub short : w.deadline ≤ w.period
  pub wcet : w.wcet ≤ 10000
  pub start : w.start ≤ 10000
  pub offset : w.offset ≤ 10000

pub record Passes (ws : List Row) : Type 0 where
  pub rows : All Fits ws
  pub count : length ws ≤ 16
  pub limit : hyper ws ≤ 100000

-- and of check 12, which a profile may replace
pub record Valid (ws : List Row) : Type 0 where
  pub passes : Passes ws
  pub quick : All (λ w. w.resume ≤ w.start) ws
