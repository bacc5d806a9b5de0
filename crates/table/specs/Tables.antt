-- What is handed over of a source: its refusal or its table; and what the functions on the way return. Definitions; the contracts of this
-- crate cite them, and the crate checker `table_read`.
use Rattle.std.specs.Prelude.{Bool, cond, ◌&&◌, ◌||◌, List, [], ◌∷◌, ◌++◌, ℕ, suc, ◌*◌, ◌%◌, ◌<◌, eqb, min}
use Rattle.std.specs.Prelude.{map, filter, take, drop, Option, None, Some, Result, Ok, Err}
use Rattle.std.specs.List.{reduce}
use Rattle.std.specs.Int.{◌∣◌}
use Rattle.rules.specs.declared.Row.{Row}
use Rattle.rules.specs.declared.Refusal.{Refusal}
use Rattle.rules.specs.declared.RowsRead.{RowsRead}
use Rattle.rules.specs.declared.Table.{Table}
use Rattle.table.specs.declared.TableCheck.{TableCheck}
use Rattle.table.specs.declared.TableCheck.TheVariants.{Policy, Buffer, Rows, HyperPeriod}
use Rattle.table.specs.declared.fault.RowCheck.{RowCheck}
use Rattle.table.specs.declared.fault.RowCheck.TheVariants.{Id, IdRepeated, Time, Priority, PriorityShared, Order, Resume}
use Rattle.table.specs.declared.survey.Survey.{Survey}
use Rattle.rules.specs.Search.{lowest}
use Rattle.rules.specs.Table.{canonical, omax, hyper, empty_table}
use Rattle.rules.specs.Sources.{source_of}
use Rattle.rules.specs.Checks.{id_wrong, time_wrong, priority_wrong, order_wrong, resume_wrong, row_checks, first_fault, refusal_for}

-- one of the checks that look at a single row fails
abbrev pub row_wrong : Row → Bool
row_wrong r = id_wrong r || (time_wrong r || (priority_wrong r || (order_wrong r || resume_wrong r)))

-- THE ROW CHECKS, one by one

-- a check's number
abbrev pub number_of : RowCheck → ℕ
number_of Id = 6
number_of IdRepeated = 7
number_of Time = 8
number_of Priority = 9
number_of PriorityShared = 10
number_of Order = 11
number_of Resume = 12

-- and of one that asks for no row, whose place is 0
abbrev pub placeless : TableCheck → Refusal
placeless Policy = record { number = 1; place = 0 }
placeless Buffer = record { number = 2; place = 0 }
placeless Rows = record { number = 5; place = 0 }
placeless HyperPeriod = record { number = 13; place = 0 }

-- the smallest id of the rows at fault, if one is
abbrev pub smallest_id : (Row → Bool) → List Row → Option ℕ
smallest_id p rows = reduce min (map (λ r. r.id) (filter p rows))

-- the refusal, if it is one: the number 0 is none
abbrev pub refusal_in : Refusal → Option Refusal
refusal_in f = cond (eqb f.number 0) None (Some f)

-- THE HYPER-PERIOD

-- g divides both, and a number that both divide is, times g, a multiple of their product
pub record Divisor (h p g : ℕ) : Type 0 where
  pub positive : 0 < g
  pub left : g ∣ h
  pub right : g ∣ p
  pub product : (x : ℕ) → h ∣ x → p ∣ x → h * p ∣ x * g

-- the least common multiple of two numbers, 100,001 where it is above the limit
abbrev pub common_of : ℕ → ℕ → ℕ
common_of h p = suc (lowest (λ x. eqb (suc x % h) 0 && eqb (suc x % p) 0) 100000)

-- the rows in ascending id, and past them what stood there
abbrev pub ascending_in : RowsRead → List Row
ascending_in t = canonical (take t.count t.rows) ++ drop t.count t.rows

abbrev pub in_order : RowsRead → RowsRead
in_order t = record { rows = ascending_in t; count = t.count }

-- the largest offset and the hyper-period, where no row check fails
abbrev pub survey_of : List Row → Option Survey
survey_of rows = cond (eqb (first_fault row_checks rows).number 0) (Some (record { omax = omax rows; hyper = hyper rows })) None

-- THE TABLE OR ITS REFUSAL

-- the table of rows that are in ascending id
abbrev pub accepted_of : RowsRead → ℕ → ℕ → Table
accepted_of t m h = record { rows = t.rows; count = t.count; omax = m; hyper = h }

abbrev pub table_in : RowsRead → Table
table_in t = record { rows = ascending_in t; count = t.count; omax = omax (take t.count t.rows); hyper = hyper (take t.count t.rows) }

-- the table, unless it is refused: the number 0 is no refusal
abbrev pub unless_refused : Refusal → Table → Result Table Refusal
unless_refused f t = cond (eqb f.number 0) (Ok t) (Err f)

-- at most sixteen rows, by the row checks and 13
unfoldable pub rows_read : RowsRead → Result Table Refusal
rows_read t = unless_refused (first_fault (row_checks ++ (13 ∷ [])) (take t.count t.rows)) (table_in t)

-- a reader that refuses hands over no row
abbrev pub table_of : Result RowsRead Refusal → Table
table_of (Ok r) = table_in r
table_of (Err f) = empty_table

-- and what was read, under a policy, with a lent buffer that may be unfit
unfoldable pub table_read : ℕ → Bool → Result RowsRead Refusal → Result Table Refusal
table_read p unfit s = unless_refused (refusal_for p unfit (source_of s)) (table_of s)
