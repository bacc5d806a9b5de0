-- Document 01's tables marked P: one table under one statement, proved of the rules by computation.
use Rattle.std.specs.Prelude.{◌≡◌, refl, true}
use Rattle.rules.specs.Search.{lowest}
use Rattle.rules.specs.Table.{omax, whole}
use Rattle.rules.specs.Slots.{released, newest, due, run}
use Rattle.rules.specs.Verdicts.{response}
use Rattle.basics.specs.Search.{most}
use Rattle.theory.specs.Twin.{equalb, missb, settled, slots}
use Rattle.theory.specs.Answers.{Rights, right, rights}
use Rattle.theory.proofs.Answers.{rights_are}
use Rattle.theory.specs.WorkedTables.{tables}

computed : rights tables ≡ true
unfolding right run released newest due lowest whole omax most response equalb missb settled slots
computed = refl

pub tables_are : Rights tables
tables_are = rights_are tables computed
