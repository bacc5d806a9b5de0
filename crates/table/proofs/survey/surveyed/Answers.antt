-- The row in hand is the one at place i, and it is fine once no check of it fails.
use Rattle.std.proofs.Common.{◌∙◌, refl, sym, get_or, rules}
use Rattle.rules.specs.Table.{no_row}
use Rattle.table.proofs.OnePass.{row_fine, surveying_start, faulty_row, faulty_id, faulty_priority, survey_none}
use Rattle.table.proofs.OnePass.{surveying_turn, surveying_done}
use Rattle.table.proofs.survey.surveyed.Goals as goal
use Rattle.table.proofs.survey.surveyed.Goals.{then-row_wrong-via-then-row_wrong, then-row_wrong-via-else-row_wrong+then-ids-r}
use Rattle.table.proofs.survey.surveyed.Goals.{then-row_wrong-via-else-row_wrong+else-ids-r+then-priorities-r}

pub loop-r-init : goal.loop-r-init
loop-r-init c = surveying_start c.args.rows.now

pub returns-then-row_wrong : goal.returns-then-row_wrong
returns-then-row_wrong c =
    let so = c.loop-r.invariant in
    let low = c.loop-r-test.true in
    let w = get_or c.args.rows.now c.loop-r.r-index no_row in
    let right = sym c.row_wrong.ensures in
    elim c.then-row_wrong.branch [
      | then-row_wrong-via-then-row_wrong k ↦ survey_none _ (faulty_row so low w refl (right ∙ k.if-row_wrong.true))
      | then-row_wrong-via-else-row_wrong+then-ids-r k ↦
          survey_none _ (faulty_id so low w refl (row_fine w (right ∙ k.if-row_wrong.false)) k.if-ids-r.true)
      | then-row_wrong-via-else-row_wrong+else-ids-r+then-priorities-r k ↦
          survey_none _ (faulty_priority so low w refl (row_fine w (right ∙ k.if-row_wrong.false)) k.if-priorities-r.true)
    ]

pub loop-r-preserved : goal.loop-r-preserved
loop-r-preserved c =
    let w = get_or c.args.rows.now c.loop-r.r-index no_row in
    let fine = row_fine w (sym c.row_wrong.ensures ∙ c.if-row_wrong.false) in
    surveying_turn c.loop-r.invariant c.loop-r-test.true w refl fine c.if-ids-r.false c.if-priorities-r.false
    _ _ (search rules) c.common-hyper.ensures

pub returns : goal.returns
returns c = surveying_done c.loop-r.invariant c.loop-r-test.false
