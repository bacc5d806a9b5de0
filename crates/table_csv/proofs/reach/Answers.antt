-- `table_csv::reach` finds what ends the field at the front: behind the digits and, where the field is quoted, the closing quote.
use Rattle.std.proofs.Common.{◌≡◌, Some, None, true, sym, ◌∙◌, rules}
use Rattle.rules.specs.Text.{shaped}
use Rattle.table_csv.proofs.Fields.{Peeled, past_d, ends_shape, room_quoted, room_bare, ends_open, ends_closed, ends_bare}
use Rattle.table_csv.proofs.reach.Goals as goal
use Rattle.table_csv.proofs.reach.Goals.{in-Some+in_ok-behind-in-Some, in-None}

pub returns-then-not-shape : goal.returns-then-not-shape
returns-then-not-shape c = ends_shape c.args.text.now _ c.requires (sym c.shape.ensures ∙ c.if-not-shape.true)

pub slice_bounds-unquoted-count : goal.slice_bounds-unquoted-count
slice_bounds-unquoted-count c = room_quoted c.args.text.now _ c.requires c.in-Some.t c.in-Some.ensures

pub slice_bounds-unquoted-start : goal.slice_bounds-unquoted-start
slice_bounds-unquoted-start c = room_quoted c.args.text.now _ c.requires c.in-Some.t c.in-Some.ensures

pub slice_bounds-behind-count : goal.slice_bounds-behind-count
slice_bounds-behind-count c = room_bare c.args.text.now _ c.requires c.in-None.ensures

pub slice_bounds-behind-start : goal.slice_bounds-behind-start
slice_bounds-behind-start c = room_bare c.args.text.now _ c.requires c.in-None.ensures

pub returns-in_err-behind-in-Some : goal.returns-in_err-behind-in-Some
returns-in_err-behind-in-Some c =
    let fine : shaped c.args.d.now ≡ true = sym c.shape.ensures ∙ c.if-not-shape.false in
    let left : Peeled (past_d c.in-Some.t.now c.args.d.now) None = search rules in
    rw c.from_residual.ensures (ends_open c.args.text.now _ c.requires c.in-Some.t c.in-Some.ensures fine left)

pub returns : goal.returns
returns c =
    let fine : shaped c.args.d.now ≡ true = sym c.shape.ensures ∙ c.if-not-shape.false in
    c.stop_at.ensures
    ∙ elim c.match-unquoted.branch [
      | in-Some+in_ok-behind-in-Some w ↦
          let closed : Peeled (past_d w.in-Some.t.now c.args.d.now) (Some w.in_ok-behind-in-Some.behind) = search rules in
          rw w.behind-is (ends_closed c.args.text.now _ c.requires w.in-Some.t w.in-Some.ensures fine w.in_ok-behind-in-Some.behind closed)
      | in-None w ↦ rw w.behind-is (ends_bare c.args.text.now _ c.requires w.in-None.ensures fine)
    ]
