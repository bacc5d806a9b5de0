-- `table_csv::head` knows the header's line by its beginning and by what follows it.
use Rattle.std.proofs.Common.{◌≡◌, ◌++◌, None, Some, true, false, rules}
use Rattle.std.proofs.lemmas.Slice.Eq.{strip_prefix_is}
use Rattle.std.proofs.lemmas.Bool.Decides.{Decides-eqb}
use Rattle.rules.specs.Text.{header}
use Rattle.table_csv.specs.Reader.{is_comma}
use Rattle.table_csv.proofs.Lines.{head_off, head_on}
use Rattle.table_csv.proofs.head.Goals as goal
use Rattle.table_csv.proofs.head.Goals.{After-stop_at}

pub returns-in_err-behind : goal.returns-in_err-behind
unfolding header
returns-in_err-behind c =
    rw c.from_residual.ensures
    (head_off c.args.text.now (strip_prefix_is Decides-eqb c.args.text.now header None c.in_err-behind.ensures.cases))

begins : (c : After-stop_at) → c.args.text.now ≡ header ++ c.in_ok-behind.behind.now
unfolding header
begins c = strip_prefix_is Decides-eqb c.args.text.now header (Some c.in_ok-behind.behind) c.in_ok-behind.ensures.cases

pub returns-in_err-ending : goal.returns-in_err-ending
returns-in_err-ending c =
    rw c.from_residual-in_err-ending.ensures
    (head_on c.args.text.now _ (begins (goal.at.returns-in_err-ending c).After-stop_at) None c.in_err-ending.ensures)

pub returns-in-Comma : goal.returns-in-Comma
returns-in-Comma c =
    let comma : is_comma c.in_ok-ending.ending ≡ true = search rules in
    rw comma at
    (head_on c.args.text.now _ (begins (goal.at.returns-in-Comma c).After-stop_at) (Some (c.in_ok-ending.ending, c.in_ok-ending.rest.now))
    c.in_ok-ending.ensures)

pub returns-in-LineEnd : goal.returns-in-LineEnd
returns-in-LineEnd c =
    let ends : is_comma c.in_ok-ending.ending ≡ false = search rules in
    rw ends at
    (head_on c.args.text.now _ (begins (goal.at.returns-in-LineEnd c).After-stop_at) (Some (c.in_ok-ending.ending, c.in_ok-ending.rest.now))
    c.in_ok-ending.ensures)
