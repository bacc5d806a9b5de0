-- `respond` meets its contract: what the checker says of the lent numbers, said of the bytes; these are written where it accepts, and
-- only there (`Held`, with no number behind the lent ones). No answer names the arms of that, so that wrong ones are refused for what is
-- false.
use Rattle.std.proofs.Common.{rules, ◌≡◌, [], sym, append-nil, arith, MatchResult}
use Rattle.rules.specs.Sources.{text_source}
use Rattle.boundary.proofs.Held.{held_of, exact, fits, stores}
use Rattle.boundary.proofs.respond.Goals as goal

pub slice_bounds-numbers-end : goal.slice_bounds-numbers-end
slice_bounds-numbers-end c =
    let counted : MatchResult c.read_rows-source.result (λ x. c.map_or-rows.result ≡ x.count) (λ f. c.map_or-rows.result ≡ 0) =
    search rules in
    let told : c.match-reply.held ≡ held_of c.responses_of-reply.result c.map_or-rows.result = search rules in
    rw (append-nil _) at (fits c.args.policy c.args.allowance (text_source c.args.text.now) c.args.responses.now _
    c.read_rows-source.ensures _ _ (omega arith) _ c.responses_of-reply.ensures _ counted _ told [])

pub slice_bounds-write-end : goal.slice_bounds-write-end
slice_bounds-write-end c =
    let counted : MatchResult c.read_rows-source.result (λ x. c.map_or-rows.result ≡ x.count) (λ f. c.map_or-rows.result ≡ 0) =
    search rules in
    let told : c.match-reply.held ≡ held_of c.responses_of-reply.result c.map_or-rows.result = search rules in
    sym (rw (append-nil _) at (exact c.args.policy c.args.allowance (text_source c.args.text.now) c.args.responses.now _
    c.read_rows-source.ensures _ _ (omega arith) _ c.responses_of-reply.ensures _ counted _ told []))

pub returns : goal.returns
returns c =
    let counted : MatchResult c.read_rows-source.result (λ x. c.map_or-rows.result ≡ x.count) (λ f. c.map_or-rows.result ≡ 0) =
    search rules in
    let told : c.match-reply.held ≡ held_of c.responses_of-reply.result c.map_or-rows.result = search rules in
    stores c.args.policy c.args.allowance (text_source c.args.text.now) c.args.responses.now _ c.read_rows-source.ensures _ _
    (omega arith) _ c.responses_of-reply.ensures _ counted _ told [] _ (rw (append-nil _) c.write.ensures)
