-- A call that is not refused before any row is read names a row. Assumes nothing.
use Rattle.std.proofs.Common.{sym, ◌∙◌, arith}
use Rattle.std.proofs.lemmas.Grind.{common_steps}
use Rattle.consensus.specs.Conditions.{first_refusal}
use Rattle.cards.specs.InnerSteps.{front, front_conditions}
use Rattle.cards.proofs.Steps.{named}
use Rattle.card_calls.proofs.place.Goals as goal

pub overflow_sub-result : goal.overflow_sub-result
overflow_sub-result c =
    let row = named c.args.count c.in_ok-c.c.row (sym c.names_no_row.ensures ∙ c.if-names_no_row.false) in
    omega (arith, c.wide.ensures, row.0)

pub returns-clause-row : goal.returns-clause-row
unfolding front front_conditions first_refusal
returns-clause-row c =
    let row = named c.args.count c.in_ok-c.c.row (sym c.names_no_row.ensures ∙ c.if-names_no_row.false) in
    (c.in_ok-c.was, grind (arith, common_steps), omega (arith, c.wide.ensures, row.0), omega (arith, c.wide.ensures, row.0, row.1))
