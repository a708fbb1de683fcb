-- A call without a row is refused as it was before any row is read; else its row is stored where it stands. Assumes nothing.
use Rattle.std.proofs.Common.{ap, ◌∙◌, slice_set}
use Rattle.std.proofs.lemmas.List.{get_or_default}
use Rattle.tally.specs.Limits.{today}
use Rattle.cards.specs.InnerSteps.{step_of}
use Rattle.cards.specs.Rows.{no_row}
use Rattle.cards.specs.declared.RowAnswer.{RowAnswer}
use Rattle.cards.proofs.Steps.{told_none, told_row}
use Rattle.card_calls.proofs.on_row.Goals as goal

pub returns-in-Err : goal.returns-in-Err
returns-in-Err c =
    let none = told_none c.args.asked c.args.rows.now c.in-Err.why c.in-Err.ensures.none in
    (c.tells.ensures ∙ none.0, none.1)

pub returns-in-Ok : goal.returns-in-Ok
returns-in-Ok c =
    let there = c.in-Ok.ensures.row in
    let row = told_row c.in-Ok.c c.args.rows.now c.in-Ok.k (rw there.0 at there.1) there.2 in
    let said = c.step_row-told.ensures ∙ ap (step_of today c.in-Ok.c) (get_or_default c.args.rows.now c.in-Ok.k _ no_row there.3) in
    rw (there.0, row.0, row.1) (ap (λ (a : RowAnswer). a.told) said, ap (λ (a : RowAnswer). slice_set c.args.rows.now c.in-Ok.k a.row) said)
