-- Histories of cards computed, of three units: in B two entries interleaved, a cut in one, both decided; in R one entry with a refused call, a cut, a
-- key-off and two key-ons, decided by a vote sent again. One card has one row alone. Assumes nothing.
use Prim.Native.Nat.{ℕ}
use mathlib.Core.Path.{◌≡◌, refl}
use mathlib.Core.Bool.{cond}
use mathlib.Core.List.{List, [], ◌∷◌}
use lib.Count.{ones}
use lib.Dec.{ltb}
use lib.ListN.{length}
use Rattle.tally.specs.Limits.{today, message_size}
use Rattle.tally.specs.declared.Engine.TheVariants.{B, R}
use Rattle.tally.specs.Gathered.{holders, all_hold, common, first_passing, leads, majority}
use Rattle.tally.specs.Tally.{no_marks, mark, gathered_from, gathered}
use Rattle.contents.specs.Estimates.{mileage_or_blank, mileage_or_split, second_estimate_ok, same_mileage}
use Rattle.contents.specs.Logs.{state_ok, log_ok}
use Rattle.contents.specs.Images.{every, cell_ok, cells_ok, tally_ok, checks_allowed, image_ok, same_settings, state_fits, fits}
use Rattle.contents.specs.Messages.{first_ok, check_ok, second_ok, skip_ok, kind_ok, message_ok}
use Rattle.formats.specs.Numbers.{num_at, bytes_of}
use Rattle.formats.specs.Messages.{read_message, cleared}
use Rattle.consensus.specs.Conditions.{first_refusal}
use Rattle.consensus.specs.Units.{at_log, down_unit}
use Rattle.consensus.specs.Step.{says, log_write, at_round, fresh, recovered, send_first, proposed, vote_first, take_first, on_first, is_full, vote_second}
use Rattle.consensus.specs.Step.{take_second, count_check, checks_with, mark_check, on_check, next_proposal, close, count_second, seconds_with, on_second}
use Rattle.consensus.specs.Step.{on_kind, skip, caught_up, received}
use Rattle.consensus.specs.Methods.{for_other, out_of_range, closes_last}
use Rattle.calls.specs.Calls.{bad_settings, bad_message, message_bytes}
use Rattle.calls.proofs.Examples.{junk}
use Rattle.cards.specs.Calls.{row_at, wrong_count, names_no_row, bad_row_log, other_row, bad_row_image, card_start_conditions, card_start_call}
use Rattle.cards.specs.Calls.{card_key_on_conditions, card_key_on_call, card_propose_conditions}
use Rattle.cards.specs.Calls.{card_propose_call, card_deliver_conditions, card_deliver_call}
use Rattle.cards.specs.Rows.{row_log, row_image, no_row}
use Rattle.cards.specs.declared.CardRow.{CardRow}
use Rattle.agreement.specs.Worlds.{run}
use Rattle.card_history.specs.Cards.{new, up, CardWorld, begun, lent_card, Call, proposes, CardEvent, start, proposal, delivery, cut, off, on, call}
use Rattle.card_history.specs.Cards.{next, leave, after, run_call, beside_unit, delivering, step}

-- buffers that held other bytes before
abbrev out : List ℕ
out = junk (message_size today)

-- units 0 and 1 have two rows, the others one
abbrev cards : ℕ → List CardRow
cards u = cond (ltb u 2) (no_row ∷ no_row ∷ []) (no_row ∷ [])

abbrev events : List CardEvent
events =
    start 0 1
    ∷ start 1 1
    ∷ proposal 0 1 412077 out
    ∷ delivery 0 0 out
    ∷ start 0 2
    ∷ start 1 2
    ∷ start 2 2
    ∷ proposal 1 2 500000 out
    ∷ delivery 1 0 out
    ∷ delivery 1 2 out
    ∷ delivery 0 2 out
    ∷ delivery 1 1 out
    ∷ delivery 1 3 out
    ∷ delivery 0 4 out
    ∷ delivery 0 5 out
    ∷ delivery 0 1 out
    ∷ cut 0 3 out no_row
    ∷ delivery 1 4 out
    ∷ delivery 1 5 out
    ∷ on 0 1
    ∷ start 2 1
    ∷ delivery 2 6 out
    ∷ delivery 2 1 out
    ∷ delivery 2 3 out
    ∷ delivery 2 9 out
    ∷ delivery 0 7 out
    ∷ delivery 0 8 out
    ∷ []

pub record Worked (w : CardWorld) : Type 0 where
  pub sent : length w.sent ≡ 10
  pub proposed : w.proposed
      ≡ record { entry = 1; what = record { unit = 0; mileage = 412077 } } ∷ record { entry = 2; what = record { unit = 1; mileage = 500000 } } ∷ []
  pub decided : w.decided
      ≡ record { entry = 1; what = record { unit = 2; round = 0; mileage = 412077 } }
      ∷ record { entry = 2; what = record { unit = 0; round = 0; mileage = 500000 } }
      ∷ []
  -- up again after the cut, with the second estimate that the cut delivery logged; and a row that the card does not have
  pub recovered : (w.units 0).stage 1 ≡ up
  pub logged : (row_at (w.units 0).rows 1).log.second ≡ 412077
  pub in_image_lem : (row_at (w.units 0).rows 1).image.second ≡ 412077
  pub missing : (w.units 2).stage 2 ≡ new

pub computed : Worked (run (step today B 3) (begun cards) events)
unfolding ones holders all_hold common first_passing leads majority no_marks mark gathered_from gathered mileage_or_blank mileage_or_split second_estimate_ok
    same_mileage state_ok log_ok every cell_ok cells_ok tally_ok checks_allowed image_ok same_settings state_fits fits first_ok check_ok second_ok skip_ok
    kind_ok message_ok num_at bytes_of read_message cleared first_refusal at_log down_unit says log_write at_round fresh recovered send_first proposed
    vote_first take_first on_first is_full vote_second take_second count_check checks_with mark_check on_check next_proposal close count_second seconds_with
    on_second on_kind skip caught_up received for_other out_of_range closes_last row_log row_image wrong_count names_no_row bad_settings bad_row_log other_row
    bad_row_image bad_message message_bytes card_start_conditions card_start_call card_key_on_conditions card_key_on_call card_propose_conditions
    card_propose_call card_deliver_conditions card_deliver_call run next leave after delivering step
computed = record { sent = refl; proposed = refl; decided = refl; recovered = refl; logged = refl; in_image_lem = refl; missing = refl }

-- ---- engine R: a quorum is all three

-- a row that unit 2's card does not have
abbrev turned_down : Call
turned_down = proposes (beside_unit R 3 2) (lent_card 2) 2 412077 out

abbrev begun_r : CardWorld
begun_r = run (step today R 3) (begun cards) (start 0 1 ∷ start 1 1 ∷ start 2 1 ∷ [])

-- unit 2's row is cut before its SECOND left; its key goes off once more when one SECOND of three is marked, and the mark is lost; on again, it sends
-- its SECOND, which is counted
abbrev events_r : List CardEvent
events_r =
    call turned_down
    ∷ proposal 0 1 412077 out
    ∷ delivery 0 0 out
    ∷ delivery 1 0 out
    ∷ cut 2 0 out no_row
    ∷ on 2 1
    ∷ delivery 2 1 out
    ∷ off 2 1 no_row
    ∷ on 2 1
    ∷ delivery 2 0 out
    ∷ delivery 2 2 out
    ∷ delivery 2 3 out
    ∷ delivery 2 1 out
    ∷ []

pub record WorkedR (w : CardWorld) : Type 0 where
  pub refused : (run_call today begun_r turned_down).number ≡ 12
  pub sent : length w.sent ≡ 4
  pub proposed : w.proposed ≡ record { entry = 1; what = record { unit = 0; mileage = 412077 } } ∷ []
  pub decided : w.decided ≡ record { entry = 1; what = record { unit = 2; round = 0; mileage = 412077 } } ∷ []
  pub recovered : (w.units 2).stage 1 ≡ up
  pub logged : (row_at (w.units 2).rows 1).log.first ≡ 412077

pub computed_r : WorkedR (run (step today R 3) begun_r events_r)
unfolding ones holders all_hold common first_passing leads majority no_marks mark gathered_from gathered
    mileage_or_blank mileage_or_split second_estimate_ok same_mileage state_ok log_ok every cell_ok cells_ok tally_ok checks_allowed image_ok same_settings
    state_fits fits first_ok check_ok second_ok skip_ok kind_ok message_ok num_at bytes_of read_message cleared first_refusal at_log down_unit says log_write
    at_round fresh recovered send_first proposed vote_first take_first on_first is_full next_proposal close count_second
    seconds_with on_second on_kind skip caught_up received for_other out_of_range closes_last row_log row_image wrong_count names_no_row bad_settings
    bad_row_log other_row bad_row_image bad_message message_bytes card_start_conditions card_start_call card_key_on_conditions card_key_on_call
    card_propose_conditions card_propose_call card_deliver_conditions card_deliver_call run next leave after run_call delivering step
computed_r = record { refused = refl; sent = refl; proposed = refl; decided = refl; recovered = refl; logged = refl }
