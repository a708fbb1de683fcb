-- Worked cases of the calls on a card, in one table; what a call answers is computed to the last number. Assumes nothing.
use Prim.Native.Nat.{ℕ}
use mathlib.Core.Path.{◌≡◌, refl, ap}
use mathlib.Core.List.{List, [], ◌∷◌, ◌++◌, map}
use lib.Count.{ones}
use lib.ListN.{get_or, drop, replicate}
use Rattle.tally.proofs.Count.{Each}
use Rattle.tally.specs.Limits.{today}
use Rattle.tally.specs.Gathered.{all_hold, common, first_passing, lowest}
use Rattle.tally.specs.Tally.{no_marks, mark, gathered_from, gathered}
use Rattle.contents.specs.Estimates.{mileage_or_blank, mileage_or_split, second_estimate_ok, same_mileage}
use Rattle.contents.specs.Logs.{state_ok, log_ok}
use Rattle.contents.specs.Images.{every, cell_ok, cells_ok, tally_ok, checks_allowed, image_ok, same_settings, state_fits, fits}
use Rattle.contents.specs.Messages.{first_ok, check_ok, second_ok, skip_ok, kind_ok, message_ok}
use Rattle.formats.specs.Numbers.{num_at, bytes_of}
use Rattle.formats.specs.Messages.{read_message, cleared}
use Rattle.consensus.specs.Conditions.{first_refusal}
use Rattle.consensus.specs.Units.{at_log, down_unit}
use Rattle.consensus.specs.Step.{says, log_write, fresh, recovered, send_first, proposed, vote_first, take_first, on_first, is_full, next_proposal, close}
use Rattle.consensus.specs.Step.{count_second, seconds_with, on_second, on_kind, at_round, caught_up, received}
use Rattle.consensus.specs.Methods.{for_other, out_of_range, closes_last}
use Rattle.calls.specs.Calls.{bad_settings, bad_message, message_bytes}
use Rattle.calls.proofs.Examples.{B, R, F, S, C, K, two, mileage, blank, junk}
use Rattle.cards.specs.Calls.{CardAnswer, card_called, wrong_count, names_no_row, Beside, beside, bad_row_log, other_row, bad_row_image}
use Rattle.cards.specs.Calls.{card_start_conditions, card_start_call, card_key_on_conditions, card_key_on_call}
use Rattle.cards.specs.Calls.{card_propose_conditions, card_propose_call, card_deliver_conditions, card_deliver_call}
use Rattle.cards.specs.Rows.{row_log, row_image, no_row}
use Rattle.cards.specs.declared.CardRow.{CardRow}
use Rattle.cards.specs.declared.LogFields.{LogFields}
use Rattle.cards.specs.declared.TallyFields.{TallyFields}

pub data CallOnCard : Type 0 where
  start key_on : Beside → List CardRow → ℕ → CallOnCard
  propose : Beside → List CardRow → ℕ → ℕ → List ℕ → CallOnCard
  deliver : Beside → List CardRow → List ℕ → List ℕ → CallOnCard

abbrev answer : CallOnCard → CardAnswer
answer (start b rows k) = card_start_call today b rows k
answer (key_on b rows k) = card_key_on_call today b rows k
answer (propose b rows k v out) = card_propose_call today b rows k v out
answer (deliver b rows bs out) = card_deliver_call today b rows bs out

pub record Case : Type 0 where
  pub call : CallOnCard
  pub expected : CardAnswer

-- ---- rows, messages

abbrev none : ℕ
none = 4294967295

-- entry, round, proposal, first estimate; unit 0 of 3 in B
abbrev fields : ℕ → ℕ → ℕ → ℕ → LogFields
fields k round p f = record { engine = B; n = 3; unit = 0; entry = k; round = round; proposal = p; first = f; second = none }

abbrev marked : ℕ → List ℕ → TallyFields
marked marks es = record { marks = marks; estimates = es }

abbrev blanks : List ℕ
blanks = replicate 16 none

abbrev row : LogFields → LogFields → CardRow
row log image = record { log = log; image = image; checks = marked 0 blanks; seconds = marked 0 blanks }

-- row 2 in a round, with CHECK marks, SECOND marks and their estimates
abbrev tallied : ℕ → ℕ → ℕ → List ℕ → CardRow
tallied round checks seconds es =
    record { log = fields 2 round none none; image = fields 2 round none none; checks = marked checks blanks; seconds = marked seconds es }

-- row k as a start leaves it
abbrev new : ℕ → CardRow
new k = row (fields k 0 none none) (fields k 0 none none)

abbrev of_five : LogFields
of_five = record { engine = B; n = 5; unit = 0; entry = 2; round = 0; proposal = none; first = none; second = none }

-- unit 0 of 3 in B
abbrev b : Beside
b = beside B 3 0

-- three rows, the second of which is read
abbrev card : CardRow → List CardRow
card r = no_row ∷ r ∷ no_row ∷ []

-- kind, engine, n, receiver, entry, round, of the mileage 5 from unit 1
abbrev message : ℕ → ℕ → ℕ → ℕ → ℕ → ℕ → List ℕ
message kind engine n receiver k round = kind ∷ engine ∷ n ∷ 1 ∷ receiver ∷ 0 ∷ (two k ++ (two round ++ (mileage 5 ++ mileage 5)))

abbrev first : ℕ → List ℕ
first k = message F B 3 255 k 0

abbrev zeros : List ℕ
zeros = replicate 18 0

-- ---- the table

abbrev rows_of : CallOnCard → List CardRow
rows_of (start b rows k) = rows
rows_of (key_on b rows k) = rows
rows_of (propose b rows k v out) = rows
rows_of (deliver b rows bs out) = rows

-- refused with this number, and the output buffer holds this
abbrev refused : ℕ → List ℕ → CallOnCard → Case
refused k out c = record { call = c; expected = card_called k (rows_of c) out none }

abbrev gives : CallOnCard → List CardRow → List ℕ → Case
gives c rows out = record { call = c; expected = card_called 0 rows out none }

abbrev delivers : List ℕ → CardRow → CallOnCard
delivers bs r = deliver b (card r) bs (junk 18)

abbrev proposes : ℕ → CardRow → CallOnCard
proposes v r = propose b (card r) 2 v (junk 18)

abbrev pub cases : List Case
cases =
    -- a start reads no row, and writes one
    gives (start b (card no_row) 2) (card (new 2)) []
    ∷ gives (start b (new 5 ∷ []) 1) (new 1 ∷ []) []
    ∷ gives (start b (replicate 63 no_row ++ (no_row ∷ [])) 64) (replicate 63 no_row ++ (new 64 ∷ [])) []
    -- 1: a count of rows outside 1 to 64, before 12 and 2
    ∷ refused 1 [] (start (beside B 2 0) [] 0)
    ∷ refused 1 [] (start b (replicate 65 no_row) 1)
    -- 12: no row has the number, before 2
    ∷ refused 12 [] (start (beside B 2 0) (card no_row) 0)
    ∷ refused 12 [] (start b (card no_row) 4)
    ∷ refused 12 [] (start b (replicate 64 no_row) 65)
    ∷ refused 12 [] (start b (card no_row) 4294967295)
    -- 2: engine, n or unit out of range; nothing is cut
    ∷ refused 2 [] (start (beside 90 3 0) (card no_row) 2)
    ∷ refused 2 [] (start (beside B 2 0) (card no_row) 2)
    ∷ refused 2 [] (start (beside B 259 0) (card no_row) 2)
    ∷ refused 2 [] (start (beside B 3 3) (card no_row) 2)
    -- key-on reads the row's log alone
    ∷ gives (key_on b (card (record { log = fields 2 4 6 7; image = of_five; checks = marked 65536 []; seconds = marked 9 blanks })) 2)
    (card (row (fields 2 4 6 7) (fields 2 4 6 7))) []
    -- 2: the row's log malformed; 3: of other settings, or of another entry than the row's number
    ∷ refused 2 [] (key_on b (card no_row) 2)
    ∷ refused 2 [] (key_on (beside B 3 3) (card (row of_five of_five)) 2)
    ∷ refused 3 [] (key_on b (card (row of_five of_five)) 2)
    ∷ refused 3 [] (key_on (beside R 3 0) (card (new 2)) 2)
    ∷ refused 3 [] (key_on (beside B 3 1) (card (new 2)) 2)
    ∷ refused 3 [] (key_on b (card (new 1)) 2)
    ∷ refused 12 [] (key_on b (card no_row) 0)
    ∷ refused 1 [] (key_on b [] 0)
    -- a proposal writes the row's image, and no log
    ∷ gives (proposes 6 (new 2)) (card (row (fields 2 0 none none) (fields 2 0 6 none)))
    (F ∷ B ∷ 3 ∷ 0 ∷ 255 ∷ 0 ∷ (two 2 ++ (two 0 ++ (mileage 6 ++ mileage 6))))
    -- the greatest mileage
    ∷ gives (proposes 99999999 (new 2)) (card (row (fields 2 0 none none) (fields 2 0 99999999 none)))
    (F ∷ B ∷ 3 ∷ 0 ∷ 255 ∷ 0 ∷ (two 2 ++ (two 0 ++ (mileage 99999999 ++ mileage 99999999))))
    -- and one above it: 2 in a row's log, 3 in its image
    ∷ refused 2 [] (key_on b (card (row (fields 2 0 100000000 none) (fields 2 0 none none))) 2)
    ∷ refused 3 zeros (proposes 6 (row (fields 2 0 none none) (fields 2 0 100000000 none)))
    -- 6; 3 before it: an image malformed, of other settings, or not fitting; 2 before that; 12; and 1, where a buffer keeps its bytes
    ∷ refused 6 zeros (proposes 100000000 (new 2))
    ∷ refused 3 zeros (proposes 100000000 (tallied 0 65536 0 blanks))
    ∷ refused 3 zeros (proposes 6 (tallied 0 0 65536 blanks))
    ∷ refused 3 zeros (proposes 6 (row (fields 2 0 none none) of_five))
    ∷ refused 3 zeros (proposes 6 (row (fields 2 1 none none) (fields 2 0 none none)))
    ∷ refused 2 zeros (proposes 100000000 (row no_row.log of_five))
    ∷ refused 3 zeros (proposes 100000000 (new 1))
    ∷ refused 2 zeros (propose (beside B 2 0) (card (row of_five of_five)) 2 100000000 (junk 18))
    ∷ refused 12 zeros (propose (beside 90 3 0) (card (new 2)) 4 100000000 (junk 18))
    ∷ refused 1 zeros (propose (beside 90 3 0) (replicate 65 no_row) 66 100000000 (junk 18))
    ∷ refused 1 (junk 17) (propose (beside 90 3 0) (card (new 2)) 4 6 (junk 17))
    -- a FIRST is logged in the row of its entry, and answered with CHECK
    ∷ gives (delivers (first 2) (new 2)) (card (row (fields 2 0 none 5) (fields 2 0 none 5)))
    (C ∷ B ∷ 3 ∷ 0 ∷ 255 ∷ 0 ∷ (two 2 ++ (two 0 ++ (mileage 5 ++ mileage 5))))
    -- FIRST again, of another mileage: the row's own estimate goes out, and the card stays
    ∷ gives (delivers (first 2) (row (fields 2 0 6 9) (fields 2 0 6 9))) (card (row (fields 2 0 6 9) (fields 2 0 6 9)))
    (C ∷ B ∷ 3 ∷ 0 ∷ 255 ∷ 0 ∷ (two 2 ++ (two 0 ++ (mileage 9 ++ mileage 9))))
    -- 1; 4 before 12; 12 before 2; 2 before 3; 3 before 5; 5
    ∷ refused 1 zeros (deliver b [] (first 2) (junk 18))
    ∷ refused 1 zeros (deliver b (card (new 2)) (junk 17) (junk 18))
    ∷ refused 1 (junk 17) (deliver b (card (new 2)) (first 2) (junk 17))
    ∷ refused 4 zeros (delivers (message F B 3 255 0 0) (new 2))
    ∷ refused 4 zeros (deliver (beside 90 3 0) (card no_row) (message 0 B 3 255 9 0) (junk 18))
    ∷ refused 12 zeros (deliver (beside 90 3 0) (card no_row) (first 4) (junk 18))
    ∷ refused 12 zeros (delivers (first 9999) (new 2))
    ∷ refused 2 zeros (deliver (beside 90 3 0) (card (row of_five of_five)) (message F R 3 255 2 0) (junk 18))
    ∷ refused 2 zeros (delivers (message F R 3 255 2 0) no_row)
    ∷ refused 3 zeros (delivers (message F R 3 255 2 0) (new 1))
    ∷ refused 3 zeros (delivers (message F R 3 255 2 0) (row (fields 2 0 none none) of_five))
    ∷ refused 5 zeros (delivers (message F R 3 255 2 0) (new 2))
    ∷ refused 5 zeros (delivers (message F B 4 255 2 0) (new 2))
    ∷ refused 5 zeros (delivers (K ∷ B ∷ 3 ∷ 1 ∷ 2 ∷ 0 ∷ (two 2 ++ (two 0 ++ (blank ++ mileage 5)))) (new 2))
    -- 5 before 7: this SECOND would close the last round
    ∷ refused 5 zeros (delivers (message S R 3 255 2 9999) (tallied 9999 0 1 (5 ∷ replicate 15 none)))
    ∷ refused 7 zeros
    (delivers (message S B 3 255 2 9999) (tallied 9999 0 1 (5 ∷ replicate 15 none)))
    -- the SECOND that closes a round decides
    ∷ record {
      call = delivers (message S B 3 255 2 0) (tallied 0 0 1 (5 ∷ replicate 15 none));
      expected = card_called 0 (card (row (fields 2 0 none none) (fields 2 1 5 none))) zeros 5;
    }
    ∷ []

-- lists that are the same have the same elements
each_same : (cs : List Case) → map (λ c. answer c.call) cs ≡ map (λ c. c.expected) cs → Each (λ c. answer c.call ≡ c.expected) cs
each_same [] e = tt
each_same (c ∷ cs) e = (ap (λ (l : List CardAnswer). get_or l 0 c.expected) e, each_same cs (ap (drop 1) e))

pub all_cases_hold : Each (λ c. answer c.call ≡ c.expected) cases
unfolding ones no_marks mark mileage_or_blank mileage_or_split second_estimate_ok same_mileage
    state_ok log_ok every cell_ok cells_ok tally_ok checks_allowed image_ok same_settings state_fits fits first_ok check_ok second_ok skip_ok kind_ok message_ok
    num_at bytes_of read_message cleared first_refusal at_log down_unit says log_write fresh recovered send_first proposed vote_first take_first on_first
    is_full seconds_with on_kind caught_up at_round next_proposal close count_second on_second common all_hold first_passing lowest gathered_from gathered
    received for_other out_of_range closes_last bad_settings bad_message message_bytes wrong_count names_no_row bad_row_log other_row bad_row_image
    card_start_conditions card_start_call card_key_on_conditions card_key_on_call card_propose_conditions card_propose_call card_deliver_conditions
    card_deliver_call row_log row_image
all_cases_hold = each_same cases refl
