-- Worked cases in one table: those that the scope paper marks [p], its table's examples of the numbers 1 to 7, and some more of each call; what a
-- call answers is computed to the last byte. Assumes nothing.
use Prim.Native.Nat.{ℕ, ◌/◌, ◌%◌}
use mathlib.Core.Path.{◌≡◌, refl, ap}
use mathlib.Core.List.{List, [], ◌∷◌, ◌++◌, map}
use lib.Count.{ones}
use lib.ListN.{get_or, take, drop, replicate}
use Rattle.tally.proofs.Count.{Each}
use Rattle.tally.specs.Gathered.{holders, all_hold, common, first_passing, lowest, leads, majority}
use Rattle.tally.specs.Limits.{today}
use Rattle.tally.specs.Quorum.{quorum_of, majority_of}
use Rattle.tally.specs.Tally.{no_marks, mark, gathered_from, gathered}
use Rattle.tally.specs.declared.Engine.{Engine}
use Rattle.contents.specs.Estimates.{mileage_or_blank, mileage_or_split, second_estimate_ok, same_mileage}
use Rattle.contents.specs.Logs.{state_ok, log_ok}
use Rattle.contents.specs.Images.{every, cell_ok, cells_ok, tally_ok, checks_allowed, image_ok, same_settings, state_fits, fits}
use Rattle.contents.specs.Messages.{first_ok, check_ok, second_ok, skip_ok, kind_ok, message_ok}
use Rattle.formats.specs.Numbers.{num_at, bytes_of}
use Rattle.formats.specs.Logs.{read_log}
use Rattle.formats.specs.Messages.{read_message, cleared}
use Rattle.formats.specs.Images.{read_image, image_bytes}
use Rattle.consensus.specs.Conditions.{first_refusal}
use Rattle.consensus.specs.Units.{at_log, down_unit}
use Rattle.consensus.specs.Step.{says, log_write, at_round, fresh, recovered, send_first, proposed, vote_first, take_first, on_first, is_full, vote_second}
use Rattle.consensus.specs.Step.{take_second, count_check, checks_with, mark_check, on_check, next_proposal, close, count_second, seconds_with, on_second}
use Rattle.consensus.specs.Step.{on_kind, skip, caught_up, received}
use Rattle.consensus.specs.Methods.{for_other, out_of_range, closes_last}
use Rattle.calls.specs.Calls.{CallAnswer, unit_lengths, bad_log, bad_settings, bad_image, bad_message, log_bytes, message_bytes, start_call_conditions}
use Rattle.calls.specs.Calls.{start_call, key_on_call_conditions, key_on_call, propose_call_conditions}
use Rattle.calls.specs.Calls.{propose_call, deliver_call_conditions, deliver_call}

pub data UnitCall : Type 0 where
  start : (engine n unit entry : ℕ) (log image : List ℕ) → UnitCall
  key_on : (log image : List ℕ) → UnitCall
  propose : (log image : List ℕ) (mileage : ℕ) (out : List ℕ) → UnitCall
  deliver : (log image message out : List ℕ) → UnitCall

abbrev answer : UnitCall → CallAnswer
answer (start engine n unit entry log image) = start_call today engine n unit entry log image
answer (key_on log image) = key_on_call today log image
answer (propose log image mileage out) = propose_call today log image mileage out
answer (deliver log image message out) = deliver_call today log image message out

-- a case asks for the sizes at n, or makes a call
pub data Question : Type 0 where
  sizes_at : ℕ → Question
  calling : UnitCall → Question

-- B's quorum, R's quorum and R's majority, or what the call answers
pub data Outcome : Type 0 where
  sizes : (b r most : ℕ) → Outcome
  called : CallAnswer → Outcome

abbrev outcome : Question → Outcome
outcome (sizes_at n) = sizes (quorum_of Engine.B n) (quorum_of Engine.R n) (majority_of n)
outcome (calling c) = called (answer c)

pub record Case : Type 0 where
  pub question : Question
  pub expected : Outcome

-- ---- bytes

abbrev pub B : ℕ
B = 66

abbrev pub R : ℕ
R = 82

abbrev pub F : ℕ
F = 70

abbrev pub C : ℕ
C = 67

abbrev pub S : ℕ
S = 83

abbrev pub K : ℕ
K = 75

abbrev Z : ℕ
Z = 90

abbrev pub two : ℕ → List ℕ
two x = x / 256 ∷ x % 256 ∷ []

abbrev pub mileage : ℕ → List ℕ
mileage v = two (v / 65536) ++ two (v % 65536)

abbrev pub blank : List ℕ
blank = 255 ∷ 255 ∷ 255 ∷ 255 ∷ []

abbrev split : List ℕ
split = 255 ∷ 255 ∷ 255 ∷ 254 ∷ []

-- no decision
abbrev none : ℕ
none = 4294967295

-- engine, n, unit, round, proposal, first estimate, second estimate; the entry is 7
abbrev pub log : ℕ → ℕ → ℕ → ℕ → List ℕ → List ℕ → List ℕ → List ℕ
log engine n unit round p f s = engine ∷ n ∷ unit ∷ 0 ∷ 0 ∷ 7 ∷ (two round ++ (p ++ (f ++ s)))

-- marks, and the estimates of the lowest senders
abbrev pub tally : ℕ → List ℕ → List ℕ
tally marks es = two marks ++ take 64 (es ++ replicate 64 255)

abbrev pub image : List ℕ → List ℕ → List ℕ → List ℕ
image current checks seconds = current ++ (checks ++ seconds)

abbrev pub unmarked : List ℕ → List ℕ
unmarked current = image current (tally 0 []) (tally 0 [])

-- kind, engine, n, sender, receiver, round, estimate, proposal
abbrev pub message : ℕ → ℕ → ℕ → ℕ → ℕ → ℕ → List ℕ → List ℕ → List ℕ
message kind engine n sender receiver round e p = kind ∷ engine ∷ n ∷ sender ∷ receiver ∷ 0 ∷ 0 ∷ 7 ∷ (two round ++ (e ++ p))

abbrev zeros : List ℕ
zeros = replicate 18 0

-- buffers that held other bytes before
abbrev pub junk : ℕ → List ℕ
junk k = replicate k 170

-- ---- cases

-- number, log, image, output buffer, decision
abbrev case : UnitCall → ℕ → List ℕ → List ℕ → List ℕ → ℕ → Case
case c k log image out d =
    record { question = calling c; expected = called (record { number = k; log = log; image = image; out = out; decision = d }) }

-- n, B's quorum, R's quorum, R's majority
abbrev quorums : ℕ → ℕ → ℕ → ℕ → Case
quorums n b r most = record { question = sizes_at n; expected = sizes b r most }

-- turned down with the number k: log and image keep their bytes, no decision; the output buffer is as given
abbrev refused : ℕ → List ℕ → UnitCall → Case
refused k left (start engine n unit entry log image) = case (start engine n unit entry log image) k log image left none
refused k left (key_on log image) = case (key_on log image) k log image left none
refused k left (propose log image mileage out) = case (propose log image mileage out) k log image left none
refused k left (deliver log image message out) = case (deliver log image message out) k log image left none

-- accepted, with an image that has no marks
abbrev gives : UnitCall → List ℕ → List ℕ → List ℕ → ℕ → Case
gives c log current out d = case c 0 log (unmarked current) out d

-- calls of a unit at its log, without marks
abbrev propose_to : List ℕ → ℕ → UnitCall
propose_to log mileage = propose log (unmarked log) mileage (junk 18)

abbrev deliver_to : List ℕ → List ℕ → UnitCall
deliver_to log message = deliver log (unmarked log) message (junk 18)

-- unit 0 of 3 in B, and of 4 in R: round, proposal, estimates
abbrev unit_b : ℕ → List ℕ → List ℕ → List ℕ → List ℕ
unit_b round p f s = log B 3 0 round p f s

abbrev unit_r : ℕ → List ℕ → List ℕ → List ℕ
unit_r round p f = log R 4 0 round p f blank

abbrev fresh_b : List ℕ
fresh_b = unit_b 0 blank blank blank

-- with proposal 6
abbrev six_b : ℕ → List ℕ
six_b round = unit_b round (mileage 6) blank blank

abbrev six_r : List ℕ
six_r = unit_r 0 (mileage 6) blank

-- messages to everyone: kind, sender, round, estimate, proposal
abbrev in_b : ℕ → ℕ → ℕ → List ℕ → List ℕ → List ℕ
in_b kind sender round e p = message kind B 3 sender 255 round e p

abbrev in_r : ℕ → ℕ → List ℕ → List ℕ → List ℕ
in_r kind sender e p = message kind R 4 sender 255 0 e p

abbrev first : List ℕ
first = in_b F 1 0 (mileage 5) (mileage 5)

-- a log with n = 2
abbrev bad : List ℕ
bad = log B 2 0 0 blank blank blank

-- the SECOND x of unit 2 after v and w of units 0 and 1, in R
abbrev third : ℕ → ℕ → ℕ → UnitCall
third v w x = deliver six_r (image six_r (tally 0 []) (tally 3 (mileage v ++ mileage w))) (in_r S 2 (mileage x) blank) (junk 18)

-- round 9,999 in B, with a SECOND of unit 1
abbrev ending : List ℕ
ending = unit_b 9999 blank blank blank

abbrev one_there : List ℕ
one_there = image ending (tally 0 []) (tally 2 (blank ++ mileage 5))

-- a fresh unit 0 of 3 in B, of another entry than 7
abbrev of_entry : ℕ → List ℕ
of_entry entry = B ∷ 3 ∷ 0 ∷ 0 ∷ (two entry ++ (two 0 ++ (blank ++ (blank ++ blank))))

-- a message to a single unit: kind, receiver, round, estimate, proposal
abbrev to_one : ℕ → ℕ → ℕ → List ℕ → List ℕ → List ℕ
to_one kind receiver round e p = message kind B 3 1 receiver round e p

-- unit 0 of 5 in B, and unit 3 of 4 in R: round, proposal
abbrev of_five : ℕ → ℕ → List ℕ
of_five round p = log B 5 0 round (mileage p) blank blank

abbrev unit3_r : ℕ → ℕ → List ℕ
unit3_r round p = log R 4 3 round (mileage p) blank blank

-- a unit that sends again what its log says: nothing else changes
abbrev again : List ℕ → List ℕ → List ℕ → Case
again log message out = gives (deliver_to log message) log log out none

-- a fresh unit 0 with a CHECK of unit 1
abbrev one_check : List ℕ
one_check = image fresh_b (tally 2 (blank ++ mileage 5)) (tally 0 [])

-- proposing to a fresh unit, beside an image with these tallies; delivering to it
abbrev beside : List ℕ → List ℕ → UnitCall
beside checks seconds = propose fresh_b (image fresh_b checks seconds) 5 (junk 18)

abbrev to_fresh : List ℕ → UnitCall
to_fresh message = deliver_to fresh_b message

abbrev cases : List Case
cases =
    -- the cases that the scope paper marks [p]: its table of quorums
    quorums 3 2 3 2
    ∷ quorums 4 3 3 2
    ∷ quorums 5 3 4 3
    ∷ quorums 7 4 5 3
    ∷ quorums 10 6 7 4
    ∷ quorums 16 9 11 6
    -- R, n = 4: SECONDs 5, 5, 9 give proposal 5; 5, 9, 2 give blank
    ∷ gives (third 5 5 9) six_r (unit_r 1 (mileage 5) blank) zeros none
    ∷ gives (third 5 9 2) six_r (unit_r 1 blank blank) zeros none
    -- B, n = 3: CHECKs 5 and 9 give split; two splits keep the proposal
    ∷ gives (deliver (six_b 0) (image (six_b 0) (tally 1 (mileage 5)) (tally 0 [])) (in_b C 1 0 (mileage 9) (mileage 9)) (junk 18))
    (unit_b 0 (mileage 6) blank split) (unit_b 0 (mileage 6) blank split) (in_b S 0 0 split (mileage 6)) none
    ∷ gives (deliver (six_b 0) (image (six_b 0) (tally 0 []) (tally 1 split)) (in_b S 1 0 split blank) (junk 18)) (six_b 0) (six_b 1) zeros none
    -- mileage 99,999,999 is accepted, with its FIRST, and 100,000,000 refused: 6; a FIRST of 99,999,999 is taken
    ∷ gives (propose_to fresh_b 99999999) fresh_b (unit_b 0 (mileage 99999999) blank blank) (in_b F 0 0 (mileage 99999999) (mileage 99999999)) none
    ∷ refused 6 zeros (propose_to fresh_b 100000000)
    ∷ gives (to_fresh (in_b F 1 0 (mileage 99999999) (mileage 99999999))) (unit_b 0 blank (mileage 99999999) blank)
    (unit_b 0 blank (mileage 99999999) blank) (in_b C 0 0 (mileage 99999999) (mileage 99999999)) none
    -- the table's examples, 1: message of 17 bytes; then every buffer of every call, too short or too long
    ∷ refused 1 zeros (deliver_to fresh_b (take 17 first))
    ∷ refused 1 zeros (deliver_to fresh_b (first ++ two 0))
    ∷ refused 1 zeros (deliver (take 19 fresh_b) (unmarked fresh_b) first (junk 18))
    ∷ refused 1 zeros (deliver fresh_b (take 151 (unmarked fresh_b)) first (junk 18))
    ∷ refused 1 (junk 17) (deliver fresh_b (unmarked fresh_b) first (junk 17))
    ∷ refused 1 zeros (propose (fresh_b ++ two 0) (unmarked fresh_b) 5 (junk 18))
    ∷ refused 1 zeros (propose fresh_b (unmarked fresh_b ++ two 0) 5 (junk 18))
    ∷ refused 1 (junk 19) (propose fresh_b (unmarked fresh_b) 5 (junk 19))
    ∷ refused 1 [] (key_on (take 19 fresh_b) (junk 152))
    ∷ refused 1 [] (key_on fresh_b (junk 151))
    ∷ refused 1 [] (start B 3 0 7 (junk 21) (junk 152))
    ∷ refused 1 [] (start B 3 0 7 (junk 20) (junk 153))
    -- 2: n = 2, as a setting and in a log; engine letter Z, unit 3 of 3, entry 0, entry 10,000; in R a log with a second estimate; a split
    -- proposal, a split first estimate, a mileage out of range, round 10,000, a zero byte that is 1
    ∷ refused 2 [] (start B 2 0 7 (junk 20) (junk 152))
    ∷ refused 2 [] (start Z 3 0 7 (junk 20) (junk 152))
    ∷ refused 2 [] (start B 3 3 7 (junk 20) (junk 152))
    ∷ refused 2 [] (start B 3 0 0 (junk 20) (junk 152))
    ∷ refused 2 [] (start B 3 0 10000 (junk 20) (junk 152))
    ∷ refused 2 [] (key_on (log R 4 0 0 blank blank (mileage 5)) (junk 152))
    ∷ refused 2 [] (key_on (unit_b 0 split blank blank) (junk 152))
    ∷ refused 2 [] (key_on (unit_b 0 blank split blank) (junk 152))
    ∷ refused 2 [] (key_on (unit_b 0 (mileage 100000000) blank blank) (junk 152))
    ∷ refused 2 [] (key_on (unit_b 10000 blank blank blank) (junk 152))
    ∷ refused 2 [] (key_on (take 3 fresh_b ++ (1 ∷ drop 4 fresh_b)) (junk 152))
    ∷ refused 2 [] (key_on bad (junk 152))
    ∷ refused 2 zeros (propose_to bad 5)
    ∷ refused 2 zeros (deliver_to bad first)
    -- 3: log at round 4, image at 3; an estimate that does not fit, at the log's round and above it; another unit's image; an image with a quorum
    -- of marks, with a CHECK mark beside a second estimate, and with one in R; a split CHECK, a split SECOND in R; a marked blank, an unmarked
    -- mileage; a CHECK and a SECOND out of range; unit 3 of 3 marked
    ∷ refused 3 zeros (deliver (six_b 4) (unmarked (six_b 3)) first (junk 18))
    ∷ refused 3 zeros (propose fresh_b (unmarked (unit_b 0 blank (mileage 5) blank)) 5 (junk 18))
    ∷ refused 3 zeros (propose fresh_b (unmarked (unit_b 1 blank (mileage 5) blank)) 5 (junk 18))
    ∷ refused 3 zeros (propose fresh_b (unmarked (unit_b 1 blank blank split)) 5 (junk 18))
    ∷ refused 3 zeros (propose fresh_b (unmarked (log B 3 1 0 blank blank blank)) 5 (junk 18))
    ∷ refused 3 zeros (beside (tally 0 []) (tally 3 (mileage 5 ++ mileage 5)))
    ∷ refused 3 zeros (propose (unit_b 0 blank blank split) (image (unit_b 0 blank blank split) (tally 1 (mileage 5)) (tally 0 [])) 5 (junk 18))
    ∷ refused 3 zeros (propose six_r (image six_r (tally 1 (mileage 5)) (tally 0 [])) 5 (junk 18))
    ∷ refused 3 zeros (beside (tally 1 split) (tally 0 []))
    ∷ refused 3 zeros (propose six_r (image six_r (tally 0 []) (tally 1 split)) 5 (junk 18))
    ∷ refused 3 zeros (beside (tally 1 blank) (tally 0 []))
    ∷ refused 3 zeros (beside (tally 0 []) (tally 0 (mileage 5)))
    ∷ refused 3 zeros (beside (tally 1 (mileage 100000000)) (tally 0 []))
    ∷ refused 3 zeros (beside (tally 0 []) (tally 1 (mileage 100000000)))
    ∷ refused 3 zeros (beside (tally 0 []) (tally 8 (blank ++ (blank ++ (blank ++ mileage 5)))))
    -- 4: kind letter Z; the empty message; F, C and S to a single unit; K to everyone, and to unit 3 of 3; K with an estimate; F and C with two
    -- mileages, F with blanks and out of range; C in R; S with a blank, and in R with a split estimate; S and K with a split proposal; sender 3
    -- of 3, round 10,000, a zero byte that is 1
    ∷ refused 4 zeros (to_fresh (in_b Z 1 0 (mileage 5) (mileage 5)))
    ∷ refused 4 zeros (to_fresh zeros)
    ∷ refused 4 zeros (to_fresh (to_one F 0 0 (mileage 5) (mileage 5)))
    ∷ refused 4 zeros (to_fresh (to_one C 0 0 (mileage 5) (mileage 5)))
    ∷ refused 4 zeros (to_fresh (to_one S 0 0 (mileage 5) blank))
    ∷ refused 4 zeros (to_fresh (to_one K 255 4 blank blank))
    ∷ refused 4 zeros (to_fresh (to_one K 0 4 (mileage 6) (mileage 6)))
    ∷ refused 4 zeros (to_fresh (in_b F 1 0 (mileage 5) (mileage 6)))
    ∷ refused 4 zeros (to_fresh (in_b C 1 0 (mileage 5) (mileage 6)))
    ∷ refused 4 zeros (to_fresh (to_one K 3 4 blank blank))
    ∷ refused 4 zeros (to_fresh (in_b F 1 0 blank blank))
    ∷ refused 4 zeros (to_fresh (in_b F 1 0 (mileage 100000000) (mileage 100000000)))
    ∷ refused 4 zeros (deliver_to six_r (in_r C 1 (mileage 5) (mileage 5)))
    ∷ refused 4 zeros (to_fresh (in_b S 1 0 blank blank))
    ∷ refused 4 zeros (deliver_to six_r (in_r S 1 split blank))
    ∷ refused 4 zeros (to_fresh (in_b S 1 0 (mileage 5) split))
    ∷ refused 4 zeros (to_fresh (to_one K 0 4 blank split))
    ∷ refused 4 zeros (to_fresh (in_b F 3 0 (mileage 5) (mileage 5)))
    ∷ refused 4 zeros (to_fresh (in_b F 1 10000 (mileage 5) (mileage 5)))
    ∷ refused 4 zeros (to_fresh (take 5 first ++ (1 ∷ drop 6 first)))
    -- 5: another engine, n and entry; K for unit 1, handed to 2
    ∷ refused 5 zeros (to_fresh (message F R 3 1 255 0 (mileage 5) (mileage 5)))
    ∷ refused 5 zeros (to_fresh (message F B 4 1 255 0 (mileage 5) (mileage 5)))
    ∷ refused 5 zeros (to_fresh (take 7 first ++ (8 ∷ drop 8 first)))
    ∷ refused 5 zeros (deliver_to (log B 3 2 0 blank blank blank) (message K B 3 0 1 4 blank blank))
    -- 7: n = 3, B, round 9,999, one SECOND there, another comes; the SECOND of the marked sender again is accepted
    ∷ refused 7 zeros (deliver ending one_there (in_b S 2 9999 (mileage 5) blank) (junk 18))
    ∷ case (deliver ending one_there (in_b S 1 9999 (mileage 5) blank) (junk 18)) 0 ending one_there zeros none
    -- starting a unit, of entries 7, 1 and 9,999; key-on
    ∷ gives (start R 4 0 7 (junk 20) (junk 152)) (unit_r 0 blank blank) (unit_r 0 blank blank) [] none
    ∷ gives (start B 3 0 1 (junk 20) (junk 152)) (of_entry 1) (of_entry 1) [] none
    ∷ gives (start B 3 0 9999 (junk 20) (junk 152)) (of_entry 9999) (of_entry 9999) [] none
    ∷ gives (key_on (unit_b 4 (mileage 6) (mileage 5) split) (junk 152)) (unit_b 4 (mileage 6) (mileage 5) split) (unit_b 4 (mileage 6) (mileage 5) split) []
    none
    -- FIRST in B and in R
    ∷ gives (deliver_to (six_b 0) first) (unit_b 0 (mileage 6) (mileage 5) blank) (unit_b 0 (mileage 6) (mileage 5) blank)
    (in_b C 0 0 (mileage 5) (mileage 5)) none
    ∷ gives (deliver_to six_r (in_r F 1 (mileage 5) (mileage 5))) (unit_r 0 (mileage 6) (mileage 5)) (unit_r 0 (mileage 6) (mileage 5))
    (in_r S 0 (mileage 5) (mileage 6)) none
    -- FIRST again, of another mileage too: the unit's own estimate goes out, as CHECK in B, also where the second is there, and as SECOND in R with
    -- the image's proposal, also where that is blank; of the unit itself too
    ∷ again (unit_b 0 (mileage 6) (mileage 5) blank) (in_b F 1 0 (mileage 9) (mileage 9)) (in_b C 0 0 (mileage 5) (mileage 5))
    ∷ again (unit_b 0 (mileage 6) (mileage 5) split) first (in_b C 0 0 (mileage 5) (mileage 5))
    ∷ again (unit_r 0 (mileage 6) (mileage 5)) (in_r F 1 (mileage 9) (mileage 9)) (in_r S 0 (mileage 5) (mileage 6))
    ∷ again (unit_r 0 blank (mileage 5)) (in_r F 0 (mileage 9) (mileage 9)) (in_r S 0 (mileage 5) blank)
    -- CHECK again: the unit's own second estimate goes out, a mileage or split, with the image's proposal; of a marked sender, where the second
    -- estimate is blank, still nothing; FIRST where the first is blank takes it, though the second is there
    ∷ again (unit_b 0 blank blank (mileage 5)) (in_b C 1 0 (mileage 9) (mileage 9)) (in_b S 0 0 (mileage 5) blank)
    ∷ again (unit_b 0 (mileage 6) (mileage 5) split) (in_b C 0 0 (mileage 5) (mileage 5)) (in_b S 0 0 split (mileage 6))
    ∷ case (deliver fresh_b one_check (in_b C 1 0 (mileage 9) (mileage 9)) (junk 18)) 0 fresh_b one_check zeros none
    ∷ gives (deliver_to (unit_b 0 (mileage 6) blank split) first) (unit_b 0 (mileage 6) (mileage 5) split) (unit_b 0 (mileage 6) (mileage 5) split)
    (in_b C 0 0 (mileage 5) (mileage 5)) none
    -- a message below the unit's round, and a SKIP above it
    ∷ gives (deliver_to (six_b 4) first) (six_b 4) (six_b 4) (message K B 3 0 1 4 blank (mileage 6)) none
    ∷ gives (deliver_to fresh_b (message K B 3 1 0 4 blank (mileage 6))) fresh_b (six_b 4) zeros none
    -- B, n = 3: one CHECK is marked; R, n = 4: SECONDs 5, 5, 5 are decided
    ∷ case (deliver_to fresh_b (in_b C 2 0 (mileage 9) (mileage 9))) 0 fresh_b
    (image fresh_b (tally 4 (blank ++ (blank ++ mileage 9))) (tally 0 [])) zeros none
    ∷ gives (third 5 5 5) six_r (unit_r 1 (mileage 5) blank) zeros 5
    -- then unit 3, which gathered units 1, 2 and 3, takes 5 from 5, 5 and 9; if (n + 1) / 2 of them were wanted it would be blank, and 5 be lost
    ∷ gives (deliver (unit3_r 0 6) (image (unit3_r 0 6) (tally 0 []) (tally 6 (blank ++ (mileage 5 ++ mileage 5)))) (in_r S 3 (mileage 9) blank) (junk 18))
    (unit3_r 0 6) (unit3_r 1 5) zeros none
    -- B, n = 5: SECONDs split of unit 0 and 9 of unit 2, then 5 of unit 1: the lowest sender's mileage is 5
    ∷ gives (deliver (of_five 0 6) (image (of_five 0 6) (tally 0 []) (tally 5 (split ++ (blank ++ mileage 9)))) (message S B 5 1 255 0 (mileage 5) blank)
    (junk 18)) (of_five 0 6) (of_five 1 5) zeros none
    ∷ []

-- lists that are the same have the same elements
each_same : (cs : List Case) → map (λ c. outcome c.question) cs ≡ map (λ c. c.expected) cs → Each (λ c. outcome c.question ≡ c.expected) cs
each_same [] e = tt
each_same (c ∷ cs) e = (ap (λ (l : List Outcome). get_or l 0 c.expected) e, each_same cs (ap (drop 1) e))

pub all_cases_hold : Each (λ c. outcome c.question ≡ c.expected) cases
unfolding ones holders all_hold common first_passing lowest leads majority no_marks mark gathered_from gathered mileage_or_blank mileage_or_split
    second_estimate_ok same_mileage state_ok log_ok every cell_ok cells_ok tally_ok checks_allowed image_ok same_settings state_fits fits first_ok check_ok
    second_ok skip_ok kind_ok message_ok num_at bytes_of read_log read_message cleared read_image image_bytes first_refusal at_log down_unit says log_write
    at_round fresh recovered send_first proposed vote_first take_first on_first is_full vote_second take_second count_check checks_with mark_check on_check
    next_proposal close count_second seconds_with on_second on_kind skip caught_up received for_other out_of_range closes_last unit_lengths bad_log bad_settings
    bad_image bad_message log_bytes message_bytes start_call_conditions start_call key_on_call_conditions key_on_call propose_call_conditions propose_call
    deliver_call_conditions deliver_call
all_cases_hold = each_same cases refl
