-- Histories computed: the scope paper's listing, with its cut and its key-on, to its five messages and its decision; one of R; one of each engine in
-- which a unit was cut between log and bus and its vote goes out again. Assumes nothing.
use Prim.Native.Nat.{ℕ}
use mathlib.Core.Path.{◌≡◌, refl}
use mathlib.Core.List.{List, [], ◌∷◌, map}
use lib.Count.{ones}
use lib.ListN.{replicate, get_elem?}
use mathlib.Core.Option.{some}
use Rattle.tally.specs.Count.{up_to}
use Rattle.tally.specs.Limits.{today, log_size, image_size, message_size}
use Rattle.tally.specs.declared.Engine.TheVariants.{B, R}
use Rattle.tally.specs.Gathered.{holders, all_hold, common, first_passing, leads, majority}
use Rattle.tally.specs.Tally.{no_marks, mark, gathered_from, gathered}
use Rattle.contents.specs.Estimates.{mileage_or_blank, mileage_or_split, second_estimate_ok, same_mileage}
use Rattle.contents.specs.Logs.{state_ok, log_ok}
use Rattle.contents.specs.Images.{every, cell_ok, cells_ok, tally_ok, checks_allowed, image_ok, same_settings, state_fits, fits}
use Rattle.contents.specs.Messages.{first_ok, check_ok, second_ok, skip_ok, kind_ok, message_ok}
use Rattle.formats.specs.Numbers.{num_at, bytes_of}
use Rattle.formats.specs.Logs.{read_log}
use Rattle.formats.specs.Messages.{read_message, cleared}
use Rattle.formats.specs.Images.{read_image, image_bytes}
use Rattle.consensus.specs.Conditions.{first_refusal}
use Rattle.consensus.specs.Units.{at_log, down_unit}
use Rattle.consensus.specs.Step.{says, log_write, at_round, fresh, recovered, send_first, proposed, vote_first, take_first, on_first, is_full, vote_second}
use Rattle.consensus.specs.Step.{take_second, count_check, checks_with, mark_check, on_check, next_proposal, close, count_second, seconds_with, on_second}
use Rattle.consensus.specs.Step.{on_kind, skip, caught_up, received}
use Rattle.consensus.specs.Methods.{for_other, out_of_range, closes_last, unless, propose_conditions, propose, deliver_conditions, deliver, key_on}
use Rattle.calls.specs.Calls.{unit_lengths, bad_log, bad_settings, bad_image, bad_message, log_bytes, message_bytes, start_call_conditions, start_call}
use Rattle.calls.specs.Calls.{key_on_call_conditions, key_on_call, propose_call_conditions, propose_call, deliver_call_conditions, deliver_call}
use Rattle.calls.proofs.Examples.{mileage, blank, log, unmarked, message, junk, F, C, S, K, B as letter_b, R as letter_r}
use Rattle.agreement.specs.Bytes.{start_of, ByteWorld, up, Event, proposal, delivery, cut, off, on, begun, after, after_proposal, after_cut, after_key_on}
use Rattle.agreement.specs.Bytes.{proposal_of, delivering, key_on_of, step}
use Rattle.agreement.specs.Worlds.{Setup, run}

-- buffers that held other bytes before
abbrev out : List ℕ
out = junk (message_size today)

abbrev on' : ℕ → Event
on' u = on u (junk (image_size today))

abbrev logs : ℕ → List ℕ
logs u = junk (log_size today)

abbrev images : ℕ → List ℕ
images u = junk (image_size today)

-- the numbers of the starts, and the world after the events
abbrev starts : Setup → List ℕ
starts c = map (λ u. (start_of today c logs images u).number) (up_to c.n)

abbrev after' : Setup → List Event → ByteWorld
after' c es = run (step today c.n) (begun today c logs images) es

abbrev of3 : Setup
of3 = record { engine = B; n = 3; entry = 7 }

abbrev of4 : Setup
of4 = record { engine = R; n = 4; entry = 7 }

-- ---- the listing

abbrev listing : List Event
listing =
    proposal 0 412077 out
    ∷ delivery 0 0 out
    ∷ delivery 1 0 out
    ∷ delivery 1 1 out
    ∷ delivery 1 2 out
    ∷ delivery 0 1 out
    ∷ cut 0 2 out
    ∷ delivery 0 3 out
    ∷ on' 0
    ∷ delivery 2 3 out
    ∷ delivery 2 1 out
    ∷ delivery 2 2 out
    ∷ delivery 2 4 out
    ∷ []

abbrev m : List ℕ
m = mileage 412077

-- the log of unit 0, with the second estimate that the cut delivery wrote
abbrev log_0 : List ℕ
log_0 = log letter_b 3 0 0 m m m

-- five messages, F, C, C, S, S, of which the cut sent none; a decision by unit 2 in round 0; unit 0 up again, with its log's image
pub record OfListing (w : ByteWorld) : Type 0 where
  pub sent : w.sent
      ≡ message F letter_b 3 0 255 0 m m
      ∷ message C letter_b 3 0 255 0 m m
      ∷ message C letter_b 3 1 255 0 m m
      ∷ message S letter_b 3 1 255 0 m blank
      ∷ message S letter_b 3 2 255 0 m blank
      ∷ []
  pub proposed : w.proposed ≡ record { unit = 0; mileage = 412077 } ∷ []
  pub decided : w.decided ≡ record { unit = 2; round = 0; mileage = 412077 } ∷ []
  pub unit_0 : w.units 0 ≡ up log_0 (unmarked log_0)

-- ---- R: SECONDs 5, 5, 9 make 5 the majority of round 0; round 1, which units 0 to 2 catch up with, decides it; an old SECOND is answered by SKIP

abbrev of_r : List Event
of_r =
    proposal 0 5 out
    ∷ proposal 1 9 out
    ∷ delivery 0 0 out
    ∷ delivery 1 0 out
    ∷ delivery 2 1 out
    ∷ delivery 3 2 out
    ∷ delivery 3 3 out
    ∷ delivery 3 4 out
    ∷ proposal 3 7 out
    ∷ off 0
    ∷ on' 0
    ∷ delivery 0 5 out
    ∷ delivery 1 5 out
    ∷ delivery 2 5 out
    ∷ delivery 3 6 out
    ∷ delivery 3 7 out
    ∷ delivery 3 4 out
    ∷ delivery 3 8 out
    ∷ []

pub record Majority (w : ByteWorld) : Type 0 where
  pub proposed : w.proposed ≡ record { unit = 0; mileage = 5 } ∷ record { unit = 1; mileage = 9 } ∷ record { unit = 3; mileage = 7 } ∷ []
  pub decided : w.decided ≡ record { unit = 3; round = 1; mileage = 5 } ∷ []
  -- FIRST of round 1 with the majority, and the SKIP to unit 2
  pub first : get_elem? w.sent 5 ≡ some (message F letter_r 4 3 255 1 (mileage 5) (mileage 5))
  pub skip : get_elem? w.sent 9 ≡ some (message K letter_r 4 3 2 1 blank (mileage 5))

-- ---- R, three units, a quorum of all three: unit 2 is cut between log and bus, comes up, and gets the FIRST again. Unit 1 sends its SECOND with a
-- blank proposal, and after it proposed again with that one

abbrev of3_r : Setup
of3_r = record { engine = R; n = 3; entry = 7 }

abbrev brake_box : List Event
brake_box =
    proposal 0 412077 out
    ∷ delivery 0 0 out
    ∷ delivery 1 0 out
    ∷ cut 2 0 out
    ∷ on' 2
    ∷ delivery 2 0 out
    ∷ delivery 0 1 out
    ∷ delivery 0 2 out
    ∷ delivery 0 3 out
    ∷ proposal 1 9 out
    ∷ delivery 1 0 out
    ∷ []

pub record OfBrakeBox (w : ByteWorld) : Type 0 where
  pub decided : w.decided ≡ record { unit = 0; round = 0; mileage = 412077 } ∷ []
  pub after_cut : get_elem? w.sent 3 ≡ some (message S letter_r 3 2 255 0 m blank)
  pub with_blank : get_elem? w.sent 2 ≡ some (message S letter_r 3 1 255 0 m blank)
  pub with_mileage : get_elem? w.sent 5 ≡ some (message S letter_r 3 1 255 0 m (mileage 9))

-- ---- B: unit 1 is cut before its CHECK left, unit 0 before its SECOND did; both send again. Unit 1's SECOND, first with a blank proposal, is counted
-- as it went out again

abbrev two_cuts : List Event
two_cuts =
    proposal 0 412077 out
    ∷ delivery 0 0 out
    ∷ cut 1 0 out
    ∷ on' 1
    ∷ delivery 1 0 out
    ∷ delivery 0 1 out
    ∷ cut 0 2 out
    ∷ on' 0
    ∷ delivery 0 2 out
    ∷ delivery 1 1 out
    ∷ delivery 1 2 out
    ∷ proposal 1 9 out
    ∷ delivery 1 1 out
    ∷ delivery 2 3 out
    ∷ delivery 2 6 out
    ∷ []

pub record OfTwoCuts (w : ByteWorld) : Type 0 where
  pub decided : w.decided ≡ record { unit = 2; round = 0; mileage = 412077 } ∷ []
  pub check : get_elem? w.sent 2 ≡ some (message C letter_b 3 1 255 0 m m)
  pub second : get_elem? w.sent 3 ≡ some (message S letter_b 3 0 255 0 m m)
  pub with_blank : get_elem? w.sent 4 ≡ some (message S letter_b 3 1 255 0 m blank)
  pub with_mileage : get_elem? w.sent 6 ≡ some (message S letter_b 3 1 255 0 m (mileage 9))
  -- the log that the cut delivery wrote, as it still is, and its image
  pub unit_0 : w.units 0 ≡ up log_0 (unmarked log_0)

-- ---- all

-- all starts are accepted
pub record Computed : Type 0 where
  pub starts_b : starts of3 ≡ replicate 3 0
  pub listed : OfListing (after' of3 listing)
  pub cut_twice : OfTwoCuts (after' of3 two_cuts)
  pub starts_4 : starts of4 ≡ replicate 4 0
  pub decided_5 : Majority (after' of4 of_r)
  pub starts_r : starts of3_r ≡ replicate 3 0
  pub heard : OfBrakeBox (after' of3_r brake_box)

pub computed : Computed
unfolding ones holders all_hold common first_passing leads majority no_marks mark gathered_from gathered mileage_or_blank mileage_or_split second_estimate_ok
    same_mileage state_ok log_ok every cell_ok cells_ok tally_ok checks_allowed image_ok same_settings state_fits fits first_ok check_ok second_ok skip_ok
    kind_ok message_ok num_at bytes_of read_log read_message cleared read_image image_bytes first_refusal at_log down_unit says log_write at_round fresh
    recovered send_first proposed vote_first take_first on_first is_full vote_second take_second count_check checks_with mark_check on_check next_proposal close
    count_second seconds_with on_second on_kind skip caught_up received for_other out_of_range closes_last unless propose_conditions propose deliver_conditions
    deliver key_on unit_lengths bad_log bad_settings bad_image bad_message log_bytes message_bytes start_call_conditions start_call key_on_call_conditions
    key_on_call propose_call_conditions propose_call deliver_call_conditions deliver_call run begun after after_proposal after_cut after_key_on proposal_of
    delivering key_on_of step
computed =
    record {
      starts_b = refl;
      listed = record { sent = refl; proposed = refl; decided = refl; unit_0 = refl };
      cut_twice = record { decided = refl; check = refl; second = refl; with_blank = refl; with_mileage = refl; unit_0 = refl };
      starts_4 = refl;
      decided_5 = record { proposed = refl; decided = refl; first = refl; skip = refl };
      starts_r = refl;
      heard = record { decided = refl; after_cut = refl; with_blank = refl; with_mileage = refl };
    }
