-- The step of both engines: Algorithm 1 (B) and Algorithm 2 (R) of the source, with their line numbers; lines 1 to 26 are numbered alike in both.
-- The scope paper's five readings of the source are named where they act. Assumes nothing.
use Rattle.std.specs.Prelude.{ℕ, ◌+◌, Bool, cond, leb, ltb, None}
use Rattle.std.specs.Int.Count.{ones}
use Rattle.tally.specs.Gathered.{common, lowest, majority}
use Rattle.tally.specs.Limits.{everyone}
use Rattle.tally.specs.Quorum.{quorum_of, majority_of}
use Rattle.tally.specs.Tally.{is_marked, mark, no_marks, gathered}
use Rattle.tally.specs.declared.Engine.{Engine}
use Rattle.tally.specs.declared.Engine.TheVariants.{B, R}
use Rattle.tally.specs.declared.Estimate.{Estimate}
use Rattle.tally.specs.declared.Estimate.TheVariants.{Blank, Split, Mileage}
use Rattle.tally.specs.declared.Tally.{Tally}
use Rattle.contents.specs.Estimates.{is_blank}
use Rattle.contents.specs.Messages.{empty_message}
use Rattle.contents.specs.declared.Kind.{Kind}
use Rattle.contents.specs.declared.Kind.TheVariants.{Empty, First, Check, Second, Skip}
use Rattle.contents.specs.declared.Message.{Message}
use Rattle.contents.specs.declared.Settings.{Settings}
use Rattle.contents.specs.declared.State.{State}
use Rattle.consensus.specs.Units.{at_log}
use Rattle.consensus.specs.declared.Answer.{Answer}
use Rattle.consensus.specs.declared.Power.TheVariants.{Up}
use Rattle.consensus.specs.declared.Unit as U

-- ---- answers

-- an accepted answer
abbrev pub gives : U.Unit → Message → Estimate → Answer
gives u m d = record { refusal = None; unit = u; message = m; decision = d }

-- nothing is sent, nothing decided: an empty message is what a step that sends nothing gives
abbrev pub quiet : U.Unit → Answer
quiet u = gives u empty_message Blank

-- a message carries the sender's round, R's FIRST too (reading 5)
unfoldable pub says : U.Unit → Kind → ℕ → Estimate → Estimate → Message
says u k to e p =
    record {
      kind = k;
      engine = u.settings.engine;
      n = u.settings.n;
      sender = u.settings.unit;
      receiver = to;
      entry = u.settings.entry;
      round = u.current.round;
      estimate = e;
      proposal = p;
    }

abbrev pub sends : U.Unit → Kind → ℕ → Estimate → Estimate → Answer
sends u k to e p = gives u (says u k to e p) Blank

-- ---- a unit with one thing replaced

abbrev pub with_current : U.Unit → State → U.Unit
with_current u s =
    record { power = u.power; settings = u.settings; logged = u.logged; current = s; checks = u.checks; seconds = u.seconds }

abbrev pub with_checks : U.Unit → Tally → U.Unit
with_checks u t =
    record { power = u.power; settings = u.settings; logged = u.logged; current = u.current; checks = t; seconds = u.seconds }

abbrev pub with_seconds : U.Unit → Tally → U.Unit
with_seconds u t =
    record { power = u.power; settings = u.settings; logged = u.logged; current = u.current; checks = u.checks; seconds = t }

abbrev pub with_proposal : State → Estimate → State
with_proposal s p = record { round = s.round; proposal = p; first = s.first; second = s.second }

abbrev pub with_first : State → Estimate → State
with_first s e = record { round = s.round; proposal = s.proposal; first = e; second = s.second }

abbrev pub with_second : State → Estimate → State
with_second s e = record { round = s.round; proposal = s.proposal; first = s.first; second = e }

-- a log write stores the whole record, and so both estimates of the current round (reading 3)
unfoldable pub log_write : U.Unit → State → U.Unit
log_write u s = record { power = u.power; settings = u.settings; logged = s; current = s; checks = u.checks; seconds = u.seconds }

-- the state at the beginning of a round
abbrev pub clean : ℕ → Estimate → State
clean r p = record { round = r; proposal = p; first = Blank; second = Blank }

-- the unit takes a round and a proposal, and blanks both estimates and all marks: lines 13 to 16; B 43 to 46, R 32 and 33
unfoldable pub at_round : U.Unit → ℕ → Estimate → U.Unit
at_round u r p = record { power = u.power; settings = u.settings; logged = u.logged; current = clean r p; checks = no_marks; seconds = no_marks }

-- ---- lines 1 to 7

-- lines 1 to 4, Initialization: a fresh unit has round 0 and all blank
unfoldable pub fresh : Settings → U.Unit
fresh s = at_log Up s (clean 0 Blank)

-- lines 5 to 7, Recovery: key-on makes the image of the log, without marks
unfoldable pub recovered : U.Unit → U.Unit
recovered u = at_log Up u.settings u.logged

-- ---- lines 17 to 20: to propose

-- a where it is not blank, else b
abbrev pub or_if_blank : Estimate → Estimate → Estimate
or_if_blank a b = cond (is_blank a) b a

-- line 20: FIRST goes out with round and proposal, also where the proposal was there, as the scope paper has it; the listing's indentation
-- has it under the test of line 18
unfoldable pub send_first : U.Unit → Estimate → Answer
send_first u p = sends (with_current u (with_proposal u.current p)) First everyone p p

-- lines 18 and 19: if the proposal is blank it becomes the mileage given
unfoldable pub proposed : U.Unit → ℕ → Answer
proposed u v = send_first u (or_if_blank u.current.proposal (Mileage v))

-- ---- lines 22 to 26: FIRST

-- line 26: B sends CHECK with the estimate, which is its proposal too; R sends SECOND with it and the proposal that the unit now holds
abbrev pub vote_kind : Engine → Kind
vote_kind B = Check
vote_kind R = Second

abbrev pub vote_proposal : Engine → Estimate → Estimate → Estimate
vote_proposal B e own = e
vote_proposal R e own = own

unfoldable pub vote_first : U.Unit → Answer
vote_first u =
    sends u (vote_kind u.settings.engine) everyone u.current.first (vote_proposal u.settings.engine u.current.first u.current.proposal)

-- lines 24 to 26: the first estimate becomes the proposal received; log; the vote goes out
unfoldable pub take_first : U.Unit → Estimate → Answer
take_first u e = vote_first (log_write u (with_first u.current e))

-- line 23. Where a first estimate is there its vote goes out again (request 2, not in the source); log and image stay
unfoldable pub on_first : U.Unit → Message → Answer
on_first u m = cond (is_blank u.current.first) (take_first u m.proposal) (vote_first u)

-- ---- B 27 to 35: CHECK

-- B 29 and 39, R 30: the marks are counted to find a quorum. The source has =; the count of a well-formed image is below the quorum, so that
-- at least is the same
unfoldable pub is_full : U.Unit → Tally → Bool
is_full u t = leb (quorum_of u.settings.engine u.settings.n) (ones t.marks)

-- B 35: SECOND goes out with the second estimate, a mileage or split, and the proposal that the unit now holds
unfoldable pub vote_second : U.Unit → Answer
vote_second u = sends u Second everyone u.current.second u.current.proposal

-- B 34 and 35, whether common or split: log; the vote goes out. That CHECK marks are cleared is the scope paper's
unfoldable pub take_second : U.Unit → Estimate → Answer
take_second u e = vote_second (with_checks (log_write u (with_second u.current e)) no_marks)

-- B 29 to 33: at the quorum the common mileage, or split if they differ
unfoldable pub count_check : U.Unit → Tally → Answer
count_check u t = cond (is_full u t) (take_second u (common (gathered t))) (quiet (with_checks u t))

-- B 28: marks are by sender (reading 1)
unfoldable pub checks_with : U.Unit → Message → Tally
checks_with u m = mark u.checks m.sender m.estimate

-- where the second estimate is blank; a marked sender adds nothing (reading 1)
unfoldable pub mark_check : U.Unit → Message → Answer
mark_check u m = cond (is_marked u.checks.marks m.sender) (quiet u) (count_check u (checks_with u m))

-- the second estimate is set only where it is blank (reading 2). Where it is there its vote goes out again (request 2, not in the source); log and
-- image stay
unfoldable pub on_check : U.Unit → Message → Answer
on_check u m = cond (is_blank u.current.second) (mark_check u m) (vote_second u)

-- ---- B 37 to 46, R 28 to 33: SECOND

-- B 40 and 41, R 31: if all are one mileage, that is decided
abbrev pub decided : Estimate → Estimate
decided Blank = Blank
decided Split = Blank
decided (Mileage v) = Mileage v

-- B 42 and 43: the mileage seen, if any (the lowest sender's, where an image no history made holds several), else the proposal kept;
-- R 32 and 33: the majority of those gathered, or blank (reading 4)
unfoldable pub next_proposal : Engine → ℕ → Tally → Estimate → Estimate
next_proposal B n t own = or_if_blank (lowest (gathered t)) own
next_proposal R n t own = majority (majority_of n) (gathered t)

-- B 40 to 46, R 31 to 33: the round rises by 1, also where no mileage is seen, estimates and marks are blanked; no log write
unfoldable pub close : U.Unit → Tally → Answer
close u t =
    gives (at_round u (u.current.round + 1) (next_proposal u.settings.engine u.settings.n t u.current.proposal)) empty_message
    (decided (common (gathered t)))

-- B 39, R 30
unfoldable pub count_second : U.Unit → Tally → Answer
count_second u t = cond (is_full u t) (close u t) (quiet (with_seconds u t))

-- B 38, R 29: marks are by sender (reading 1)
unfoldable pub seconds_with : U.Unit → Message → Tally
seconds_with u m = mark u.seconds m.sender m.estimate

-- a marked sender adds nothing (reading 1)
unfoldable pub on_second : U.Unit → Message → Answer
on_second u m = cond (is_marked u.seconds.marks m.sender) (quiet u) (count_second u (seconds_with u m))

-- ---- lines 8 to 16: any message

-- an empty message is refused before
unfoldable pub on_kind : Kind → U.Unit → Message → Answer
on_kind Empty u m = quiet u
on_kind First u m = on_first u m
on_kind Check u m = on_check u m
on_kind Second u m = on_second u m
on_kind Skip u m = quiet u

-- line 11: SKIP goes to the sender with the unit's round and proposal, and nothing else happens
unfoldable pub skip : U.Unit → ℕ → Answer
skip u to = sends u Skip to Blank u.current.proposal

-- lines 12 to 16: above the unit's round, it takes the message's round and proposal
unfoldable pub caught_up : U.Unit → Message → U.Unit
caught_up u m = cond (ltb u.current.round m.round) (at_round u m.round m.proposal) u

-- line 10: below the unit's round
unfoldable pub received : U.Unit → Message → Answer
received u m = cond (ltb m.round u.current.round) (skip u m.sender) (on_kind m.kind (caught_up u m) m)
