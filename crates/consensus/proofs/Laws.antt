-- The step branch by branch: under plain premises every field of the unit, of the message and of the decision. Assumes nothing.
use Rattle.std.specs.Prelude.{Some, None}
use Prim.Native.Nat.{ℕ, ◌+◌, ◌/◌, ◌≤◌, ◌<◌}
use mathlib.Core.Path.{◌≡◌, refl}
use mathlib.Core.Bool.{true, false}
use mathlib.Core.List.{List, [], ◌∷◌}
use native.Mathlib.Omega.{arith}
use lib.Count.{ones}
use borrow.Author.Tests.{lt-ltb, le-ltb, le-leb, lt-leb}
use Rattle.tally.specs.Gathered.{common, lowest, majority}
use Rattle.tally.specs.Limits.{Limits, everyone}
use Rattle.tally.specs.Quorum.{quorum_of}
use Rattle.tally.specs.Tally.{is_marked, mark, no_marks, gathered}
use Rattle.tally.specs.declared.Engine.TheVariants.{B, R}
use Rattle.tally.specs.declared.Estimate.{Estimate}
use Rattle.tally.specs.declared.Estimate.TheVariants.{Blank, Split, Mileage}
use Rattle.tally.specs.declared.Refusal.{Refusal}
use Rattle.tally.specs.declared.Tally.{Tally}
use Rattle.contents.specs.Estimates.{is_blank}
use Rattle.contents.specs.declared.Kind.{Kind}
use Rattle.contents.specs.declared.Kind.TheVariants.{Empty, First, Check, Second, Skip}
use Rattle.contents.specs.declared.Message.{Message}
use Rattle.contents.specs.declared.Settings.{Settings}
use Rattle.contents.specs.declared.State.{State}
use Rattle.consensus.specs.Methods.{refuses, unless, propose, propose_conditions, deliver, deliver_conditions, key_off, key_on}
use Rattle.consensus.specs.Conditions.{Condition, first_refusal, NoneHolds}
use Rattle.consensus.specs.Step.{says, log_write, at_round, fresh, recovered, send_first, proposed, vote_first, take_first, on_first, is_full, vote_second}
use Rattle.consensus.specs.Step.{take_second, count_check, checks_with, mark_check, on_check, decided, next_proposal, close, count_second, seconds_with}
use Rattle.consensus.specs.Step.{on_second, on_kind, skip, caught_up, received}
use Rattle.consensus.specs.Units.{down_unit, at_log}
use Rattle.consensus.specs.declared.Answer.{Answer}
use Rattle.consensus.specs.declared.Power.{Power}
use Rattle.consensus.specs.declared.Power.TheVariants.{Down, Up}
use Rattle.consensus.specs.declared.Unit as U

abbrev pub state : ℕ → Estimate → Estimate → Estimate → State
state r p f s = record { round = r; proposal = p; first = f; second = s }

abbrev pub unit : Power → Settings → State → State → Tally → Tally → U.Unit
unit p s logged current checks seconds =
    record { power = p; settings = s; logged = logged; current = current; checks = checks; seconds = seconds }

-- kind, receiver, round, estimate and proposal of a message from the unit with these settings
abbrev pub message : Settings → Kind → ℕ → ℕ → Estimate → Estimate → Message
message s k to r e p =
    record {
      kind = k;
      engine = s.engine;
      n = s.n;
      sender = s.unit;
      receiver = to;
      entry = s.entry;
      round = r;
      estimate = e;
      proposal = p;
    }

abbrev pub nothing : Message
nothing = record { kind = Empty; engine = B; n = 0; sender = 0; receiver = 0; entry = 0; round = 0; estimate = Blank; proposal = Blank }

abbrev pub answer : U.Unit → Message → Estimate → Answer
answer u m d = record { refusal = None; unit = u; message = m; decision = d }

-- ---- a message of the unit's own round

module _ (p : Power) (s : Settings) (logged now : State) (checks seconds : Tally) (m : Message) where
  abbrev u : U.Unit
  u = unit p s logged now checks seconds

  -- FIRST
  abbrev taken : State
  taken = state now.round now.proposal m.proposal now.second

  pub first_b : s.engine ≡ B → now.first ≡ Blank
      → on_kind First u m ≡ answer (unit p s taken taken checks seconds) (message s Check everyone now.round m.proposal m.proposal) Blank
  unfolding on_kind on_first take_first vote_first log_write says
  first_b g h = rw (h, g)

  pub first_r : s.engine ≡ R → now.first ≡ Blank
      → on_kind First u m ≡ answer (unit p s taken taken checks seconds) (message s Second everyone now.round m.proposal now.proposal) Blank
  unfolding on_kind on_first take_first vote_first log_write says
  first_r g h = rw (h, g)

  -- again: the unit's own estimate, and the unit as it was
  pub first_again_b : s.engine ≡ B → is_blank now.first ≡ false
      → on_kind First u m ≡ answer u (message s Check everyone now.round now.first now.first) Blank
  unfolding on_kind on_first vote_first says
  first_again_b g h = rw (h, g)

  pub first_again_r : s.engine ≡ R → is_blank now.first ≡ false
      → on_kind First u m ≡ answer u (message s Second everyone now.round now.first now.proposal) Blank
  unfolding on_kind on_first vote_first says
  first_again_r g h = rw (h, g)

  -- CHECK
  pub check_again : is_blank now.second ≡ false
      → on_kind Check u m ≡ answer u (message s Second everyone now.round now.second now.proposal) Blank
  unfolding on_kind on_check vote_second says
  check_again h = rw h

  pub check_marked : now.second ≡ Blank → is_marked checks.marks m.sender ≡ true → on_kind Check u m ≡ answer u nothing Blank
  unfolding on_kind on_check mark_check
  check_marked blank h = rw (blank, h)

  module _ (blank : now.second ≡ Blank) (unmarked : is_marked checks.marks m.sender ≡ false) where
    abbrev t : Tally
    t = mark checks m.sender m.estimate

    pub check_short : ones t.marks < quorum_of s.engine s.n → on_kind Check u m ≡ answer (unit p s logged now t seconds) nothing Blank
    unfolding on_kind on_check mark_check count_check checks_with is_full
    check_short h = rw (blank, unmarked, lt-leb (quorum_of s.engine s.n) (ones t.marks) h)

    abbrev set : State
    set = state now.round now.proposal now.first (common (gathered t))

    pub check_quorum : quorum_of s.engine s.n ≤ ones t.marks
        → on_kind Check u m
        ≡ answer (unit p s set set no_marks seconds) (message s Second everyone now.round (common (gathered t)) now.proposal) Blank
    unfolding on_kind on_check mark_check count_check checks_with is_full take_second vote_second log_write says
    check_quorum h = rw (blank, unmarked, le-leb (quorum_of s.engine s.n) (ones t.marks) h)

  -- SECOND
  pub second_marked : is_marked seconds.marks m.sender ≡ true → on_kind Second u m ≡ answer u nothing Blank
  unfolding on_kind on_second
  second_marked h = rw h

  module _ (unmarked : is_marked seconds.marks m.sender ≡ false) where
    abbrev votes : Tally
    votes = mark seconds m.sender m.estimate

    pub second_short : ones votes.marks < quorum_of s.engine s.n → on_kind Second u m ≡ answer (unit p s logged now checks votes) nothing Blank
    unfolding on_kind on_second count_second seconds_with is_full
    second_short h = rw (unmarked, lt-leb (quorum_of s.engine s.n) (ones votes.marks) h)

    -- the next proposal and the decision are as the laws below say; no log write
    pub second_closes : quorum_of s.engine s.n ≤ ones votes.marks
        → on_kind Second u m
        ≡ answer
        (unit p s logged (state (now.round + 1) (next_proposal s.engine s.n votes now.proposal) Blank Blank) no_marks no_marks)
        nothing (decided (common (gathered votes)))
    unfolding on_kind on_second count_second seconds_with is_full close at_round
    second_closes h = rw (unmarked, le-leb (quorum_of s.engine s.n) (ones votes.marks) h)

  -- SKIP
  pub skip_nothing : on_kind Skip u m ≡ answer u nothing Blank
  unfolding on_kind
  skip_nothing = refl

  -- ---- a message of any round

  pub received_below : m.round < now.round → received u m ≡ answer u (message s Skip m.sender now.round Blank now.proposal) Blank
  unfolding received skip says
  received_below h = rw (lt-ltb m.round now.round h)

  pub received_at : m.round ≡ now.round → received u m ≡ on_kind m.kind u m
  unfolding received caught_up
  received_at h = rw (le-ltb m.round now.round (omega arith), le-ltb now.round m.round (omega arith))

  pub received_above : now.round < m.round
      → received u m ≡ on_kind m.kind (unit p s logged (state m.round m.proposal Blank Blank) no_marks no_marks) m
  unfolding received caught_up at_round
  received_above h = rw (le-ltb m.round now.round (omega arith), lt-ltb now.round m.round h)

  -- ---- a proposal

  pub propose_blank : (v : ℕ) → now.proposal ≡ Blank
      → proposed u v
      ≡ answer (unit p s logged (state now.round (Mileage v) now.first now.second) checks seconds)
      (message s First everyone now.round (Mileage v) (Mileage v)) Blank
  unfolding proposed send_first says
  propose_blank v h = rw h

  pub propose_there : (v : ℕ) → is_blank now.proposal ≡ false
      → proposed u v ≡ answer u (message s First everyone now.round now.proposal now.proposal) Blank
  unfolding proposed send_first says
  propose_there v h = rw h

-- ---- what closing a round proposes and decides

module _ (n : ℕ) (t : Tally) (own : Estimate) where
  pub next_b_seen : (v : ℕ) → lowest (gathered t) ≡ Mileage v → next_proposal B n t own ≡ Mileage v
  unfolding next_proposal
  next_b_seen v h = rw h

  pub next_b_kept : lowest (gathered t) ≡ Blank → next_proposal B n t own ≡ own
  unfolding next_proposal
  next_b_kept h = rw h

  pub next_r : next_proposal R n t own ≡ majority (quorum_of R n / 2 + 1) (gathered t)
  unfolding next_proposal
  next_r = refl

pub decided_common : (v : ℕ) → decided (Mileage v) ≡ Mileage v
decided_common v = refl

pub decided_split : decided Split ≡ Blank
decided_split = refl

-- ---- the methods

pub none_first : (cs : List Condition) → NoneHolds cs → first_refusal cs ≡ None
unfolding first_refusal
none_first [] h = refl
none_first (r ∷ rs) h = rw h.0 (none_first rs h.1)

module _ (cs : List Condition) (u : U.Unit) (a : Answer) where
  unless_accepted : NoneHolds cs → unless cs u a ≡ a
  unfolding unless
  unless_accepted h = rw (none_first cs h)

pub propose_accepted : (l : Limits) (u : U.Unit) (v : ℕ) → NoneHolds (propose_conditions l u v) → propose l u v ≡ proposed u v
unfolding propose
propose_accepted l u v h = unless_accepted (propose_conditions l u v) u (proposed u v) h

pub deliver_accepted : (l : Limits) (u : U.Unit) (m : Message) → NoneHolds (deliver_conditions l u m) → deliver l u m ≡ received u m
unfolding deliver
deliver_accepted l u m h = unless_accepted (deliver_conditions l u m) u (received u m) h

module _ (s : Settings) (logged now : State) (checks seconds : Tally) where
  -- key-off and key-on leave the log's contents and no marks
  pub key_off_up : key_off (unit Up s logged now checks seconds) ≡ answer (unit Down s logged logged no_marks no_marks) nothing Blank
  unfolding key_off unless first_refusal down_unit at_log
  key_off_up = refl

  pub key_on_down : key_on (unit Down s logged now checks seconds) ≡ answer (unit Up s logged logged no_marks no_marks) nothing Blank
  unfolding key_on unless first_refusal recovered at_log
  key_on_down = refl

  pub key_off_down : key_off (unit Down s logged now checks seconds) ≡ refuses (unit Down s logged now checks seconds) (Some Refusal.Power)
  unfolding key_off unless first_refusal
  key_off_down = refl

  pub key_on_up : key_on (unit Up s logged now checks seconds) ≡ refuses (unit Up s logged now checks seconds) (Some Refusal.Power)
  unfolding key_on unless first_refusal
  key_on_up = refl

pub fresh_blank : (s : Settings) → fresh s ≡ unit Up s (state 0 Blank Blank Blank) (state 0 Blank Blank Blank) no_marks no_marks
unfolding fresh at_log
fresh_blank s = refl
