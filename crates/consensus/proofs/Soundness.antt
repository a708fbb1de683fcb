-- Every method of a well-formed unit, reachable or not, accepted or refused, leaves what `Sound` says. Assumes nothing.
use Rattle.std.specs.Prelude.{Option, None}
use Prim.Native.Nat.{ℕ, ◌^◌, ◌≤◌, ◌<◌}
use mathlib.Core.Path.{◌≡◌, refl, sym, ap, subst, ◌∙◌}
use mathlib.Core.Bool.{Bool, true, false, not, or-true}
use mathlib.Core.List.{[], ◌∷◌}
use mathlib.Core.Logic.{inl, inr}
use native.Mathlib.Omega.{arith}
use lib.Bits.{bit_or}
use lib.Count.{ones}
use lib.Dec.{eqb}
use borrow.Author.Tests.{eqb-false, le-leb, leb-true, leb-false, lt-ltb, not-false}
use Rattle.tally.specs.Gathered.{common}
use Rattle.tally.specs.Limits.{Limits, everyone, senders}
use Rattle.tally.specs.Quorum.{quorum_of}
use Rattle.tally.specs.Tally.{is_marked, mark, no_marks, gathered}
use Rattle.tally.specs.declared.Engine.{Engine}
use Rattle.tally.specs.declared.Engine.TheVariants.{B, R}
use Rattle.tally.specs.declared.Estimate.{Estimate}
use Rattle.tally.specs.declared.Estimate.TheVariants.{Blank, Split, Mileage}
use Rattle.tally.specs.declared.Refusal.{Refusal}
use Rattle.tally.specs.declared.Tally.{Tally}
use Rattle.tally.proofs.Count.{Each}
use Rattle.tally.proofs.Marks.{mark_adds, unmarked_none}
use Rattle.tally.proofs.Never.{never}
use Rattle.tally.proofs.Quorums.{quorum_fits}
use Rattle.tally.proofs.Tallies.{typed_mark}
use Rattle.contents.specs.Estimates.{is_b, is_blank, is_mileage, in_range, mileage_or_blank, mileage_or_split, second_estimate_ok, same_mileage}
use Rattle.contents.specs.Images.{checks_allowed, state_fits}
use Rattle.contents.specs.Logs.{settings_ok, log_ok, state_ok}
use Rattle.contents.specs.Messages.{first_ok, check_ok, second_ok, skip_ok, kind_ok, message_ok, empty_message}
use Rattle.contents.specs.declared.Kind.{Kind}
use Rattle.contents.specs.declared.Kind.TheVariants.{First, Check, Second, Skip}
use Rattle.contents.specs.declared.Message.{Message}
use Rattle.contents.specs.declared.Settings.{Settings}
use Rattle.contents.proofs.KindRules.{first_mileage, check_mileage, second_estimate, mileage_blank, kind_proposal}
use Rattle.contents.proofs.Facts.{StateFacts, numbers_facts, message_facts}
use Rattle.contents.proofs.Same.{estimate_same}
use Rattle.contents.proofs.Tests.{or_left}
use Rattle.consensus.specs.Methods.{for_other, out_of_range, is_second, closes_last, refuses, unless, propose, propose_conditions, deliver, deliver_conditions}
use Rattle.consensus.specs.Methods.{key_off, key_on}
use Rattle.consensus.specs.Conditions.{condition, NoneHolds}
use Rattle.consensus.specs.Sound.{From, Sound}
use Rattle.consensus.specs.Step.{quiet, sends, says, with_current, with_proposal, with_first, with_second, with_checks, with_seconds, log_write, at_round}
use Rattle.consensus.specs.Step.{clean, fresh, recovered, or_if_blank, send_first, proposed, vote_kind, vote_proposal, vote_first}
use Rattle.consensus.specs.Step.{take_first, is_full, vote_second, take_second, checks_with, seconds_with, close, on_kind, skip, received}
use Rattle.consensus.specs.Units.{WellFormed, unit_log, down_unit, at_log}
use Rattle.consensus.specs.declared.Power.{Power}
use Rattle.consensus.specs.declared.Power.TheVariants.{Down, Up}
use Rattle.consensus.specs.declared.Unit as U
use Rattle.consensus.proofs.Addressee.{passes_mine}
use Rattle.consensus.proofs.Branches.{by_kind, by_check, by_second, by_round, by_conditions}
use Rattle.consensus.proofs.Parts.{Parts, parts, well, and_both, or_first, states_same, Takes, Places, places_mark, WholeTally, tallied_none, no_checks}
use Rattle.consensus.proofs.Parts.{parts_at_round, parts_at_log, well_at_log}
use Rattle.consensus.proofs.Found.{votes, common_vote, next_proposal_lem, decided_blank}

-- ---- answers that are sound: v is what becomes of u

module _ (l : Limits) (u v : U.Unit) (same : v.settings ≡ u.settings) (p : Parts l v) where
  sound_silent : (k : Option Refusal) (d : Estimate) → mileage_or_blank l d ≡ true
      → Sound l u (record { refusal = k; unit = v; message = empty_message; decision = d })
  sound_silent k d h = record { unit = well l v p; settings = same; message = inl refl; decision = h }

  sound_quiet : Sound l u (quiet v)
  unfolding mileage_or_blank
  sound_quiet = sound_silent None Blank refl

  sound_sends : (k : Kind) (to : ℕ) (e o : Estimate) → kind_ok l k (says v k to e o) ≡ true → Sound l u (sends v k to e o)
  unfolding says message_ok mileage_or_blank
  sound_sends k to e o h = record { unit = well l v p; settings = same; message = inr (rw (← same) from); decision = refl }
    where
      from : From l v.settings (says v k to e o)
      from =
          record {
            well_formed = and_both (and_both p.settings (le-leb _ _ p.states.current.round)) h;
            engine = refl;
            n = refl;
            sender = refl;
            entry = refl;
          }

-- ---- messages that are well formed

module _ (l : Limits) where
  first_ok_lem : (v : U.Unit) (k : Kind) (e : Estimate) → is_mileage l e ≡ true → first_ok l (says v k everyone e e) ≡ true
  unfolding says first_ok same_mileage
  first_ok_lem v k e h = and_both refl (and_both h (estimate_same e))

  second_ok_lem : (v : U.Unit) (e p : Estimate) → mileage_or_split l v.settings.engine e ≡ true → mileage_or_blank l p ≡ true
      → kind_ok l Second (says v Second everyone e p) ≡ true
  unfolding says kind_ok second_ok
  second_ok_lem v e p h q = and_both (and_both refl h) q

  vote_ok : (v : U.Unit) (g : Engine) (e own : Estimate) → v.settings.engine ≡ g → is_mileage l e ≡ true → mileage_or_blank l own ≡ true
      → kind_ok l (vote_kind g) (says v (vote_kind g) everyone e (vote_proposal g e own)) ≡ true
  unfolding says kind_ok check_ok mileage_or_split
  vote_ok v B e own q h o = and_both (ap is_b q) (first_ok_lem v Check e h)
  vote_ok v R e own q h o = second_ok_lem v e own (or_first _ h) o

-- an estimate of a state that is not blank
filled_first : (l : Limits) (e : Estimate) → mileage_or_blank l e ≡ true → is_blank e ≡ false → is_mileage l e ≡ true
unfolding mileage_or_blank
filled_first l Blank h n = never (sym n)
filled_first l Split h n = never h
filled_first l (Mileage v) h n = or_left (in_range l v) false h refl

filled_second : (l : Limits) (g : Engine) (e : Estimate) → second_estimate_ok l g e ≡ true → is_blank e ≡ false → mileage_or_split l g e ≡ true
unfolding second_estimate_ok mileage_or_split
filled_second l B Blank h n = never (sym n)
filled_second l B Split h n = h
filled_second l B (Mileage v) h n = or_first _ (or_left (in_range l v) false h refl)
filled_second l R Blank h n = never (sym n)
filled_second l R Split h n = never h
filled_second l R (Mileage v) h n = never h

-- ---- what delivering to u is given

record ForThisUnit (l : Limits) (s : Settings) (m : Message) : Type 0 where
  engine : s.engine ≡ m.engine
  below : m.sender < s.n
  inside : m.sender < senders
  round : m.round ≤ l.last_round
  kind : (k : Kind) → m.kind ≡ k → kind_ok l k m ≡ true

given : (l : Limits) (s : Settings) (m : Message) → message_ok l m ≡ true → for_other s m ≡ false → ForThisUnit l s m
given l s m ok for =
    let f = message_facts l m ok in
    let a = passes_mine s m for in
    record {
      engine = sym a.engine;
      below = omega (arith, f.numbers.below, a.n);
      inside = omega (arith, f.numbers.below, f.numbers.n_high);
      round = f.round;
      kind = λ k e. subst (λ (x : Kind). kind_ok l x m ≡ true) e f.kind;
    }

-- ---- votes, of a unit v that u is or has become

module _ (l : Limits) (u v : U.Unit) (same : v.settings ≡ u.settings) (p : Parts l v) where
  vote_first_sound : is_mileage l v.current.first ≡ true → Sound l u (vote_first v)
  unfolding vote_first
  vote_first_sound h =
      sound_sends l u v same p _ everyone _ _ (vote_ok l v v.settings.engine v.current.first v.current.proposal refl h p.states.current.proposal)

  vote_second_sound : mileage_or_split l v.settings.engine v.current.second ≡ true → Sound l u (vote_second v)
  unfolding vote_second
  vote_second_sound h = sound_sends l u v same p Second everyone _ _ (second_ok_lem l v v.current.second _ h p.states.current.proposal)

-- ---- the step by kind, of such a unit

module _ (l : Limits) (u v : U.Unit) (m : Message) (same : v.settings ≡ u.settings) (p : Parts l v) (i : ForThisUnit l v.settings m) where
  first_sound : m.kind ≡ First → Sound l u (take_first v m.proposal)
  unfolding take_first log_write kind_ok
  first_sound k =
      vote_first_sound l u next same
      (record { settings = p.settings; states = states_same l _ _ state; checks = p.checks; seconds = p.seconds; unchecked = p.unchecked }) mileage
    where
      next : U.Unit
      next = log_write v (with_first v.current m.proposal)

      mileage : is_mileage l m.proposal ≡ true
      mileage = (first_mileage l m (i.kind First k)).1

      state : StateFacts l v.settings.engine (with_first v.current m.proposal)
      state = let c = p.states.current in
          record { round = c.round; proposal = c.proposal; first = mileage_blank l m.proposal mileage; second = c.second }

  -- a tally with this sender marked
  module _ (split : Bool) (t : Tally) (f : WholeTally l split v.settings t) (vote : Takes l split m.estimate) where
    marked : Places l split v.settings.n (mark t m.sender m.estimate)
    marked = places_mark l split v.settings.n t m.sender m.estimate f.typed f.facts.places i.below i.inside vote

    short : is_full v (mark t m.sender m.estimate) ≡ false → WholeTally l split v.settings (mark t m.sender m.estimate)
    unfolding is_full
    short h =
        record {
          facts = record { places = marked; few = leb-false _ _ h };
          typed = typed_mark t m.sender m.estimate f.typed i.inside;
        }

  -- CHECK is in B only
  module _ (k : m.kind ≡ Check) (blank : is_blank v.current.second ≡ true) where
    check_kind : (is_b v.settings.engine ≡ true) × Takes l false m.estimate
    check_kind = let a = check_mileage l m (i.kind Check k) in (rw (i.engine ∙ a.0), or_first false a.1.0)

    check_short_sound : is_full v (checks_with v m) ≡ false → Sound l u (quiet (with_checks v (checks_with v m)))
    unfolding checks_with checks_allowed
    check_short_sound h =
        sound_quiet l u (with_checks v (checks_with v m)) same
        (record {
          settings = p.settings;
          states = p.states;
          checks = short false v.checks p.checks check_kind.1 h;
          seconds = p.seconds;
          unchecked = or_first _ (and_both check_kind.0 blank);
        })

    check_full_sound : Sound l u (take_second v (common (gathered (checks_with v m))))
    unfolding take_second log_write checks_with second_estimate_ok mileage_or_split
    check_full_sound =
        vote_second_sound l u (with_checks (log_write v (with_second v.current e)) no_marks) same
        (record { settings = p.settings; states = states_same l _ _ state; checks = none; seconds = p.seconds; unchecked = no_checks _ _ })
        (rw check_kind.0 vote)
      where
        none : WholeTally l false v.settings no_marks
        none = tallied_none l false v.settings p.settings

        t : Tally
        t = checks_with v m

        e : Estimate
        e = common (gathered t)

        vote : Takes l true e
        vote = common_vote l false (gathered t) (votes l false v.settings.n t (marked false v.checks p.checks check_kind.1))

        state : StateFacts l v.settings.engine (with_second v.current e)
        state = let c = p.states.current in
            record { round = c.round; proposal = c.proposal; first = c.first; second = simp (check_kind.0, vote, or-true) }

  module _ (k : m.kind ≡ Second) where
    second_vote : Takes l (is_b v.settings.engine) m.estimate
    unfolding mileage_or_split
    second_vote = rw i.engine (second_estimate l m (i.kind Second k))

    second_short_sound : is_full v (seconds_with v m) ≡ false → Sound l u (quiet (with_seconds v (seconds_with v m)))
    unfolding seconds_with
    second_short_sound h =
        sound_quiet l u (with_seconds v (seconds_with v m)) same
        (record {
          settings = p.settings;
          states = p.states;
          checks = p.checks;
          seconds = short _ v.seconds p.seconds second_vote h;
          unchecked = p.unchecked;
        })

    close_sound : v.current.round < l.last_round → Sound l u (close v (seconds_with v m))
    unfolding close seconds_with at_round
    close_sound h =
        sound_silent l u (at_round v _ _) same
        (parts_at_round l v p _ _ (omega arith) (omega arith)
        (next_proposal_lem l split v.settings.engine v.settings.n t v.current.proposal all p.states.current.proposal))
        None _ (decided_blank l (common (gathered t)) (common_vote l split (gathered t) all))
      where
        split : Bool
        split = is_b v.settings.engine

        t : Tally
        t = seconds_with v m

        all : Each (Takes l split) (gathered t)
        all = votes l split v.settings.n t (marked split v.seconds p.seconds second_vote)

  kind_sound : (m.kind ≡ Second → is_marked v.seconds.marks m.sender ≡ false → is_full v (seconds_with v m) ≡ true
      → v.current.round < l.last_round) → Sound l u (on_kind m.kind v m)
  kind_sound last =
      by_kind (Sound l u) m.kind v m
      (record {
        nothing = sound_quiet l u v same p;
        first = λ k _. first_sound k;
        first_again = λ _ there. vote_first_sound l u v same p (filled_first l v.current.first p.states.current.first there);
        second_again = λ _ there. vote_second_sound l u v same p (filled_second l v.settings.engine v.current.second p.states.current.second there);
        checks = λ k b _. by_check (Sound l u) v (checks_with v m) (λ _. check_full_sound k b) (check_short_sound k b);
        seconds = λ k free. by_second (Sound l u) v (seconds_with v m) (λ h. close_sound k (last k free h)) (second_short_sound k);
      })

-- ---- the methods

module _ (l : Limits) (u : U.Unit) (w : WellFormed l u) where
  sound_refuses : (k : Option Refusal) → Sound l u (refuses u k)
  unfolding mileage_or_blank
  sound_refuses k = sound_silent l u u refl (parts l u w) k Blank refl

  -- key-off and key-on leave a unit at its log
  sound_key : (p : Power) (b : Bool) → Sound l u (unless (condition Refusal.Power b ∷ []) u (quiet (at_log p u.settings u.logged)))
  unfolding at_log
  sound_key p b = by_conditions (Sound l u) _ u _ (refl, tt) sound_refuses (λ _. sound_quiet l u (at_log p _ _) refl (parts_at_log l p (unit_log u) w.log))

  pub sound_key_off : Sound l u (key_off u)
  unfolding key_off down_unit
  sound_key_off = sound_key Down _

  pub sound_key_on : Sound l u (key_on u)
  unfolding key_on recovered
  sound_key_on = sound_key Up _

-- a proposal kept or given is a mileage
or_blank_mileage : (l : Limits) (a : Estimate) (v : ℕ) → mileage_or_blank l a ≡ true → in_range l v ≡ true
    → is_mileage l (or_if_blank a (Mileage v)) ≡ true
unfolding mileage_or_blank
or_blank_mileage l Blank v h r = r
or_blank_mileage l Split v h r = never h
or_blank_mileage l (Mileage x) v h r = filled_first l (Mileage x) h refl

pub sound_propose : (l : Limits) (u : U.Unit) (v : ℕ) → WellFormed l u → Sound l u (propose l u v)
unfolding propose propose_conditions proposed send_first out_of_range kind_ok state_fits
sound_propose l u v w =
    by_conditions (Sound l u) (propose_conditions l u v) u _ (refl, (refl, tt)) (sound_refuses l u w)
    (λ n. sound_sends l u next refl (changed n) First everyone e e (first_ok_lem l next First e (ok n)))
  where
    p : Parts l u
    p = parts l u w

    e : Estimate
    e = or_if_blank u.current.proposal (Mileage v)

    next : U.Unit
    next = with_current u (with_proposal u.current e)

    ok : NoneHolds (propose_conditions l u v) → is_mileage l e ≡ true
    ok n = or_blank_mileage l u.current.proposal v p.states.current.proposal (not-false (in_range l v) n.1.0)

    changed : NoneHolds (propose_conditions l u v) → Parts l next
    changed n = let c = p.states.current in
        record {
          settings = p.settings;
          states =
              record {
                logged = p.states.logged;
                current = record { round = c.round; proposal = mileage_blank l e (ok n); first = c.first; second = c.second };
                fit = p.states.fit;
              };
          checks = p.checks;
          seconds = p.seconds;
          unchecked = p.unchecked;
        }

module _ (l : Limits) (u : U.Unit) (m : Message) (p : Parts l u) where
  -- a unit at the last round does not close it: the condition LastRound does not hold
  at_last : closes_last l u m ≡ false → m.round ≡ u.current.round → m.kind ≡ Second → is_marked u.seconds.marks m.sender ≡ false
      → is_full u (seconds_with u m) ≡ true → u.current.round < l.last_round
  unfolding closes_last
  at_last not_closing here k free full = go (eqb u.current.round l.last_round) refl
    where
      go : (b : Bool) → eqb u.current.round l.last_round ≡ b → u.current.round < l.last_round
      go false e = omega (arith, p.states.current.round, eqb-false u.current.round l.last_round e)
      go true e =
          let closes : closes_last l u m ≡ true =
          and_both (and_both (and_both (and_both (ap is_second k) (ap (λ (x : ℕ). eqb x l.last_round) here ∙ e)) e) (ap not free)) full in
          never (sym not_closing ∙ closes)

  -- one that caught up has one mark, and a quorum is at least two
  not_full : (r : ℕ) (e : Estimate) → is_full (at_round u r e) (seconds_with (at_round u r e) m) ≡ true → ⊥
  unfolding is_full seconds_with at_round mark no_marks ones
  not_full r e full =
      let low = (numbers_facts u.settings.n u.settings.unit u.settings.entry p.settings).n_low in
      let one = mark_adds 0 m.sender (unmarked_none m.sender) in
      let enough : quorum_of u.settings.engine u.settings.n ≤ ones (bit_or 0 (2 ^ m.sender)) = leb-true _ _ full in
      omega (arith, quorum_fits u.settings.engine u.settings.n low)

pub sound_deliver : (l : Limits) (u : U.Unit) (m : Message) → WellFormed l u → Sound l u (deliver l u m)
unfolding deliver deliver_conditions skip kind_ok skip_ok says at_round
sound_deliver l u m w = by_conditions (Sound l u) (deliver_conditions l u m) u _ (refl, (refl, (refl, (refl, tt)))) (sound_refuses l u w) step
  where
    p : Parts l u
    p = parts l u w

    step : NoneHolds (deliver_conditions l u m) → Sound l u (received u m)
    step n =
        by_round (Sound l u) u m
        (λ _. sound_sends l u u refl p Skip m.sender Blank _ (and_both (and_both (lt-ltb _ _ i.below) refl) p.states.current.proposal))
        (λ at. kind_sound l u u m refl p i (at_last l u m p n.1.1.1.0 at))
        (λ above. kind_sound l u (at_round u m.round m.proposal) m refl
        (parts_at_round l u p m.round m.proposal above i.round (kind_proposal l m.kind m (i.kind m.kind refl)))
        i (λ _ _ full. absurd (not_full l u m p m.round m.proposal full)))
      where
        i : ForThisUnit l u.settings m
        i = given l u.settings m (not-false _ n.0) n.1.1.0

pub well_fresh : (l : Limits) (s : Settings) → settings_ok s ≡ true → WellFormed l (fresh s)
unfolding fresh log_ok state_ok mileage_or_blank second_estimate_ok
well_fresh l s h =
    well_at_log l _ (record { settings = s; state = clean 0 Blank })
    (and_both h (and_both (and_both (and_both (le-leb 0 l.last_round (omega arith)) refl) refl) refl))
