-- Each branch of one unit's step is good against the messages sent before it. Assumes nothing.
use Rattle.std.specs.Prelude.{Option, None}
use Prim.Native.Nat.{ℕ, ◌^◌, ◌≤◌, ◌<◌}
use mathlib.Core.Path.{◌≡◌, refl, sym, ap, subst, ◌∙◌}
use mathlib.Core.Bool.{Bool, true, false}
use mathlib.Core.List.{List}
use mathlib.Core.Logic.{◌⊎◌, inl, inr}
use native.Mathlib.Omega.{arith}
use borrow.Author.Tests.{leb-true}
use lib.Bits.{bit_or}
use lib.Count.{ones}
use Rattle.tally.specs.Gathered.{common}
use Rattle.tally.specs.Limits.{Limits}
use Rattle.tally.specs.Tally.{mark, no_marks, gathered}
use Rattle.tally.specs.declared.Engine.{Engine}
use Rattle.tally.specs.declared.Engine.TheVariants.{B, R}
use Rattle.tally.specs.declared.Estimate.{Estimate}
use Rattle.tally.specs.declared.Estimate.TheVariants.{Blank, Split, Mileage}
use Rattle.tally.specs.declared.Refusal.{Refusal}
use Rattle.tally.specs.declared.Tally.{Tally}
use Rattle.tally.proofs.Marks.{mark_adds}
use Rattle.tally.proofs.Never.{never}
use Rattle.tally.proofs.Quorums.{quorum_half}
use Rattle.contents.specs.Estimates.{is_blank}
use Rattle.contents.specs.Messages.{empty_message}
use Rattle.contents.specs.declared.Kind.{Kind}
use Rattle.contents.specs.declared.Kind.TheVariants.{Empty, Check, Second}
use Rattle.contents.specs.declared.Message.{Message}
use Rattle.contents.specs.declared.State.{State}
use Rattle.contents.proofs.Facts.{message_facts, image_facts}
use Rattle.contents.proofs.KindRules.{check_mileage}
use Rattle.contents.proofs.Same.{Fits, first_fits, second_fits, same_estimate_lem}
use Rattle.consensus.specs.Methods.{unless, propose_conditions, propose, deliver_conditions, deliver, key_off, key_on}
use Rattle.consensus.specs.Conditions.{Condition}
use Rattle.consensus.specs.Step.{quiet, says, with_checks, with_first, with_second, log_write, at_round, recovered, or_if_blank, send_first, proposed}
use Rattle.consensus.specs.Step.{vote_kind, vote_proposal, vote_first, take_first, is_full, vote_second, take_second, checks_with, close, seconds_with}
use Rattle.consensus.specs.Step.{on_kind, skip, received}
use Rattle.consensus.specs.Units.{WellFormed, unit_image, at_log, down_unit}
use Rattle.consensus.specs.declared.Answer.{Answer}
use Rattle.consensus.specs.declared.Power.{Power}
use Rattle.consensus.specs.declared.Power.TheVariants.{Down, Up}
use Rattle.consensus.specs.declared.Unit as U
use Rattle.consensus.proofs.Branches.{by_kind, by_check, by_second, by_round, by_unless}
use Rattle.consensus.proofs.Repeats.{unit_fits}
use Rattle.consensus.proofs.Full.{Proper, proper_mark, proper_none, proper_unit}
use Rattle.agreement.specs.Worlds.{Setup, settings_of}
use Rattle.agreement.proofs.Closing.{tallied_none, tallied_mark, kind_ok_lem, filled, common_quorum, next_sure, chosen}
use Rattle.agreement.proofs.Votes.{Of, of, is_vote, Unique, quorum, Quorum, Sure, SureOf, sure_of, Chosen}
use Rattle.agreement.proofs.Invariant.{Backed, FairMessage, Member, half, slot, Stands, VotesStand, Tallied, Votable, Fair, quorum_sure}

-- of an answer of unit u to a message of round r: what its unit, message and decision are
pub record Good (c : Setup) (X : Message → Type 0) (A : ℕ → Type 0) (u r : ℕ) (a : Answer) : Type 0 where
  pub fair : Fair c X A a.unit
  pub kept : VotesStand c X u a.unit.logged
  pub message : (a.message.kind ≡ Empty → ⊥)
      → Backed c X A a.message × (is_vote a.message.kind ≡ true → Stands c a.unit.logged a.message)
  pub decision : Of (Chosen c X A r) a.decision

-- ---- well-formed units

-- an estimate of an image's state that is not blank is the log's, in the same round
there : (i s : State) → Fits i s → (b : Bool) → is_blank (half b i) ≡ false → (s.round ≡ i.round) × (half b s ≡ half b i)
there i s h true n = second_fits i s h n
there i s h false n = first_fits i s h n

-- what the branches use of a well-formed unit
record Ready (c : Setup) (x : U.Unit) : Type 0 where
  fits : Fits x.current x.logged
  checks : Proper c.n x.checks
  seconds : Proper c.n x.seconds
  few : ones x.seconds.marks < quorum c

-- a unit with the settings of unit u
abbrev seated : Setup → ℕ → U.Unit → U.Unit
seated c u x =
    record { power = x.power; settings = settings_of c u; logged = x.logged; current = x.current; checks = x.checks; seconds = x.seconds }

ready : (l : Limits) (c : Setup) (u : ℕ) (x : U.Unit) → WellFormed l (seated c u x) → Ready c (seated c u x)
ready l c u x w =
    let p = proper_unit l (seated c u x) w in
    record {
      fits = unit_fits l (seated c u x) w;
      checks = p.0;
      seconds = p.1;
      few = (image_facts l (unit_image (seated c u x)) w.image).seconds.few;
    }

-- also after it took a round above its own
ready_above : (c : Setup) (x : U.Unit) (r : ℕ) (p : Estimate) → Ready c x → x.current.round < r → Ready c (at_round x r p)
unfolding at_round no_marks ones
ready_above c x r p i h =
    record { fits = inl (go i.fits, (refl, refl)); checks = none; seconds = none; few = omega (arith, quorum_half c.engine c.n) }
  where
    go : Fits x.current x.logged → x.logged.round < r
    go (inl q) = omega (arith, q.0)
    go (inr q) = omega (arith, q.0)

    none : Proper c.n no_marks
    none = proper_none c.n i.checks.low

module _ (c : Setup) (X : Message → Type 0) (A : ℕ → Type 0) where
  -- without marks
  pub fair_none : (x : U.Unit) → x.checks ≡ no_marks → x.seconds ≡ no_marks → Sure c X A x.logged.round x.logged.proposal
      → Sure c X A x.current.round x.current.proposal → Votable c X A x.logged → Fair c X A x
  fair_none x p q logged current votes =
      record { logged = logged; current = current; checks = rw p (tallied_none X _ _); seconds = rw q (tallied_none X _ _); votes = votes }

  -- an answer without message and decision
  good_silent : (k : Option Refusal) (u r : ℕ) (x : U.Unit) → Fair c X A x → VotesStand c X u x.logged
      → Good c X A u r (record { refusal = k; unit = x; message = empty_message; decision = Blank })
  good_silent k u r x f kept = record { fair = f; kept = kept; message = λ h. absurd (h refl); decision = tt }

  good_skip : (u r to : ℕ) (x : U.Unit) → Fair c X A x → VotesStand c X u x.logged → Good c X A u r (skip x to)
  unfolding skip says
  good_skip u r to x f kept =
      record {
        fair = f;
        kept = kept;
        message = λ h. (record { proposal = f.current; estimate = tt; checked = λ k. never cc }, λ t. never t);
        decision = tt;
      }

  good_proposed : (u r : ℕ) (x : U.Unit) (v : ℕ) → A v → Fair c X A x → VotesStand c X u x.logged → Good c X A u r (proposed x v)
  unfolding proposed send_first says
  good_proposed u r x v a f kept =
      let s = given x.current.proposal f.current in
      record {
        fair = record { logged = f.logged; current = s; checks = f.checks; seconds = f.seconds; votes = f.votes };
        kept = kept;
        message = λ h. (
          record { proposal = s; estimate = sure_of c X A _ (or_if_blank x.current.proposal (Mileage v)) s; checked = λ k. never cc },
          λ t. never t,
        );
        decision = tt;
      }
    where
      given : (p : Estimate) → Sure c X A x.current.round p → Sure c X A x.current.round (or_if_blank p (Mileage v))
      given Blank s = (λ r₀ w b n. s.0 r₀ w b refl, a)
      given Split s = s
      given (Mileage w) s = s

  -- the vote of a first estimate that is sure and stands in the log
  good_vote_first : (u r : ℕ) (x : U.Unit) → Fair c X A (seated c u x) → VotesStand c X u x.logged → Sure c X A x.current.round x.current.first
      → (x.logged.round ≡ x.current.round) × (x.logged.first ≡ x.current.first) → Good c X A u r (vote_first (seated c u x))
  unfolding vote_first says
  good_vote_first u r x f kept sure logged =
      record {
        fair = f;
        kept = kept;
        message = λ h. (
          record {
            proposal = proposal c.engine;
            estimate = sure_of c X A x.current.round x.current.first sure;
            checked = λ k g. never (let z : Check ≡ Second = rw g at k in cc);
          },
          λ t. (sym logged.0, stands c.engine),
        );
        decision = tt;
      }
    where
      proposal : (g : Engine) → Sure c X A x.current.round (vote_proposal g x.current.first x.current.proposal)
      proposal B = sure
      proposal R = f.current

      stands : (g : Engine) → half (slot g (vote_kind g)) x.logged ≡ x.current.first
      stands B = logged.1
      stands R = logged.1

  -- in B the vote of a second estimate
  good_vote_second : (u r : ℕ) (x : U.Unit) → c.engine ≡ B → Fair c X A (seated c u x) → VotesStand c X u x.logged → Votable c X A x.current
      → (x.logged.round ≡ x.current.round) × (x.logged.second ≡ x.current.second) → Good c X A u r (vote_second (seated c u x))
  unfolding vote_second says
  good_vote_second u r x b f kept v logged =
      record {
        fair = f;
        kept = kept;
        message = λ h. (
          record { proposal = f.current; estimate = v.second; checked = λ k. v.checked },
          λ t. (sym logged.0, rw b logged.1),
        );
        decision = tt;
      }

  -- a call that one of its conditions refuses changes nothing
  good_unless : (u r : ℕ) (cs : List Condition) (x : U.Unit) (a : Answer) → Fair c X A x → VotesStand c X u x.logged → Good c X A u r a
      → Good c X A u r (unless cs x a)
  good_unless u r cs x a f kept good = by_unless (Good c X A u r) cs x a good (λ k. good_silent k u r x f kept)

  module _ (u r : ℕ) (x : U.Unit) (f : Fair c X A x) (kept : VotesStand c X u x.logged) where
    rest : (p : Power) → Good c X A u r (quiet (at_log p x.settings x.logged))
    unfolding at_log
    rest p = good_silent None u r _ (fair_none _ refl refl f.logged f.logged f.votes) kept

    pub good_off : Good c X A u r (key_off x)
    unfolding key_off down_unit
    good_off = good_unless u r _ x _ f kept (rest Down)

    pub good_on : Good c X A u r (key_on x)
    unfolding key_on recovered
    good_on = good_unless u r _ x _ f kept (rest Up)

    pub good_propose : (l : Limits) (v : ℕ) → A v → Good c X A u r (propose l x v)
    unfolding propose
    good_propose l v a = good_unless u r (propose_conditions l x v) x (proposed x v) f kept (good_proposed u r x v a f kept)

-- ---- a message delivered

module _ (l : Limits) (c : Setup) (X : Message → Type 0) (A : ℕ → Type 0)
    (sent : (m : Message) → X m → FairMessage l c X A m) (unique : Unique X) where
  module _ (u : ℕ) (x : U.Unit) (i : Ready c (seated c u x)) (f : Fair c X A (seated c u x)) (kept : VotesStand c X u x.logged) where
    -- a state of the current round that has each estimate which was not blank has what was voted
    kept_on : (s : State) → s.round ≡ x.current.round → ((b : Bool) → is_blank (half b x.current) ≡ false → half b s ≡ half b x.current)
        → VotesStand c X u s
    kept_on s same stays m here t by = go i.fits (kept m here t by)
      where
        halves : (x.logged.first ≡ x.current.first) × (x.logged.second ≡ x.current.second) → (b : Bool)
            → half b x.logged ≡ half b x.current
        halves p true = p.1
        halves p false = p.0

        k : Bool
        k = slot c.engine m.kind

        go : Fits x.current x.logged → (m.round < x.logged.round) ⊎ Stands c x.logged m → (m.round < s.round) ⊎ Stands c s m
        go (inl h) (inl i) = inl (omega (arith, h.0))
        go (inl h) (inr i) = inl (omega (arith, h.0, i.0))
        go (inr h) (inl i) = inl (omega (arith, h.0))
        go (inr h) (inr i) =
            let e : half k x.current ≡ m.estimate = sym (halves h.1 k) ∙ i.1 in
            inr (i.0 ∙ h.0 ∙ sym same, stays k (rw e (filled l c X A sent m here t)) ∙ e)

    -- an estimate of the image is blank, or the log's in the same round
    on_half : (b : Bool) (P : ℕ → Estimate → Type 0) → P x.current.round Blank → P x.logged.round (half b x.logged)
        → P x.current.round (half b x.current)
    on_half b P none old = go (is_blank (half b x.current)) refl
      where
        go : (t : Bool) → is_blank (half b x.current) ≡ t → P x.current.round (half b x.current)
        go true e = subst (P x.current.round) (same_estimate_lem Blank (half b x.current) e) none
        go false e =
            let t = there x.current x.logged i.fits b e in
            subst (λ r. P r (half b x.current)) t.0 (subst (P x.logged.round) t.1 old)

    votes : Votable c X A x.current
    votes =
        record {
          first = on_half false (λ r e. is_blank e ≡ false → Sure c X A r e) (λ n. never (sym n)) f.votes.first;
          second = on_half true (SureOf c X A) tt f.votes.second;
          checked = λ g. on_half true (λ r e. Of (λ v. Quorum c X Check r (Mileage v)) e) tt (f.votes.checked g);
        }

    module _ (m : Message) (here : X m) (same : m.round ≡ x.current.round) where
      good_first : is_blank x.current.first ≡ true → Good c X A u x.current.round (take_first (seated c u x) m.proposal)
      unfolding take_first log_write
      good_first free =
          good_vote_first c X A u x.current.round (log_write x set)
          (record { logged = f.current; current = f.current; checks = f.checks; seconds = f.seconds; votes = set_votable })
          (kept_on set refl stays) got (refl, refl)
        where
          set : State
          set = with_first x.current m.proposal

          got : Sure c X A x.current.round m.proposal
          got = subst (λ r. Sure c X A r m.proposal) same (sent m here).backed.proposal

          set_votable : Votable c X A set
          set_votable = record { first = λ n. got; second = votes.second; checked = votes.checked }

          stays : (b : Bool) → is_blank (half b x.current) ≡ false → half b set ≡ half b x.current
          stays true n = refl
          stays false n = never (sym n ∙ free)

      good_check : c.engine ≡ B → is_blank x.current.second ≡ true → (t : Tally) → Proper c.n t → Tallied X Check x.current.round t
          → quorum c ≤ ones t.marks → Good c X A u x.current.round (take_second (seated c u x) (common (gathered t)))
      unfolding take_second log_write
      good_check b free t proper tallied full =
          good_vote_second c X A u x.current.round (with_checks (log_write x set) no_marks) b
          (record { logged = f.current; current = f.current; checks = tallied_none X _ _; seconds = f.seconds; votes = set_votable })
          (kept_on set refl stays) set_votable (refl, refl)
        where
          set : State
          set = with_second x.current (common (gathered t))

          back : (v : ℕ) → common (gathered t) ≡ Mileage v → Quorum c X Check x.current.round (Mileage v)
          back = common_quorum X Check x.current.round c t proper tallied full

          set_votable : Votable c X A set
          set_votable =
              record {
                first = votes.first;
                second = of (λ v. Sure c X A x.current.round (Mileage v)) (common (gathered t)) (λ v e. quorum_sure l c X A sent (back v e));
                checked = λ g. of (λ v. Quorum c X Check x.current.round (Mileage v)) (common (gathered t)) back;
              }

          stays : (b : Bool) → is_blank (half b x.current) ≡ false → half b set ≡ half b x.current
          stays true n = never (sym n ∙ free)
          stays false n = refl

      good_close : (t : Tally) → Proper c.n t → Tallied X Second x.current.round t → ones t.marks ≡ quorum c
          → Good c X A u x.current.round (close (seated c u x) t)
      unfolding close at_round
      good_close t proper tallied exact =
          record {
            fair = fair_none c X A _ refl refl f.logged (next_sure l c X A sent unique r t proper tallied exact x.current.proposal f.current) f.votes;
            kept = kept;
            message = λ h. absurd (h refl);
            decision = chosen l c X A sent unique r t proper tallied exact (common (gathered t)) refl;
          }
        where
          r : ℕ
          r = x.current.round

      module _ (k : Kind) (vote : is_vote k ≡ true) (kind : m.kind ≡ k) (t : Tally) (proper : Proper c.n t)
          (tallied : Tallied X k x.current.round t) where
        below : m.sender < c.n
        below = omega (arith, (message_facts l m (sent m here).from.well_formed).numbers.below, (sent m here).from.n)

        proper_with : Proper c.n (mark t m.sender m.estimate)
        proper_with = proper_mark c.n t proper m.sender m.estimate below (filled l c X A sent m here (rw kind vote))

        tallied_with : Tallied X k x.current.round (mark t m.sender m.estimate)
        tallied_with = tallied_mark X k x.current.round t m here kind same (omega (arith, below, proper.low, proper.typed.cells)) tallied

      -- CHECK is in B only
      in_b : m.kind ≡ Check → c.engine ≡ B
      in_b e = sym (sent m here).from.engine ∙ (check_mileage l m (kind_ok_lem l c X A sent Check m here e)).0

      good_kind : Good c X A u x.current.round (on_kind m.kind (seated c u x) m)
      unfolding checks_with seconds_with is_full mark
      good_kind =
          by_kind (Good c X A u x.current.round) m.kind (seated c u x) m
          (record {
            nothing = good_silent c X A None u _ (seated c u x) f kept;
            first = λ e. good_first;
            first_again = λ e n. good_vote_first c X A u _ x f kept (votes.first n) (there x.current x.logged i.fits false n);
            second_again = λ e n. good_vote_second c X A u _ x (in_b e) f kept votes (there x.current x.logged i.fits true n);
            checks = λ e free n.
                let p = proper_with Check refl e x.checks i.checks f.checks in
                let t = tallied_with Check refl e x.checks i.checks f.checks in
                by_check (Good c X A u x.current.round) (seated c u x) (checks_with (seated c u x) m)
                (λ h. good_check (in_b e) free _ p t (leb-true _ _ h))
                (λ h. good_silent c X A None u _ _
                (record { logged = f.logged; current = f.current; checks = t; seconds = f.seconds; votes = f.votes }) kept);
            seconds = λ e n.
                let p = proper_with Second refl e x.seconds i.seconds f.seconds in
                let t = tallied_with Second refl e x.seconds i.seconds f.seconds in
                by_second (Good c X A u x.current.round) (seated c u x) (seconds_with (seated c u x) m)
                (λ h.
                let full : quorum c ≤ ones (bit_or x.seconds.marks (2 ^ m.sender)) = leb-true _ _ h in
                good_close _ p t (omega (arith, i.few, mark_adds x.seconds.marks m.sender n)))
                (λ h. good_silent c X A None u _ _
                (record { logged = f.logged; current = f.current; checks = f.checks; seconds = t; votes = f.votes }) kept);
          })

  good_received : (u : ℕ) (x : U.Unit) → Ready c (seated c u x) → Fair c X A (seated c u x) → VotesStand c X u x.logged → (m : Message) → X m
      → Good c X A u m.round (received (seated c u x) m)
  unfolding at_round
  good_received u x i f kept m here =
      by_round (Good c X A u m.round) (seated c u x) m (λ h. good_skip c X A u m.round m.sender (seated c u x) f kept)
      (λ h. subst (λ r. Good c X A u r (on_kind m.kind (seated c u x) m)) (sym h) (good_kind u x i f kept m here h))
      (λ h. good_kind u (at_round x m.round m.proposal) (ready_above c (seated c u x) m.round m.proposal i h)
      (fair_none c X A _ refl refl f.logged (sent m here).backed.proposal f.votes) kept m here refl)

  pub good_deliver : (u : ℕ) (x : U.Unit) → Member l c X A u x → (m : Message) → X m → Good c X A u m.round (deliver l x m)
  unfolding deliver
  good_deliver u x i m here =
      good_unless c X A u m.round (deliver_conditions l x m) x (received x m) i.fair i.kept
      (subst (λ y. Good c X A u m.round (received y m)) (sym seat)
      (good_received u x (ready l c u x (subst (WellFormed l) seat i.well_formed)) (subst (Fair c X A) seat i.fair) i.kept m here))
    where
      seat : x ≡ seated c u x
      seat =
          ap (λ s. record { power = x.power; settings = s; logged = x.logged; current = x.current; checks = x.checks; seconds = x.seconds })
          i.settings
