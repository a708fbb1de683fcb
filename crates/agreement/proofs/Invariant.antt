-- The invariant of histories: X are the messages sent, A the mileages proposed, D the decisions reported, N the units. Assumes nothing.
use Prim.Native.Nat.{ℕ, ◌<◌}
use mathlib.Core.Path.{◌≡◌, refl, sym, subst}
use mathlib.Core.Bool.{Bool, true, false, cond, ◌&&◌}
use mathlib.Core.Logic.{◌⊎◌}
use native.Mathlib.Decide.{dec_lt}
use native.Mathlib.Omega.{arith}
use Rattle.tally.specs.Limits.{Limits}
use Rattle.tally.specs.Tally.{held}
use Rattle.tally.specs.declared.Engine.{Engine}
use Rattle.tally.specs.declared.Engine.TheVariants.{B}
use Rattle.tally.specs.declared.Estimate.{Estimate}
use Rattle.tally.specs.declared.Estimate.TheVariants.{Mileage}
use Rattle.tally.specs.declared.Tally.{Tally}
use Rattle.contents.specs.Estimates.{is_b, is_blank}
use Rattle.contents.specs.declared.Kind.{Kind}
use Rattle.contents.specs.declared.Kind.TheVariants.{Check, Second}
use Rattle.contents.specs.declared.Message.{Message}
use Rattle.contents.specs.declared.State.{State}
use Rattle.consensus.specs.Methods.{is_second}
use Rattle.consensus.specs.Sound.{From}
use Rattle.consensus.specs.Units.{WellFormed}
use Rattle.consensus.specs.declared.Unit as U
use Rattle.agreement.specs.Worlds.{Setup, settings_of, Decision, Locked}
use Rattle.agreement.proofs.Votes.{Of, of_map, shared, is_vote, Vote, Unique, Quorum, Sure}
use Rattle.agreement.proofs.Votes.{SureOf, Chosen, one_quorum, locked, vote_up, quorum_up, sure_up}

-- what is safe in a message
pub record Backed (c : Setup) (X : Message → Type 0) (A : ℕ → Type 0) (m : Message) : Type 0 where
  pub proposal : Sure c X A m.round m.proposal
  pub estimate : SureOf c X A m.round m.estimate
  -- B: a SECOND's mileage has a quorum of CHECKs
  pub checked : m.kind ≡ Second → c.engine ≡ B → Of (λ v. Quorum c X Check m.round (Mileage v)) m.estimate

pub record FairMessage (l : Limits) (c : Setup) (X : Message → Type 0) (A : ℕ → Type 0) (m : Message) : Type 0 where
  pub from : From l (settings_of c m.sender) m
  pub backed : Backed c X A m

-- one of a state's estimates: the second or the first
abbrev pub half : Bool → State → Estimate
half b s = cond b s.second s.first

-- a vote stands in a log: a SECOND of B is the second estimate, the others are the first
abbrev pub slot : Engine → Kind → Bool
slot g k = is_b g && is_second k

abbrev pub Stands : Setup → State → Message → Type 0
Stands c s m = (m.round ≡ s.round) × (half (slot c.engine m.kind) s ≡ m.estimate)

-- each vote that unit u sent stands in its log s, or is of a round below
abbrev pub VotesStand : Setup → (Message → Type 0) → ℕ → State → Type 0
VotesStand c X u s = (m : Message) → X m → is_vote m.kind ≡ true → m.sender ≡ u → (m.round < s.round) ⊎ Stands c s m

-- what is gathered was sent
abbrev pub Tallied : (Message → Type 0) → Kind → ℕ → Tally → Type 0
Tallied X k r t = (s : ℕ) → is_blank (held t s) ≡ false → Vote X k s r (held t s)

-- the estimates of a state, which may go out at any time: both are safe, and in B a second one that is a mileage has its quorum of CHECKs
pub record Votable (c : Setup) (X : Message → Type 0) (A : ℕ → Type 0) (s : State) : Type 0 where
  pub first : is_blank s.first ≡ false → Sure c X A s.round s.first
  pub second : SureOf c X A s.round s.second
  pub checked : c.engine ≡ B → Of (λ v. Quorum c X Check s.round (Mileage v)) s.second

pub record Fair (c : Setup) (X : Message → Type 0) (A : ℕ → Type 0) (x : U.Unit) : Type 0 where
  pub logged : Sure c X A x.logged.round x.logged.proposal
  pub current : Sure c X A x.current.round x.current.proposal
  pub checks : Tallied X Check x.current.round x.checks
  pub seconds : Tallied X Second x.current.round x.seconds
  pub votes : Votable c X A x.logged

pub record Member (l : Limits) (c : Setup) (X : Message → Type 0) (A : ℕ → Type 0) (u : ℕ) (x : U.Unit) : Type 0 where
  pub well_formed : WellFormed l x
  pub settings : x.settings ≡ settings_of c u
  pub fair : Fair c X A x
  pub kept : VotesStand c X u x.logged

pub record Invariant (l : Limits) (c : Setup) (X : Message → Type 0) (A : ℕ → Type 0) (D : Decision → Type 0) (N : ℕ → U.Unit) : Type 0 where
  pub units : (u : ℕ) → u < c.n → Member l c X A u (N u)
  pub sent : (m : Message) → X m → FairMessage l c X A m
  pub unique : Unique X
  pub decided : (d : Decision) → D d → Chosen c X A d.round d.mileage

-- ---- votes of the messages sent

module _ (l : Limits) (c : Setup) (X : Message → Type 0) (A : ℕ → Type 0) (sent : (m : Message) → X m → FairMessage l c X A m) where
  pub vote_sure : {k : Kind} {u r v : ℕ} → Vote X k u r (Mileage v) → Sure c X A r (Mileage v)
  vote_sure {v = v} a =
      subst (λ r. Sure c X A r (Mileage v)) a.round
      (subst (SureOf c X A a.message.round) a.estimate (sent a.message a.sent).backed.estimate)

  pub quorum_sure : {k : Kind} {r v : ℕ} → Quorum c X k r (Mileage v) → Sure c X A r (Mileage v)
  quorum_sure a = vote_sure (shared c a a).1.0

-- ---- demand 3's claims

module _ (l : Limits) (c : Setup) (X : Message → Type 0) (A : ℕ → Type 0) (D : Decision → Type 0) (N : ℕ → U.Unit)
    (inv : Invariant l c X A D N) where
  pub locked_at : (d : Decision) → D d → (s : State) → Sure c X A s.round s.proposal → Locked d s
  locked_at d h s sure b = locked c X inv.unique d.round d.mileage s.round s.proposal (inv.decided d h).0 b sure.0

  later : (a b : Decision) → D a → D b → a.round < b.round → b.mileage ≡ a.mileage
  later a b p q h =
      let e : Mileage b.mileage ≡ Mileage a.mileage =
      locked c X inv.unique a.round a.mileage b.round (Mileage b.mileage) (inv.decided a p).0 h
      (quorum_sure l c X A inv.sent (inv.decided b q).0).0 in
      cc

  pub agreement : (a b : Decision) → D a → D b → a.mileage ≡ b.mileage
  agreement a b p q = go (dec_lt a.round b.round) (dec_lt b.round a.round)
    where
      go : Dec (a.round < b.round) → Dec (b.round < a.round) → a.mileage ≡ b.mileage
      go (yes h) i = sym (later a b p q h)
      go (no h) (yes i) = later b a q p i
      go (no h) (no i) =
          let e : b.round ≡ a.round = omega arith in
          let f = one_quorum c X inv.unique Second refl a.round (Mileage a.mileage) (Mileage b.mileage) (inv.decided a p).0
          (subst (λ r. Quorum c X Second r (Mileage b.mileage)) e (inv.decided b q).0) in
          cc

-- ---- more messages sent, more mileages proposed

module _ (c : Setup) {X Y : Message → Type 0} (up : (m : Message) → X m → Y m) {A C : ℕ → Type 0} (more : (v : ℕ) → A v → C v) where
  pub backed_up : (m : Message) → Backed c X A m → Backed c Y C m
  backed_up m b =
      record {
        proposal = sure_up c up more m.round m.proposal b.proposal;
        estimate = of_map (λ v s. sure_up c up more m.round (Mileage v) s) m.estimate b.estimate;
        checked = λ k g. of_map (λ v a. quorum_up c up a) m.estimate (b.checked k g);
      }

  votable_up : (s : State) → Votable c X A s → Votable c Y C s
  votable_up s v =
      record {
        first = λ n. sure_up c up more s.round s.first (v.first n);
        second = of_map (λ w e. sure_up c up more s.round (Mileage w) e) s.second v.second;
        checked = λ g. of_map (λ w a. quorum_up c up a) s.second (v.checked g);
      }

  pub fair_up : (x : U.Unit) → Fair c X A x → Fair c Y C x
  fair_up x f =
      record {
        logged = sure_up c up more x.logged.round x.logged.proposal f.logged;
        current = sure_up c up more x.current.round x.current.proposal f.current;
        checks = λ s h. vote_up c up (f.checks s h);
        seconds = λ s h. vote_up c up (f.seconds s h);
        votes = votable_up x.logged f.votes;
      }
