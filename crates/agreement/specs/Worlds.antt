-- What a history leaves, and what demand 3 says of it, whether units and messages are bytes or contents. Assumes nothing.
use Rattle.std.specs.Prelude.{ℕ, ◌≤◌, ◌<◌, ◌≡◌, Bool, true, cond, eqb}
use mathlib.Core.List.{List, [], ◌∷◌, ◌++◌, Memᴰ}
use Rattle.std.proofs.Math.Option.{Option, none, some}
use Rattle.tally.specs.Count.{count}
use Rattle.tally.specs.Quorum.{quorum_of}
use Rattle.tally.specs.declared.Engine.{Engine}
use Rattle.tally.specs.declared.Estimate.{Estimate}
use Rattle.tally.specs.declared.Estimate.TheVariants.{Blank, Split, Mileage}
use Rattle.contents.specs.declared.Kind.TheVariants.{Second}
use Rattle.contents.specs.declared.Message.{Message}
use Rattle.contents.specs.declared.Settings.{Settings}
use Rattle.contents.specs.declared.State.{State}

-- what all units of a history have in common: the same engine, n and entry
pub record Setup : Type 0 where
  pub engine : Engine
  pub n : ℕ
  pub entry : ℕ

abbrev pub settings_of : Setup → ℕ → Settings
settings_of c u = record { engine = c.engine; n = c.n; unit = u; entry = c.entry }

-- an accepted proposal event
pub record Proposal : Type 0 where
  pub unit : ℕ
  pub mileage : ℕ

-- a decision is what an accepted delivery, not cut, reports; its round is the one whose SECONDs agreed
pub record Decision : Type 0 where
  pub unit : ℕ
  pub round : ℕ
  pub mileage : ℕ

-- units U and messages M; what was sent is numbered from 0, without limit, and never removed
pub record World (U M : Type 0) : Type 0 where
  pub units : ℕ → U
  pub sent : List M
  pub proposed : List Proposal
  pub decided : List Decision

-- unit u is x from now on
abbrev pub put : {U : Type 0} → (ℕ → U) → ℕ → U → ℕ → U
put f u x v = cond (eqb v u) x (f v)

module _ {U M : Type 0} where
  abbrev pub change : World U M → ℕ → U → World U M
  change w u x = record { units = put w.units u x; sent = w.sent; proposed = w.proposed; decided = w.decided }

  -- a message, if any, is kept next
  abbrev pub keep : World U M → Option M → World U M
  keep w none = w
  keep w (some m) = record { units = w.units; sent = w.sent ++ (m ∷ []); proposed = w.proposed; decided = w.decided }

  -- a decision, if any, is reported
  abbrev pub report : World U M → Option Decision → World U M
  report w none = w
  report w (some d) = record { units = w.units; sent = w.sent; proposed = w.proposed; decided = w.decided ++ (d ∷ []) }

  -- an accepted proposal is recorded
  abbrev pub give : World U M → Proposal → World U M
  give w p = record { units = w.units; sent = w.sent; proposed = w.proposed ++ (p ∷ []); decided = w.decided }

-- the decision of unit u in round r, where the estimate is a mileage
abbrev pub decision : ℕ → ℕ → Estimate → Option Decision
decision u r Blank = none
decision u r Split = none
decision u r (Mileage v) = some (record { unit = u; round = r; mileage = v })

-- a history (the scope paper's term): any list of events, one after the other
unfoldable pub run : {W E : Type 0} → (W → E → W) → W → List E → W
run step w [] = w
run step w (e ∷ es) = run step (step w e) es

-- a mileage is proposed where an accepted proposal event gives it
pub record Given {U M : Type 0} (v : ℕ) (w : World U M) : Type 0 where
  pub by : ℕ
  pub there : Memᴰ (record { unit = by; mileage = v }) w.proposed

-- a log or an image at state s, in a round above the decision's, has its proposal: no other, and not blank
abbrev pub Locked : Decision → State → Type 0
Locked d s = d.round < s.round → s.proposal ≡ Mileage d.mileage

-- what is seen of units and messages
pub record View (U M : Type 0) : Type 1 where
  -- a unit has a log at this state; it is up; it is up with an image at this state
  pub HasLog : U → State → Type 0
  pub IsUp : U → Type 0
  pub HasImage : U → State → Type 0
  -- a message is read as this one
  pub Reads : M → Message → Type 0

-- at least `need` of the units below n, each with a fact
pub record Many (n need : ℕ) (P : ℕ → Type 0) : Type 0 where
  pub who : ℕ → Bool
  pub many : need ≤ count n who
  pub each : (u : ℕ) → who u ≡ true → P u

-- unit u has sent a SECOND of the decision's round with its mileage
pub record Seconded {U M : Type 0} (view : View U M) (w : World U M) (d : Decision) (u : ℕ) : Type 0 where
  pub copy : M
  pub message : Message
  pub sent : Memᴰ copy w.sent
  pub reads : view.Reads copy message
  pub kind : message.kind ≡ Second
  pub sender : message.sender ≡ u
  pub round : message.round ≡ d.round
  pub estimate : message.estimate ≡ Mileage d.mileage

module _ {U M E : Type 0} (step : World U M → E → World U M) where
  -- d is among the decisions reported by the end of the events es from the world w on, those of w too
  abbrev pub Reported : World U M → List E → Decision → Type 0
  Reported w es d = Memᴰ d (run step w es).decided

-- demand 3 of the events es from the world w on
pub record Agreed {U M E : Type 0} (c : Setup) (view : View U M) (step : World U M → E → World U M) (w : World U M) (es : List E) : Type 0 where
  -- no two decisions differ
  pub same : (a b : Decision) → Reported step w es a → Reported step w es b → a.mileage ≡ b.mileage
  -- each was proposed before: the mileage of each decision reported by an event was given by an accepted proposal event before that event
  pub proposed : (before after : List E) (e : E) → es ≡ before ++ (e ∷ after) → (d : Decision) → Reported step w (before ++ (e ∷ [])) d
      → Given d.mileage (run step w before)
  -- no log, at any time, in a round above a decision's has another proposal
  pub logs : (before after : List E) → es ≡ before ++ after → (u : ℕ) → u < c.n → (s : State) → view.HasLog ((run step w before).units u) s
      → (d : Decision) → Reported step w es d → Locked d s
  -- and no image of an up unit
  pub images : (before after : List E) → es ≡ before ++ after → (u : ℕ) → u < c.n → (s : State) → view.HasImage ((run step w before).units u) s
      → (d : Decision) → Reported step w es d → Locked d s
  -- of every unit these two speak: its log is read, and while it is up its image
  pub logs_read : (u : ℕ) → u < c.n → (s : State) × view.HasLog ((run step w es).units u) s
  pub images_read : (u : ℕ) → u < c.n → view.IsUp ((run step w es).units u) → (s : State) × view.HasImage ((run step w es).units u) s
  -- a decision's round is the one whose SECONDs agreed: a quorum of units has sent them
  pub seconded : (d : Decision) → Reported step w es d → Many c.n (quorum_of c.engine c.n) (Seconded view (run step w es) d)
