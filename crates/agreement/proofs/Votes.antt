-- Votes sent, quorums of them, blocked mileages and safe proposals: once there, they stay. X are the messages sent, A the mileages proposed. Assumes nothing.
use Prim.Native.Nat.{ℕ, ◌+◌, ◌-◌, ◌<◌}
use mathlib.Core.Path.{◌≡◌, refl, sym, ◌∙◌}
use mathlib.Core.Bool.{Bool, true, false}
use native.Mathlib.Omega.{arith}
use borrow.Author.Tests.{eq-eqb}
use Rattle.tally.specs.Gathered.{has_value}
use Rattle.tally.specs.Quorum.{quorum_of}
use Rattle.tally.specs.declared.Estimate.{Estimate}
use Rattle.tally.specs.declared.Estimate.TheVariants.{Blank, Split, Mileage}
use Rattle.tally.proofs.Count.{overlap}
use Rattle.tally.proofs.Never.{never}
use Rattle.tally.proofs.Quorums.{quorums_overlap}
use Rattle.contents.specs.declared.Kind.{Kind}
use Rattle.contents.specs.declared.Kind.TheVariants.{Empty, First, Check, Second, Skip}
use Rattle.contents.specs.declared.Message.{Message}
use Rattle.consensus.proofs.Full.{holds_mileage}
use Rattle.agreement.specs.Worlds.{Setup, Many}

-- ---- estimates

-- a fact of the mileage, where the estimate is one
abbrev pub Of : (ℕ → Type 0) → Estimate → Type 0
Of F Blank = Unit
Of F Split = Unit
Of F (Mileage v) = F v

pub of : (F : ℕ → Type 0) (e : Estimate) → ((v : ℕ) → e ≡ Mileage v → F v) → Of F e
of F Blank f = tt
of F Split f = tt
of F (Mileage v) f = f v refl

pub of_map : {F G : ℕ → Type 0} → ((v : ℕ) → F v → G v) → (e : Estimate) → Of F e → Of G e
of_map f Blank h = tt
of_map f Split h = tt
of_map f (Mileage v) h = f v h

pub holds_not : (v : ℕ) (e : Estimate) → has_value v e ≡ false → e ≡ Mileage v → ⊥
holds_not v e h p = never (sym h ∙ rw p (eq-eqb v v refl))

-- ---- so many units each with a fact

pub many_map : {n need : ℕ} {P Q : ℕ → Type 0} → ((u : ℕ) → P u → Q u) → Many n need P → Many n need Q
many_map f a = record { who = a.who; many = a.many; each = λ u h. f u (a.each u h) }

-- two sets of units that have more than n members together share one; of two quorums it is `shared`
pub meet : {n j k : ℕ} {P Q : ℕ → Type 0} → n < j + k → Many n j P → Many n k Q → (u : ℕ) × (P u × Q u)
meet {n} h a b =
    let o = overlap n a.who b.who (omega (arith, a.many, b.many)) in
    (o.at, (a.each o.at o.left, b.each o.at o.right))

-- ---- votes

-- CHECKs and SECONDs are votes
abbrev pub is_vote : Kind → Bool
is_vote Empty = false
is_vote First = false
is_vote Check = true
is_vote Second = true
is_vote Skip = false

pub record Vote (X : Message → Type 0) (k : Kind) (u r : ℕ) (e : Estimate) : Type 0 where
  pub message : Message
  pub sent : X message
  pub kind : message.kind ≡ k
  pub sender : message.sender ≡ u
  pub round : message.round ≡ r
  pub estimate : message.estimate ≡ e

-- a SECOND of unit u in round r that is not v
pub record Other (X : Message → Type 0) (r v u : ℕ) : Type 0 where
  pub estimate : Estimate
  pub vote : Vote X Second u r estimate
  pub differs : has_value v estimate ≡ false

-- votes of one kind, unit and round have one estimate, however often they are sent
abbrev pub Unique : (Message → Type 0) → Type 0
Unique X = (a b : Message) → X a → X b → is_vote a.kind ≡ true → a.kind ≡ b.kind → a.sender ≡ b.sender → a.round ≡ b.round
    → a.estimate ≡ b.estimate

abbrev pub quorum : Setup → ℕ
quorum c = quorum_of c.engine c.n

abbrev pub Quorum : Setup → (Message → Type 0) → Kind → ℕ → Estimate → Type 0
Quorum c X k r e = Many c.n (quorum c) (λ u. Vote X k u r e)

-- two quorums share a unit
pub shared : (c : Setup) {P Q : ℕ → Type 0} → Many c.n (quorum c) P → Many c.n (quorum c) Q → (u : ℕ) × (P u × Q u)
shared c a b =
    let o = quorums_overlap c.engine c.n a.who b.who a.many b.many in
    (o.at, (a.each o.at o.left, b.each o.at o.right))

-- so many SECONDs of round r are not v that no quorum can be v
abbrev pub Blocked : Setup → (Message → Type 0) → ℕ → ℕ → Type 0
Blocked c X r v = Many c.n (c.n + 1 - quorum c) (Other X r v)

-- every mileage but p is blocked in every round below r
abbrev pub Safe : Setup → (Message → Type 0) → ℕ → Estimate → Type 0
Safe c X r p = (r₀ v : ℕ) → r₀ < r → has_value v p ≡ false → Blocked c X r₀ v

-- and p, if a mileage, was proposed
abbrev pub Sure : Setup → (Message → Type 0) → (ℕ → Type 0) → ℕ → Estimate → Type 0
Sure c X A r p = Safe c X r p × Of A p

-- the same of an estimate, which may be blank or split
abbrev pub SureOf : Setup → (Message → Type 0) → (ℕ → Type 0) → ℕ → Estimate → Type 0
SureOf c X A r e = Of (λ v. Sure c X A r (Mileage v)) e

pub sure_of : (c : Setup) (X : Message → Type 0) (A : ℕ → Type 0) (r : ℕ) (e : Estimate) → Sure c X A r e → SureOf c X A r e
sure_of c X A r Blank s = tt
sure_of c X A r Split s = tt
sure_of c X A r (Mileage v) s = s

-- what is decided in round r
abbrev pub Chosen : Setup → (Message → Type 0) → (ℕ → Type 0) → ℕ → ℕ → Type 0
Chosen c X A r v = Quorum c X Second r (Mileage v) × A v

-- ---- where the estimates of votes are unique

module _ (c : Setup) (X : Message → Type 0) (unique : Unique X) where
  one_vote : (k : Kind) → is_vote k ≡ true → (u r : ℕ) (d e : Estimate) → Vote X k u r d → Vote X k u r e → d ≡ e
  one_vote k t u r d e a b =
      sym a.estimate
      ∙ unique a.message b.message a.sent b.sent (rw a.kind t) (a.kind ∙ sym b.kind) (a.sender ∙ sym b.sender)
      (a.round ∙ sym b.round)
      ∙ b.estimate

  -- two quorums of one kind and round are of one estimate
  pub one_quorum : (k : Kind) → is_vote k ≡ true → (r : ℕ) (d e : Estimate) → Quorum c X k r d → Quorum c X k r e → d ≡ e
  one_quorum k t r d e a b = let o = shared c a b in one_vote k t o.0 r d e o.1.0 o.1.1

  -- above the round of a quorum of SECONDs only its mileage is safe
  pub locked : (r v s : ℕ) (p : Estimate) → Quorum c X Second r (Mileage v) → r < s → Safe c X s p → p ≡ Mileage v
  locked r v s p a h safe = go (has_value v p) refl
    where
      go : (b : Bool) → has_value v p ≡ b → p ≡ Mileage v
      go true e = holds_mileage v p e
      go false e =
          let o = meet (omega arith) a (safe r v h e) in
          let x = o.1.1 in
          absurd (holds_not v x.estimate x.differs (one_vote Second refl o.0 r x.estimate (Mileage v) x.vote o.1.0))

-- ---- more messages sent, more mileages proposed

module _ (c : Setup) {X Y : Message → Type 0} (up : (m : Message) → X m → Y m) where
  pub vote_up : {k : Kind} {u r : ℕ} {e : Estimate} → Vote X k u r e → Vote Y k u r e
  vote_up a =
      record { message = a.message; sent = up a.message a.sent; kind = a.kind; sender = a.sender; round = a.round; estimate = a.estimate }

  pub quorum_up : {k : Kind} {r : ℕ} {e : Estimate} → Quorum c X k r e → Quorum c Y k r e
  quorum_up a = many_map (λ u b. vote_up b) a

  module _ {A C : ℕ → Type 0} (more : (v : ℕ) → A v → C v) where
    pub sure_up : (r : ℕ) (p : Estimate) → Sure c X A r p → Sure c Y C r p
    sure_up r p s = (
      λ r₀ v h n. many_map (λ u o. record { estimate = o.estimate; vote = vote_up o.vote; differs = o.differs }) (s.0 r₀ v h n),
      of_map more p s.1,
    )
