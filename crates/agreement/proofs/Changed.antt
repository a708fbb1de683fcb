-- One unit changed, what it sent and decided added: the invariant stays. For all five events of contents alike. Assumes nothing.
use Prim.Native.Nat.{ℕ, ◌<◌}
use mathlib.Core.Path.{◌≡◌, refl, sym, subst, ◌∙◌}
use mathlib.Core.Bool.{Bool, true, false, cond}
use mathlib.Core.Logic.{◌⊎◌, inl, inr}
use native.Mathlib.Omega.{arith}
use borrow.Author.Tests.{eqb-true, eqb-false}
use lib.Dec.{eqb}
use Rattle.tally.specs.Limits.{Limits}
use Rattle.contents.specs.declared.Message.{Message}
use Rattle.contents.specs.declared.State.{State}
use Rattle.consensus.specs.Sound.{From}
use Rattle.consensus.specs.declared.Unit as U
use Rattle.agreement.specs.Worlds.{Setup, settings_of, Decision, put}
use Rattle.agreement.proofs.Votes.{is_vote, Unique, Chosen, quorum_up}
use Rattle.agreement.proofs.Invariant.{Backed, FairMessage, Stands, VotesStand, Member, Invariant, backed_up, fair_up}

-- a message that unit u, with its log at s, sends
pub record New (l : Limits) (c : Setup) (X : Message → Type 0) (A : ℕ → Type 0) (u : ℕ) (s : State) (m : Message) : Type 0 where
  pub from : From l (settings_of c u) m
  pub backed : Backed c X A m
  pub stands : is_vote m.kind ≡ true → Stands c s m

-- from the messages X, mileages A and decisions D to Y, C and E, with the unit u at x
module _ (l : Limits) (c : Setup) {X Y : Message → Type 0} {A C : ℕ → Type 0} {D E : Decision → Type 0} (N : ℕ → U.Unit)
    (inv : Invariant l c X A D N) (u : ℕ) (x : U.Unit) (member : Member l c X C u x)
    (up : (m : Message) → X m → Y m) (more : (v : ℕ) → A v → C v)
    (back : (m : Message) → Y m → X m ⊎ New l c X C u x.logged m)
    (decs : (d : Decision) → E d → D d ⊎ Chosen c X C d.round d.mileage) where
  kept_with : (v : ℕ) (s : State) → VotesStand c X v s
      → ((m : Message) → New l c X C u x.logged m → is_vote m.kind ≡ true → v ≡ u → Stands c s m) → VotesStand c Y v s
  kept_with v s kept stands m y t by = go (back m y)
    where
      go : X m ⊎ New l c X C u x.logged m → (m.round < s.round) ⊎ Stands c s m
      go (inl h) = kept m h t by
      go (inr n) = inr (stands m n t (sym by ∙ n.from.sender))

  kept_here : VotesStand c Y u x.logged
  kept_here = kept_with u x.logged member.kept (λ m n t e. n.stands t)

  -- a new vote is what the log holds, and so is any other vote of its round
  as_new : (a b : Message) → New l c X C u x.logged a → Y b → is_vote a.kind ≡ true → a.kind ≡ b.kind → a.sender ≡ b.sender
      → a.round ≡ b.round → a.estimate ≡ b.estimate
  as_new a b n y t k s r = go (n.stands t) (kept_here b y (rw k at t) (sym s ∙ n.from.sender))
    where
      go : Stands c x.logged a → (b.round < x.logged.round) ⊎ Stands c x.logged b → a.estimate ≡ b.estimate
      go p (inl h) = absurd (omega (arith, p.0))
      go p (inr q) = sym p.1 ∙ rw k q.1

  unique : Unique Y
  unique a b y z t k s r = go (back a y) (back b z)
    where
      go : X a ⊎ New l c X C u x.logged a → X b ⊎ New l c X C u x.logged b → a.estimate ≡ b.estimate
      go (inl h) (inl i) = inv.unique a b h i t k s r
      go (inr n) i = as_new a b n z t k s r
      go (inl h) (inr n) = sym (as_new b a n y (rw k at t) (sym k) (sym s) (sym r))

  pub changed : Invariant l c Y C E (put N u x)
  changed =
      record {
        units = λ v b. unit v b (eqb v u) refl;
        sent = λ m y. message m (back m y);
        unique = unique;
        decided = λ d e. chosen d (decs d e);
      }
    where
      unit : (v : ℕ) → v < c.n → (b : Bool) → eqb v u ≡ b → Member l c Y C v (cond b x (N v))
      unit v below true e =
          rw (eqb-true v u e)
          (record { well_formed = member.well_formed; settings = member.settings; fair = fair_up c up (λ v h. h) x member.fair; kept = kept_here })
      unit v below false e =
          let i = inv.units v below in
          let kept = kept_with v (N v).logged i.kept (λ m n t q. absurd (eqb-false v u e q)) in
          record { well_formed = i.well_formed; settings = i.settings; fair = fair_up c up more (N v) i.fair; kept = kept }

      message : (m : Message) → X m ⊎ New l c X C u x.logged m → FairMessage l c Y C m
      message m (inl h) = let i = inv.sent m h in record { from = i.from; backed = backed_up c up more m i.backed }
      message m (inr n) =
          record { from = subst (λ v. From l (settings_of c v) m) (sym n.from.sender) n.from; backed = backed_up c up (λ v h. h) m n.backed }

      chosen : (d : Decision) → D d ⊎ Chosen c X C d.round d.mileage → Chosen c Y C d.round d.mileage
      chosen d (inl h) = let i = inv.decided d h in (quorum_up c up i.0, more d.mileage i.1)
      chosen d (inr h) = (quorum_up c up h.0, h.1)
