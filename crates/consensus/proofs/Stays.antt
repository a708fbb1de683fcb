-- In a delivery the round never falls. While it stays, so does an estimate that is not blank, and a tally whose marks do. Assumes nothing.
use Prim.Native.Nat.{ℕ, ◌≤◌, ◌<◌}
use mathlib.Core.Path.{◌≡◌, refl, sym, ap, ◌∙◌}
use mathlib.Core.Bool.{Bool, true, false, cond}
use native.Mathlib.Omega.{arith}
use lib.Dec.{ltb}
use borrow.Author.Tests.{ltb-false}
use Rattle.tally.specs.Tally.{is_marked, held, no_marks, mark}
use Rattle.tally.specs.declared.Estimate.{Estimate}
use Rattle.tally.specs.declared.Tally.{Tally}
use Rattle.tally.proofs.Marks.{mark_same}
use Rattle.tally.proofs.Never.{never}
use Rattle.tally.proofs.Tallies.{held_unmarked}
use Rattle.contents.specs.Estimates.{is_blank}
use Rattle.contents.specs.declared.Kind.{Kind}
use Rattle.contents.specs.declared.Message.{Message}
use Rattle.contents.specs.declared.State.{State}
use Rattle.consensus.specs.Step.{log_write, at_round, vote_first, take_first, vote_second, take_second, checks_with, seconds_with, close, on_kind, skip}
use Rattle.consensus.specs.Step.{caught_up, received}
use Rattle.consensus.specs.declared.Answer.{Answer}
use Rattle.consensus.specs.declared.Unit as U
use Rattle.consensus.proofs.Branches.{by_kind, by_check, by_second, by_round}

-- an estimate that is not blank stays
abbrev pub StaysSet : Estimate → Estimate → Type 0
StaysSet a b = is_blank a ≡ false → b ≡ a

-- from the state a to the state b: the round does not fall, and where it stays both estimates do
pub record Stays (a b : State) : Type 0 where
  pub round : a.round ≤ b.round
  pub estimates : b.round ≡ a.round → StaysSet a.first b.first × StaysSet a.second b.second

stays_same : (s : State) → Stays s s
stays_same s = record { round = omega arith; estimates = λ e. (λ n. refl, λ n. refl) }

stays_risen : (a b : State) → a.round < b.round → Stays a b
stays_risen a b h = record { round = omega arith; estimates = λ e. absurd (omega arith) }

was_blank : (a b : Estimate) → is_blank a ≡ true → StaysSet a b
was_blank a b h n = never (sym n ∙ h)

abbrev StaysTo : U.Unit → Answer → Type 0
StaysTo u a = Stays u.current a.unit.current

stays_kind : (k : Kind) (u : U.Unit) (m : Message) → StaysTo u (on_kind k u m)
unfolding vote_first take_first vote_second take_second close log_write at_round
stays_kind k u m =
    by_kind (StaysTo u) k u m
    (record {
      nothing = same;
      first = λ _ h. record { round = omega arith; estimates = λ e. (was_blank _ _ h, λ n. refl) };
      first_again = λ _ _. same;
      checks = λ _ h _. by_check (StaysTo u) u _ (λ _. record { round = omega arith; estimates = λ e. (λ n. refl, was_blank _ _ h) }) (λ _. same);
      second_again = λ _ _. same;
      seconds = λ _ _. by_second (StaysTo u) u _ (λ _. stays_risen _ _ (omega arith)) (λ _. same);
    })
  where
    same : Stays u.current u.current
    same = stays_same u.current

pub stays : (u : U.Unit) (m : Message) → Stays u.current (received u m).unit.current
unfolding skip at_round
stays u m =
    by_round (StaysTo u) u m (λ _. stays_same u.current) (λ _. stays_kind m.kind u m)
    (λ h. stays_risen _ _ (omega (arith, (stays_kind m.kind (at_round u m.round m.proposal) m).round)))

-- a unit that is not above a message is in its round once it has caught up
pub caught_up_round : (u : U.Unit) (m : Message) → u.current.round ≤ m.round → (caught_up u m).current.round ≡ m.round
unfolding caught_up at_round
caught_up_round u m h = go (ltb u.current.round m.round) refl
  where
    go : (b : Bool) → ltb u.current.round m.round ≡ b → (cond b (at_round u m.round m.proposal) u).current.round ≡ m.round
    go true e = refl
    go false e = omega (arith, ltb-false u.current.round m.round e)

-- ---- the tallies

-- tallies of one marking hold the same of every sender
abbrev pub SameHeld : Tally → Tally → Type 0
SameHeld a b = b.marks ≡ a.marks → (s : ℕ) → held b s ≡ held a s

same_held : (t : Tally) → SameHeld t t
same_held t e s = refl

-- an unmarked sender's mark is seen in the marks
held_marked : (t : Tally) (s : ℕ) (e : Estimate) → is_marked t.marks s ≡ false → SameHeld t (mark t s e)
unfolding mark
held_marked t s e new same = never (sym new ∙ ap (λ (m : ℕ). is_marked m s) (sym same) ∙ mark_same t.marks s)

-- where no marks were, nothing was held
held_cleared : (t : Tally) → SameHeld t no_marks
unfolding no_marks
held_cleared t same s = held_unmarked no_marks refl s ∙ sym (held_unmarked t (sym same) s)

-- where the round stays, tallies of the same marks hold the same
abbrev pub TalliesStay : U.Unit → U.Unit → Type 0
TalliesStay u v = v.current.round ≡ u.current.round → SameHeld u.checks v.checks × SameHeld u.seconds v.seconds

abbrev TalliesTo : U.Unit → Answer → Type 0
TalliesTo u a = TalliesStay u a.unit

pub tallies_same : (u : U.Unit) → TalliesStay u u
tallies_same u e = (same_held u.checks, same_held u.seconds)

tallies_kind : (k : Kind) (u : U.Unit) (m : Message) → TalliesTo u (on_kind k u m)
unfolding vote_first take_first vote_second take_second checks_with seconds_with close log_write at_round
tallies_kind k u m =
    by_kind (TalliesTo u) k u m
    (record {
      nothing = tallies_same u;
      first = λ _ _. tallies_same u;
      first_again = λ _ _. tallies_same u;
      checks = λ _ _ new. by_check (TalliesTo u) u _ (λ _ e. (held_cleared u.checks, same_held u.seconds))
          (λ _ e. (held_marked u.checks m.sender m.estimate new, same_held u.seconds));
      second_again = λ _ _. tallies_same u;
      seconds = λ _ new. by_second (TalliesTo u) u _ (λ _ e. absurd (omega arith))
          (λ _ e. (same_held u.checks, held_marked u.seconds m.sender m.estimate new));
    })

pub tallies_stay : (u : U.Unit) (m : Message) → TalliesStay u (received u m).unit
unfolding skip at_round
tallies_stay u m =
    by_round (TalliesTo u) u m (λ _. tallies_same u) (λ _. tallies_kind m.kind u m)
    (λ h e. absurd (omega (arith, (stays_kind m.kind (at_round u m.round m.proposal) m).round)))
