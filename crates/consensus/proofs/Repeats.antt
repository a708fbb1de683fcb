-- Votes sent again: what a FIRST of the unit's round answers where its first estimate is there, and a CHECK where its second is. Assumes nothing.
use Rattle.std.specs.Prelude.{None}
use Rattle.std.proofs.lemmas.Bool.{and_parts}
use mathlib.Core.Path.{◌≡◌, refl, ◌∙◌}
use mathlib.Core.Bool.{false}
use mathlib.Core.Logic.{◌⊎◌, inl, inr}
use Rattle.tally.specs.Limits.{Limits, everyone}
use Rattle.tally.specs.declared.Estimate.TheVariants.{Blank}
use Rattle.contents.specs.Estimates.{is_blank}
use Rattle.contents.specs.Images.{same_settings, fits}
use Rattle.contents.specs.declared.Kind.TheVariants.{First, Check, Second}
use Rattle.contents.specs.declared.Message.{Message}
use Rattle.contents.proofs.Same.{Fits, state_fits_lem, first_fits, second_fits}
use Rattle.consensus.specs.Step.{sends, recovered, vote_kind, vote_proposal, vote_first, on_first, vote_second, on_check, on_kind, received}
use Rattle.consensus.specs.Units.{WellFormed, at_log}
use Rattle.consensus.specs.declared.Answer.{Answer}
use Rattle.consensus.specs.declared.Unit as U
use Rattle.consensus.proofs.Laws.{received_at}

-- FIRST meets a first estimate, or CHECK a second
abbrev pub Meets : U.Unit → Message → Type 0
Meets u m = ((m.kind ≡ First) × (is_blank u.current.first ≡ false)) ⊎ ((m.kind ≡ Check) × (is_blank u.current.second ≡ false))

-- a message that makes the unit send a vote again: it is of the unit's round too
pub record Repeats (u : U.Unit) (m : Message) : Type 0 where
  pub round : m.round ≡ u.current.round
  pub meets : Meets u m

module _ (u : U.Unit) (m : Message) (round : m.round ≡ u.current.round) where
  at : received u m ≡ on_kind m.kind u m
  at = received_at u.power u.settings u.logged u.current u.checks u.seconds m round

  pub first_again : m.kind ≡ First → is_blank u.current.first ≡ false → received u m ≡ vote_first u
  unfolding on_kind on_first
  first_again k there = at ∙ rw (k, there) refl

  pub second_again : m.kind ≡ Check → is_blank u.current.second ≡ false → received u m ≡ vote_second u
  unfolding on_kind on_check
  second_again k there = at ∙ rw (k, there) refl

-- the unit is as it was, and nothing is decided
pub record Again (u : U.Unit) (a : Answer) : Type 0 where
  pub refusal : a.refusal ≡ None
  pub unit : a.unit ≡ u
  pub decision : a.decision ≡ Blank

pub again : (u : U.Unit) (m : Message) → Repeats u m → Again u (received u m)
unfolding vote_first vote_second
again u m r = go r.meets
  where
    go : Meets u m → Again u (received u m)
    go (inl h) = rw (first_again u m r.round h.0 h.1) (record { refusal = refl; unit = refl; decision = refl })
    go (inr h) = rw (second_again u m r.round h.0 h.1) (record { refusal = refl; unit = refl; decision = refl })

-- the estimate sent again stands in the log, in its round
module _ (l : Limits) (u : U.Unit) (w : WellFormed l u) where
  pub unit_fits : Fits u.current u.logged
  unfolding fits
  unit_fits = state_fits_lem u.current u.logged (and_parts (same_settings u.settings u.settings) _ w.fit).1

  pub first_logged : is_blank u.current.first ≡ false → (u.logged.round ≡ u.current.round) × (u.logged.first ≡ u.current.first)
  first_logged = first_fits u.current u.logged unit_fits

  pub second_logged : is_blank u.current.second ≡ false → (u.logged.round ≡ u.current.round) × (u.logged.second ≡ u.current.second)
  second_logged = second_fits u.current u.logged unit_fits

-- so a unit that logged an estimate, and lost power whenever, is heard again after its key-on: FIRST and CHECK bring what its log holds
module _ (u : U.Unit) (m : Message) (round : m.round ≡ u.logged.round) where
  pub first_after_key_on : m.kind ≡ First → is_blank u.logged.first ≡ false
      → received (recovered u) m
      ≡ sends (recovered u) (vote_kind u.settings.engine) everyone u.logged.first (vote_proposal u.settings.engine u.logged.first u.logged.proposal)
  unfolding recovered at_log vote_first
  first_after_key_on = first_again (recovered u) m round

  pub second_after_key_on : m.kind ≡ Check → is_blank u.logged.second ≡ false
      → received (recovered u) m ≡ sends (recovered u) Second everyone u.logged.second u.logged.proposal
  unfolding recovered at_log vote_second
  second_after_key_on = second_again (recovered u) m round
