-- What every step of a well-formed unit leaves, accepted or refused. Assumes nothing.
use Rattle.std.specs.Prelude.{◌≡◌, true, ◌⊎◌}
use Rattle.tally.specs.Limits.{Limits}
use Rattle.contents.specs.Estimates.{mileage_or_blank}
use Rattle.contents.specs.Messages.{message_ok, empty_message}
use Rattle.contents.specs.declared.Message.{Message}
use Rattle.contents.specs.declared.Settings.{Settings}
use Rattle.consensus.specs.Units.{WellFormed}
use Rattle.consensus.specs.declared.Answer.{Answer}
use Rattle.consensus.specs.declared.Unit as U

-- a well-formed message from the unit with these settings
pub record From (l : Limits) (s : Settings) (m : Message) : Type 0 where
  pub well_formed : message_ok l m ≡ true
  pub engine : m.engine ≡ s.engine
  pub n : m.n ≡ s.n
  pub sender : m.sender ≡ s.unit
  pub entry : m.entry ≡ s.entry

-- log and image are well formed and fit, the message is empty or well formed and from this unit, the decision blank or a mileage
pub record Sound (l : Limits) (u : U.Unit) (a : Answer) : Type 0 where
  pub unit : WellFormed l a.unit
  pub settings : a.unit.settings ≡ u.settings
  pub message : (a.message ≡ empty_message) ⊎ From l u.settings a.message
  pub decision : mileage_or_blank l a.decision ≡ true
