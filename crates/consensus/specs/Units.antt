-- A unit's log and image, and which units are well formed. Assumes nothing.
use Rattle.std.specs.Prelude.{◌≡◌, true}
use Rattle.tally.specs.Limits.{Limits}
use Rattle.tally.specs.Tally.{Typed, no_marks}
use Rattle.contents.specs.Images.{image_ok, fits}
use Rattle.contents.specs.Logs.{log_ok}
use Rattle.contents.specs.declared.Image.{Image}
use Rattle.contents.specs.declared.Log.{Log}
use Rattle.contents.specs.declared.Settings.{Settings}
use Rattle.contents.specs.declared.State.{State}
use Rattle.consensus.specs.declared.Power.{Power}
use Rattle.consensus.specs.declared.Power.TheVariants.{Down, Up}
use Rattle.consensus.specs.declared.Unit as U

abbrev pub unit_log : U.Unit → Log
unit_log u = record { settings = u.settings; state = u.logged }

abbrev pub unit_image : U.Unit → Image
unit_image u = record { settings = u.settings; state = u.current; checks = u.checks; seconds = u.seconds }

-- the up unit of a log and an image that fits it
abbrev pub up_unit : Log → Image → U.Unit
up_unit r i = record { power = Up; settings = r.settings; logged = r.state; current = i.state; checks = i.checks; seconds = i.seconds }

-- a unit at its log's contents, without marks
unfoldable pub at_log : Power → Settings → State → U.Unit
at_log p s r = record { power = p; settings = s; logged = r; current = r; checks = no_marks; seconds = no_marks }

-- the down unit of a log
unfoldable pub down_unit : Log → U.Unit
down_unit r = at_log Down r.settings r.state

-- log and image are well formed and fit; `Typed` is what the code's types say
pub record WellFormed (l : Limits) (u : U.Unit) : Type 0 where
  pub log : log_ok l (unit_log u) ≡ true
  pub image : image_ok l (unit_image u) ≡ true
  pub fit : fits (unit_image u) (unit_log u) ≡ true
  pub checks : Typed u.checks
  pub seconds : Typed u.seconds
