-- The bytes of a world's contents. Assumes nothing.
use Rattle.std.specs.Prelude.{ℕ, ◌<◌, ◌≡◌, List, map}
use Rattle.tally.specs.Limits.{Limits}
use Rattle.contents.specs.declared.Message.{Message}
use Rattle.formats.specs.Formats.{to_bytes}
use Rattle.formats.specs.Images.{image_bytes}
use Rattle.formats.specs.Messages.{message_format}
use Rattle.consensus.specs.Units.{unit_log, unit_image}
use Rattle.consensus.specs.declared.Power.{Power}
use Rattle.consensus.specs.declared.Power.TheVariants.{Down, Up}
use Rattle.consensus.specs.declared.Unit as U
use Rattle.calls.specs.Calls.{log_bytes}
use Rattle.agreement.specs.Bytes.{UnitBytes, ByteWorld, up, down}
use Rattle.agreement.specs.Contents.{ContentsWorld}

-- the bytes of a unit: an image only while it is up
abbrev pub unit_bytes_at : Limits → Power → U.Unit → UnitBytes
unit_bytes_at l Up x = up (log_bytes l (unit_log x)) (image_bytes l (unit_image x))
unit_bytes_at l Down x = down (log_bytes l (unit_log x))

abbrev pub unit_bytes : Limits → U.Unit → UnitBytes
unit_bytes l x = unit_bytes_at l x.power x

-- the bytes of a message that is not empty
abbrev pub sent_bytes : Limits → Message → List ℕ
sent_bytes l m = to_bytes (message_format l) m

-- the world b has the bytes of the world w
pub record Encodes (l : Limits) (n : ℕ) (b : ByteWorld) (w : ContentsWorld) : Type 0 where
  pub units : (u : ℕ) → u < n → b.units u ≡ unit_bytes l (w.units u)
  pub sent : b.sent ≡ map (sent_bytes l) w.sent
  pub proposed : b.proposed ≡ w.proposed
  pub decided : b.decided ≡ w.decided
