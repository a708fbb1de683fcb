-- A history over contents: units and messages as the step has them. Assumes nothing.
use Rattle.std.specs.Prelude.{ℕ, ◌≡◌, Bool, true, cond, List, [], eqb, ltb}
use Rattle.std.proofs.Math.Option.{Option, none, some}
use Rattle.std.proofs.Math.ListN.{get_elem?}
use Rattle.tally.specs.Limits.{Limits}
use Rattle.tally.specs.Refusal.{number_of}
use Rattle.contents.specs.declared.Kind.{Kind}
use Rattle.contents.specs.declared.Kind.TheVariants.{Empty, First, Check, Second, Skip}
use Rattle.contents.specs.declared.Message.{Message}
use Rattle.consensus.specs.Methods.{propose, deliver, key_off, key_on, is_up}
use Rattle.consensus.specs.Step.{fresh}
use Rattle.consensus.specs.declared.Answer.{Answer}
use Rattle.consensus.specs.declared.Unit as U
use Rattle.agreement.specs.Worlds.{Setup, settings_of, World, change, keep, report, give, decision, View, Agreed}

abbrev pub ContentsWorld : Type 0
ContentsWorld = World U.Unit Message

-- every event is of one unit
pub data ContentsEvent : Type 0 where
  proposal : ℕ → ℕ → ContentsEvent
  delivery cut : ℕ → ℕ → ContentsEvent
  off on : ℕ → ContentsEvent

abbrev pub contents_unit : ContentsEvent → ℕ
contents_unit (proposal u v) = u
contents_unit (delivery u k) = u
contents_unit (cut u k) = u
contents_unit (off u) = u
contents_unit (on u) = u

-- at its start each of the units has been started once; all are up and nothing is sent
unfoldable pub begun : Setup → ContentsWorld
begun c = record { units = λ u. fresh (settings_of c u); sent = []; proposed = []; decided = [] }

-- a message unless it is empty
abbrev pub unless_empty : Kind → Message → Option Message
unless_empty Empty m = none
unless_empty First m = some m
unless_empty Check m = some m
unless_empty Second m = some m
unless_empty Skip m = some m

abbrev pub is_accepted : Answer → Bool
is_accepted a = eqb (number_of a.refusal) 0

-- the unit, message and decision that a step of unit u in round r answered; a refusal's answer changes nothing
unfoldable pub after : ContentsWorld → ℕ → ℕ → Answer → ContentsWorld
after w u r a = report (keep (change w u a.unit) (unless_empty a.message.kind a.message)) (decision u r a.decision)

-- a cut: the log is the unit's from now on; image, message and decision are lost and the unit is down
unfoldable pub after_cut : ContentsWorld → ℕ → Answer → ContentsWorld
after_cut w u a = cond (is_accepted a) (change w u (key_off a.unit).unit) w

unfoldable pub after_proposal : ContentsWorld → ℕ → ℕ → Answer → ContentsWorld
after_proposal w u v a = cond (is_accepted a) (give (after w u 0 a) (record { unit = u; mileage = v })) w

-- a delivery and a cut of it are the same call, and f is what the event makes of the message and the answer; with a message number not
-- yet sent everything stays as it was
unfoldable pub delivering : Limits → ContentsWorld → ℕ → (Message → Answer → ContentsWorld) → Option Message → ContentsWorld
delivering l w u f none = w
delivering l w u f (some m) = f m (deliver l (w.units u) m)

unfoldable pub apply : Limits → ContentsWorld → ContentsEvent → ContentsWorld
apply l w (proposal u v) = after_proposal w u v (propose l (w.units u) v)
apply l w (delivery u k) = delivering l w u (λ m a. after w u m.round a) (get_elem? w.sent k)
apply l w (cut u k) = delivering l w u (λ m a. after_cut w u a) (get_elem? w.sent k)
apply l w (off u) = change w u (key_off (w.units u)).unit
apply l w (on u) = change w u (key_on (w.units u)).unit

-- units are numbered 0 to n − 1
unfoldable pub step : Limits → ℕ → ContentsWorld → ContentsEvent → ContentsWorld
step l n w e = cond (ltb (contents_unit e) n) (apply l w e) w

abbrev pub view : View U.Unit Message
view =
    record {
      HasLog = λ x s. x.logged ≡ s;
      IsUp = λ x. is_up x.power ≡ true;
      HasImage = λ x s. (is_up x.power ≡ true) × (x.current ≡ s);
      Reads = λ m r. m ≡ r;
    }

-- demand 3 over contents
abbrev pub AgreedContents : Limits → Setup → ContentsWorld → List ContentsEvent → Type 0
AgreedContents l c w es = Agreed c view (step l c.n) w es
