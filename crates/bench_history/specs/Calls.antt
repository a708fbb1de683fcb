-- The call that a line is, and what is claimed of it: each accepted line is an accepted call on that unit's own log and image, and each message
-- delivered was sent. Assumes nothing.
use Rattle.std.specs.Prelude.{ℕ, ◌≡◌, List, [], ◌⊎◌, Option, Some, None}
use Rattle.std.proofs.Math.Option.{Option as Maybe, none, some}
use Rattle.std.proofs.Math.ListN.{get_elem?}
use Rattle.tally.specs.Limits.{Limits, image_size}
use Rattle.tally.specs.Refusal.{number_of}
use Rattle.tally.specs.declared.Refusal.{Refusal}
use Rattle.formats.specs.Messages.{empty_bytes}
use Rattle.consensus.specs.Methods.{propose, key_on}
use Rattle.calls.specs.Calls.{CallAnswer, called, answered, key_on_call, propose_call, deliver_call}
use Rattle.agreement.specs.Bytes as B
use Rattle.script.specs.declared.ScriptEvent.{ScriptEvent}
use Rattle.bench_play.specs.Bench.{unit_at}
use Rattle.bench_play.specs.Play.{delivery, answer}
use Rattle.bench_play.specs.declared.Bench.{Bench}
use Rattle.bench_history.specs.History.{zeros}

-- ---- the call: P, D and W of an up unit, D and W of a message that was sent, U of a down unit; the buffer that it writes held zeros

-- with the unit's log and its image, none where it is down
abbrev pub propose_with : Limits → List ℕ → Maybe (List ℕ) → ℕ → Maybe CallAnswer
propose_with l log (some image) v = some (propose_call l log image v (empty_bytes l))
propose_with l log none v = none

-- and the message, none where it was not sent
abbrev pub deliver_with : Limits → List ℕ → Maybe (List ℕ) → Maybe (List ℕ) → Maybe CallAnswer
deliver_with l log (some image) (some m) = some (deliver_call l log image m (empty_bytes l))
deliver_with l log (some image) none = none
deliver_with l log none m = none

abbrev pub key_on_with : Limits → List ℕ → Maybe (List ℕ) → Maybe CallAnswer
key_on_with l log none = some (key_on_call l log (zeros (image_size l)))
key_on_with l log (some image) = none

-- in the world w; K and a malformed line are no call
unfoldable pub call_of : Limits → B.ByteWorld → ScriptEvent → Maybe CallAnswer
call_of l w ScriptEvent.Malformed = none
call_of l w (ScriptEvent.Propose u v) = propose_with l (w.units u).log (w.units u).image v
call_of l w (ScriptEvent.Deliver u k) = deliver_with l (w.units u).log (w.units u).image (get_elem? w.sent k)
call_of l w (ScriptEvent.Cut u k) = deliver_with l (w.units u).log (w.units u).image (get_elem? w.sent k)
call_of l w (ScriptEvent.KeyOff u) = none
call_of l w (ScriptEvent.KeyOn u) = key_on_with l (w.units u).log (w.units u).image

-- ---- what is claimed of it

-- the call c answers what the bench's unit does, as bytes: for W before the key goes off, and key-on has no output
abbrev pub AsUnit : Limits → Bench → ScriptEvent → CallAnswer → Type 0
AsUnit l b ScriptEvent.Malformed c = ⊥
AsUnit l b (ScriptEvent.Propose u v) c = c ≡ answered l (propose l (unit_at b u) v)
AsUnit l b (ScriptEvent.Deliver u k) c = c ≡ answered l (delivery l b u k)
AsUnit l b (ScriptEvent.Cut u k) c = c ≡ answered l (delivery l b u k)
AsUnit l b (ScriptEvent.KeyOff u) c = ⊥
AsUnit l b (ScriptEvent.KeyOn u) c = let a = answered l (key_on (unit_at b u)) in c ≡ called a.number a.log a.image [] a.decision

-- an up unit has an image
abbrev pub IsUp : B.ByteWorld → ℕ → Type 0
IsUp w u = (image : List ℕ) × ((w.units u).image ≡ some image)

abbrev pub IsDown : B.ByteWorld → ℕ → Type 0
IsDown w u = (w.units u).image ≡ none

-- 9 before 10
abbrev pub NotDelivered : B.ByteWorld → ℕ → ℕ → Option Refusal → Type 0
NotDelivered w u k r = ((r ≡ Some Refusal.Power) × IsDown w u) ⊎ ((r ≡ Some Refusal.Unsent) × IsUp w u × (get_elem? w.sent k ≡ none))

-- where a line is no call, the bench refuses it by itself, with 8, 9 or 10; only K, which is no call, may be accepted
abbrev pub NoCall : B.ByteWorld → ScriptEvent → Option Refusal → Type 0
NoCall w ScriptEvent.Malformed r = r ≡ Some Refusal.Line
NoCall w (ScriptEvent.Propose u v) r = (r ≡ Some Refusal.Power) × IsDown w u
NoCall w (ScriptEvent.Deliver u k) r = NotDelivered w u k r
NoCall w (ScriptEvent.Cut u k) r = NotDelivered w u k r
NoCall w (ScriptEvent.KeyOff u) r = ((r ≡ None) × IsUp w u) ⊎ ((r ≡ Some Refusal.Power) × IsDown w u)
NoCall w (ScriptEvent.KeyOn u) r = (r ≡ Some Refusal.Power) × IsUp w u

-- of the line e in the world w, where the bench is b
pub record OwnCall (l : Limits) (w : B.ByteWorld) (b : Bench) (e : ScriptEvent) : Type 0 where
  -- an accepted line but K is an accepted call: a D or a W is of a message sent
  pub accepted : number_of (answer l b e).refusal ≡ 0 → ((u : ℕ) → e ≡ ScriptEvent.KeyOff u → ⊥)
      → (c : CallAnswer) × ((call_of l w e ≡ some c) × (c.number ≡ 0))
  -- the call answers all that the bench's unit does
  pub answers : (c : CallAnswer) → call_of l w e ≡ some c → AsUnit l b e c
  -- its number is the line's, 5 and 6 too, unless the line is refused with 11
  pub number : (c : CallAnswer) → call_of l w e ≡ some c → ((answer l b e).refusal ≡ Some Refusal.Full → ⊥)
      → c.number ≡ number_of (answer l b e).refusal
  -- where there is no call, the bench's own refusal has its reason
  pub no_call : call_of l w e ≡ none → NoCall w e (answer l b e).refusal
