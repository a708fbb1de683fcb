-- A history over bytes: the scope paper's events, each of which runs the calls' own definitions. Assumes nothing.
use Rattle.std.specs.Prelude.{ℕ, ◌≡◌, Bool, true, cond, ◌&&◌, List, [], ◌∷◌, eqb, ltb}
use Rattle.std.proofs.Math.Option.{Option, none, some}
use Rattle.std.proofs.Math.ListN.{get_elem?}
use Rattle.tally.specs.Limits.{Limits}
use Rattle.formats.specs.Codes.{letter_of, estimate_of}
use Rattle.formats.specs.Formats.{WriteAnswer}
use Rattle.formats.specs.Messages.{read_message}
use Rattle.calls.specs.Calls.{CallAnswer, start_call, key_on_call, propose_call, deliver_call}
use Rattle.calls.specs.Fields.{read_log_call, write_log_call, read_message_call, write_message_call}
use Rattle.agreement.specs.Worlds.{Setup, World, change, keep, report, give, decision}

-- a unit of a history: the bytes of its log and, while it is up, of its image
pub record UnitBytes : Type 0 where
  pub log : List ℕ
  pub image : Option (List ℕ)

abbrev pub up : List ℕ → List ℕ → UnitBytes
up log image = record { log = log; image = some image }

abbrev pub down : List ℕ → UnitBytes
down log = record { log = log; image = none }

-- messages sent are kept as copies of their bytes
abbrev pub ByteWorld : Type 0
ByteWorld = World UnitBytes (List ℕ)

-- a buffer that a host lends: the log or the image of a unit, or any other. Two of one call may be the same, which does no harm: such a call is
-- an event only where it is refused
pub data Lent : Type 0 where
  lent_log lent_image : ℕ → Lent
  other : List ℕ → Lent

-- any call of any C entry over bytes, with any numbers and buffers (calls on a card: crate card_history)
pub data Call : Type 0 where
  starts : (engine n unit entry : ℕ) (log image : Lent) → Call
  keys_on : (log image : Lent) → Call
  proposes : (log image : Lent) (mileage : ℕ) (out : Lent) → Call
  delivers : (log image message out : Lent) → Call
  reads_log reads_message : (bytes : Lent) (fields : List ℕ) → Call
  writes_log writes_message : (fields : List ℕ) (bytes : Lent) → Call

-- every event of a history; `out` and `image` are what the output or image buffer held before. A proposal or a key-on that is cut short is a
-- key-off; a cut delivery is the scope paper's term.
pub data Event : Type 0 where
  proposal : (unit mileage : ℕ) (out : List ℕ) → Event
  delivery cut : (unit message : ℕ) (out : List ℕ) → Event
  off : (unit : ℕ) → Event
  on : (unit : ℕ) (image : List ℕ) → Event
  -- a call with any buffers, which is an event where it is refused
  call : Call → Event

-- starting unit u in the buffers given
abbrev pub start_of : Limits → Setup → (ℕ → List ℕ) → (ℕ → List ℕ) → ℕ → CallAnswer
start_of l c logs images u = start_call l (letter_of c.engine) c.n u c.entry (logs u) (images u)

-- at its start each unit has been started once, whatever its buffers held before; all are up and nothing is sent
unfoldable pub begun : Limits → Setup → (ℕ → List ℕ) → (ℕ → List ℕ) → ByteWorld
begun l c logs images = record { units = λ u. up (start_of l c logs images u).log (start_of l c logs images u).image; sent = []; proposed = []; decided = [] }

-- ---- proposal, delivery, cut delivery, key-off, key-on

-- the empty message is zeros
abbrev pub all_zero : List ℕ → Bool
all_zero [] = true
all_zero (b ∷ bs) = eqb b 0 && all_zero bs

abbrev pub unless_empty : List ℕ → Option (List ℕ)
unless_empty bs = cond (all_zero bs) none (some bs)

-- the log and image that the call leaves are the unit's from then on (after a refusal the bytes that it had); where it is accepted its
-- message, unless empty, is kept next, and its decision, if any, is reported as one of round r
unfoldable pub after : ByteWorld → ℕ → ℕ → CallAnswer → ByteWorld
after w u r c =
    let now = change w u (up c.log c.image) in
    cond (eqb c.number 0) (report (keep now (unless_empty c.out)) (decision u r (estimate_of c.decision))) now

-- an accepted proposal is recorded as well; it decides nothing, so that 0 stands for a round
unfoldable pub after_proposal : ByteWorld → ℕ → ℕ → CallAnswer → ByteWorld
after_proposal w u v c = cond (eqb c.number 0) (give (after w u 0 c) (record { unit = u; mileage = v })) (after w u 0 c)

-- accepted, the log it gives is the unit's from then on; image, message and decision are lost and the unit is down
unfoldable pub after_cut : ByteWorld → ℕ → CallAnswer → ByteWorld
after_cut w u c = cond (eqb c.number 0) (change w u (down c.log)) (change w u (up c.log c.image))

-- accepted, the unit is up with that image
unfoldable pub after_key_on : ByteWorld → ℕ → CallAnswer → ByteWorld
after_key_on w u c = cond (eqb c.number 0) (change w u (up c.log c.image)) (change w u (down c.log))

-- a message's round; that of a decision is the round of the SECOND delivered (`Agreed.seconded`)
abbrev pub round_of : Limits → List ℕ → ℕ
round_of l message = (read_message l message).contents.round

-- the event of unit u with the image it has, none where it is down, and the message of the number given, none where not yet sent
unfoldable pub proposal_of : Limits → ByteWorld → ℕ → ℕ → List ℕ → Option (List ℕ) → ByteWorld
proposal_of l w u v out none = w
proposal_of l w u v out (some image) = after_proposal w u v (propose_call l (w.units u).log image v out)

-- a delivery and a cut of it are the same call, and f is what the event makes of the message and the answer
unfoldable pub delivering : Limits → ByteWorld → ℕ → List ℕ → (List ℕ → CallAnswer → ByteWorld) → Option (List ℕ) → Option (List ℕ)
    → ByteWorld
delivering l w u out f (some image) (some m) = f m (deliver_call l (w.units u).log image m out)
delivering l w u out f none m = w
delivering l w u out f (some image) none = w

unfoldable pub key_on_of : Limits → ByteWorld → ℕ → List ℕ → Option (List ℕ) → ByteWorld
key_on_of l w u image none = after_key_on w u (key_on_call l (w.units u).log image)
key_on_of l w u image (some i) = w

-- ---- any other call

-- the bytes that a lent buffer holds; a down unit has no image to lend
abbrev pub bytes_or : Option (List ℕ) → List ℕ
bytes_or none = []
bytes_or (some bs) = bs

abbrev pub lent_bytes : ByteWorld → Lent → List ℕ
lent_bytes w (lent_log u) = (w.units u).log
lent_bytes w (lent_image u) = bytes_or (w.units u).image
lent_bytes w (other bs) = bs

-- what a call leaves: its number, and the bytes in each buffer at exit
pub record Exit : Type 0 where
  pub lent : Lent
  pub bytes : List ℕ

abbrev pub exit : Lent → List ℕ → Exit
exit b bs = record { lent = b; bytes = bs }

pub record EndAnswer : Type 0 where
  pub number : ℕ
  pub exits : List Exit

abbrev pub ended : CallAnswer → Lent → Lent → Lent → EndAnswer
ended c log image out = record { number = c.number; exits = exit log c.log ∷ exit image c.image ∷ exit out c.out ∷ [] }

abbrev pub ended_fields : WriteAnswer → Lent → EndAnswer
ended_fields r out = record { number = r.number; exits = exit out r.out ∷ [] }

unfoldable pub run_call : Limits → ByteWorld → Call → EndAnswer
run_call l w (starts engine n unit entry log image) = ended (start_call l engine n unit entry (lent_bytes w log) (lent_bytes w image)) log image (other [])
run_call l w (keys_on log image) = ended (key_on_call l (lent_bytes w log) (lent_bytes w image)) log image (other [])
run_call l w (proposes log image mileage out) = ended (propose_call l (lent_bytes w log) (lent_bytes w image) mileage (lent_bytes w out)) log image out
run_call l w (delivers log image message out) =
    ended (deliver_call l (lent_bytes w log) (lent_bytes w image) (lent_bytes w message) (lent_bytes w out)) log image out
run_call l w (reads_log bytes fields) = ended_fields (read_log_call l (lent_bytes w bytes) fields) (other fields)
run_call l w (reads_message bytes fields) = ended_fields (read_message_call l (lent_bytes w bytes) fields) (other fields)
run_call l w (writes_log fields bytes) = ended_fields (write_log_call l fields (lent_bytes w bytes)) bytes
run_call l w (writes_message fields bytes) = ended_fields (write_message_call l fields (lent_bytes w bytes)) bytes

-- what is left in a unit's log or image is there from then on
abbrev pub image_left : Option (List ℕ) → List ℕ → Option (List ℕ)
image_left none bs = none
image_left (some i) bs = some bs

abbrev pub leave : ByteWorld → Lent → List ℕ → ByteWorld
leave w (lent_log u) bs = change w u (record { log = bs; image = (w.units u).image })
leave w (lent_image u) bs = change w u (record { log = (w.units u).log; image = image_left (w.units u).image bs })
leave w (other cs) bs = w

unfoldable pub leave_all : ByteWorld → List Exit → ByteWorld
leave_all w [] = w
leave_all w (x ∷ xs) = leave_all (leave w x.lent x.bytes) xs

-- ---- histories

-- units are numbered 0 to n − 1, and others are none of the history's: an event of one changes nothing
abbrev pub of_unit : ℕ → ℕ → ByteWorld → ByteWorld → ByteWorld
of_unit n u w next = cond (ltb u n) next w

unfoldable pub step : Limits → ℕ → ByteWorld → Event → ByteWorld
step l n w (proposal u v out) = of_unit n u w (proposal_of l w u v out (w.units u).image)
step l n w (delivery u k out) = of_unit n u w (delivering l w u out (λ m c. after w u (round_of l m) c) (w.units u).image (get_elem? w.sent k))
step l n w (cut u k out) = of_unit n u w (delivering l w u out (λ m c. after_cut w u c) (w.units u).image (get_elem? w.sent k))
step l n w (off u) = of_unit n u w (change w u (down (w.units u).log))
step l n w (on u image) = of_unit n u w (key_on_of l w u image (w.units u).image)
step l n w (call c) = leave_all w (run_call l w c).exits

-- a call with any buffers is an event exactly where it is refused
abbrev pub LawfulEvent : Limits → ByteWorld → Event → Type 0
LawfulEvent l w (proposal u v out) = Unit
LawfulEvent l w (delivery u k out) = Unit
LawfulEvent l w (cut u k out) = Unit
LawfulEvent l w (off u) = Unit
LawfulEvent l w (on u image) = Unit
LawfulEvent l w (call c) = (run_call l w c).number ≡ 0 → ⊥

abbrev pub Lawful : Limits → ℕ → ByteWorld → List Event → Type 0
Lawful l n w [] = Unit
Lawful l n w (e ∷ es) = LawfulEvent l w e × Lawful l n (step l n w e) es
