-- The bytes of a message. Assumes nothing.
use Rattle.std.specs.Prelude.{ℕ, cond, List, [], ◌∷◌, eqb, length, get_or, replicate, Option, Some, None, Result, Ok, Err}
use Rattle.tally.specs.Limits.{Limits, message_size, message_fields}
use Rattle.tally.specs.Refusal.{number_of}
use Rattle.tally.specs.declared.Engine.{Engine}
use Rattle.tally.specs.declared.Refusal.{Refusal}
use Rattle.contents.specs.Messages.{message_ok, empty_message}
use Rattle.contents.specs.declared.Kind.{Kind}
use Rattle.contents.specs.declared.Message.{Message}
use Rattle.formats.specs.Codes.{letter_of, engine_of, kind_letter, kind_of, code_of, estimate_of}
use Rattle.formats.specs.Formats.{ReadAnswer, reading, WriteAnswer, Format, read_bytes, write_bytes}

-- kind, engine, n, sender, receiver, zero, entry, round, estimate, proposal
abbrev pub message_widths : Limits → List ℕ
message_widths l = 1 ∷ 1 ∷ 1 ∷ 1 ∷ 1 ∷ 1 ∷ 2 ∷ l.round_width ∷ 4 ∷ 4 ∷ []

-- the zero stands after kind, engine, n, sender and receiver
abbrev pub message_zero : ℕ
message_zero = 5

abbrev pub message_numbers : Message → List ℕ
message_numbers m =
    kind_letter m.kind ∷ letter_of m.engine ∷ m.n ∷ m.sender ∷ m.receiver ∷ m.entry ∷
    m.round ∷ code_of m.estimate ∷ code_of m.proposal ∷ []

abbrev pub message_of : Kind → Engine → List ℕ → Message
message_of k e vs =
    record {
      kind = k;
      engine = e;
      n = get_or vs 2 0;
      sender = get_or vs 3 0;
      receiver = get_or vs 4 0;
      entry = get_or vs 5 0;
      round = get_or vs 6 0;
      estimate = estimate_of (get_or vs 7 0);
      proposal = estimate_of (get_or vs 8 0);
    }

abbrev pub letters_read : Option Kind → Option Engine → List ℕ → Option Message
letters_read (Some k) (Some e) vs = Some (message_of k e vs)
letters_read (Some k) None vs = None
letters_read None e vs = None

abbrev pub parse_message : List ℕ → Option Message
parse_message vs = letters_read (kind_of (get_or vs 0 0)) (engine_of (get_or vs 1 0)) vs

-- 4: message malformed
abbrev pub message_format : Limits → Format Message
message_format l =
    record {
      size = message_size l;
      widths = message_widths l;
      zero_at = message_zero;
      fields = message_fields;
      numbers = message_numbers;
      parse = parse_message;
      ok = message_ok l;
      malformed = number_of (Some Refusal.Message);
      nothing = empty_message;
    }

-- the code's answer, as number and contents
abbrev pub message_reading : Result Message Refusal → ReadAnswer Message
message_reading (Ok m) = reading 0 m
message_reading (Err k) = reading (number_of (Some k)) empty_message

unfoldable pub read_message : Limits → List ℕ → ReadAnswer Message
read_message l bs = read_bytes (message_format l) bs

-- an empty message (the scope paper's term) is 18 bytes, all zero
abbrev pub empty_bytes : Limits → List ℕ
empty_bytes l = replicate (message_size l) 0

-- after a refusal, an output buffer of a message's length is zeros; one of another length keeps its bytes
unfoldable pub cleared : Limits → List ℕ → List ℕ
cleared l bs = cond (eqb (length bs) (message_size l)) (empty_bytes l) bs

unfoldable pub write_message : Limits → Message → List ℕ → WriteAnswer
write_message l m bs = write_bytes (message_format l) m (cleared l bs) bs
