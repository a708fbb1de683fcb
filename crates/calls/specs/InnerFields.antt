-- What inner functions of numbers promise, of which no public call's contract speaks. Assumes nothing.
use Rattle.std.specs.Prelude.{ℕ, suc, ◌-◌, ◌^◌, Bool, true, ◌&&◌, List, [], ◌∷◌, ltb, get_or, take}
use Rattle.tally.specs.Limits.{Limits, log_fields, message_fields}
use Rattle.formats.specs.Formats.{Format, without}
use Rattle.formats.specs.Logs.{log_format}
use Rattle.formats.specs.Messages.{message_format}

-- the numbers from place o on fit these many bytes each
abbrev pub narrow : Bool → ℕ → List ℕ → List ℕ → Bool
narrow ok o [] vs = ok
narrow ok o (w ∷ ws) vs = narrow (ok && ltb (get_or vs o 0) (256 ^ w)) (suc o) ws vs

-- the widths of the first k numbers
abbrev pub head_widths : {A : Type 0} → Format A → ℕ → List ℕ
head_widths f k = take k (without f.zero_at f.widths)

-- all numbers of a log but its three estimates, which have the width of the numbers given
abbrev pub log_head : ℕ
log_head = log_fields - 3

unfoldable pub log_narrow : Limits → List ℕ → Bool
log_narrow l vs = narrow true 0 (head_widths (log_format l) log_head) vs

-- all of a message but its two
abbrev pub message_head : ℕ
message_head = message_fields - 2

unfoldable pub message_narrow : Limits → List ℕ → Bool
message_narrow l vs = narrow true 0 (head_widths (message_format l) message_head) vs
