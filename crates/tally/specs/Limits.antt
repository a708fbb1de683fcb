-- Every limit and code of the scope paper and of the change requests, once; `src/limits.rt` has them for the code. Letters are in crate formats,
-- `Codes`, the numbers of refusals in `Refusal`; the script's letters and the bound of its numbers are in crate script. Assumes nothing.
use Rattle.std.specs.Prelude.{ℕ, ◌+◌, ◌^◌, ◌<◌, ◌≤◌}

-- what later versions of the core may set otherwise
pub record Limits : Type 0 where
  pub max_mileage : ℕ
  pub last_round : ℕ
  pub round_width : ℕ

-- mileage: 0 to 99,999,999, in steps of ten metres or of a hundred (request 3); round: 0 to 9,999, in 2 bytes
abbrev pub today : Limits
today = record { max_mileage = 99999999; last_round = 9999; round_width = 2 }

-- as they were before request 3, when a mileage was 0 to 9,999,999
abbrev pub hundred_metres : Limits
hundred_metres = record { max_mileage = 9999999; last_round = 9999; round_width = 2 }

-- limits with another greatest mileage
abbrev pub with_max_mileage : ℕ → Limits → Limits
with_max_mileage k l = record { max_mileage = k; last_round = l.last_round; round_width = l.round_width }

-- units n: 3 to 16
abbrev pub min_units : ℕ
min_units = 3

abbrev pub max_units : ℕ
max_units = 16

-- a tally has a place for each unit number
abbrev pub senders : ℕ
senders = max_units

-- entry: 1 to 9,999
abbrev pub min_entry : ℕ
min_entry = 1

abbrev pub max_entry : ℕ
max_entry = 9999

-- blank (the source's ⊥) and split (⊤), both the scope paper's terms, as they are stored
abbrev pub blank_code : ℕ
blank_code = 4294967295

abbrev pub split_code : ℕ
split_code = 4294967294

-- the receiver of F, C and S: everyone, the sender too
abbrev pub everyone : ℕ
everyone = 255

-- a log has 20 bytes, an image 152, a message 18, of which 2 are the round
abbrev pub log_size : Limits → ℕ
log_size l = 18 + l.round_width

abbrev pub image_size : Limits → ℕ
image_size l = 150 + l.round_width

abbrev pub message_size : Limits → ℕ
message_size l = 16 + l.round_width

-- a log and a message as numbers, the zero byte left out
abbrev pub log_fields : ℕ
log_fields = 8

abbrev pub message_fields : ℕ
message_fields = 9

-- a card has 1 to 64 rows, row k being entry k (request 1)
abbrev pub min_rows : ℕ
min_rows = 1

abbrev pub max_rows : ℕ
max_rows = 64

-- the bench has 128 message places; a script is at most 32,768 bytes
abbrev pub places : ℕ
places = 128

abbrev pub script_size : ℕ
script_size = 32768

-- l's greatest mileage and last round are o's, or greater ones
pub record Wider (o l : Limits) : Type 0 where
  pub mileage : o.max_mileage ≤ l.max_mileage
  pub round : o.last_round ≤ l.last_round

-- limits that leave split and blank apart from every mileage, and each round its bytes
pub record Sane (l : Limits) : Type 0 where
  pub mileage_below_split : l.max_mileage < split_code
  pub round_fits : l.last_round < 256 ^ l.round_width
