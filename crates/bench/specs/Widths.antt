-- How long a listing can be. Assumes nothing.
use Rattle.std.specs.Prelude.{ℕ, ◌+◌, ◌*◌, length}
use Rattle.tally.specs.Limits.{max_units, max_entry, places, script_size}
use Rattle.script.specs.Numbers.{max_digits}
use Rattle.bench_text.specs.Text.{digits, end_prefix}

-- the most digits of a number up to the one given
abbrev pub width_of : ℕ → ℕ
width_of most = length (digits max_digits most)

-- of n, of an entry, of an index and of the messages kept
abbrev pub units_width : ℕ
units_width = width_of max_units

abbrev pub entry_width : ℕ
entry_width = width_of max_entry

abbrev pub index_width : ℕ
index_width = width_of script_size

abbrev pub kept_width : ℕ
kept_width = width_of places

-- the letter, n and entry, two commas and byte 10
abbrev pub header_width : ℕ
header_width = 1 + 1 + units_width + 1 + entry_width + 1

-- an index, the five fields `?`, `-`, `8`, `-`, `-`, and a byte after each of the six. No line prints more than this for each of its bytes
abbrev pub malformed_width : ℕ
malformed_width = index_width + 5 + 6

-- `end,`, two numbers, a comma and byte 10
abbrev pub end_width : ℕ
end_width = length end_prefix + index_width + 1 + kept_width + 1

-- no listing is longer
abbrev pub max_listing : ℕ
max_listing = header_width + malformed_width * script_size + end_width
