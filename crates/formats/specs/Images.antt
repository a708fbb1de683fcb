-- The bytes of an image. Assumes nothing.
use Rattle.std.specs.Prelude.{ℕ, ◌+◌, List, ◌∷◌, ◌++◌, map, length, get_or, take, drop, replicate, Option, Some}
use Rattle.tally.specs.Limits.{Limits, image_size, log_fields, senders}
use Rattle.tally.specs.Refusal.{number_of}
use Rattle.tally.specs.Tally.{Typed, no_marks}
use Rattle.tally.specs.declared.Cell.{Cell}
use Rattle.tally.specs.declared.Engine.{Engine}
use Rattle.tally.specs.declared.Refusal.{Refusal}
use Rattle.tally.specs.declared.Tally.{Tally}
use Rattle.contents.specs.Images.{image_log, image_ok}
use Rattle.contents.specs.declared.Image.{Image}
use Rattle.contents.specs.declared.Log.{Log}
use Rattle.formats.specs.Codes.{engine_of, with_engine, code_of, estimate_of}
use Rattle.formats.specs.Formats.{ReadAnswer, WriteAnswer, Format, read_bytes, to_bytes, write_bytes}
use Rattle.formats.specs.Logs.{log_widths, log_zero, log_numbers, log_of, no_log}

-- what the code's types say of an image
abbrev pub TypedImage : Image → Type 0
TypedImage i = Typed i.checks × Typed i.seconds

abbrev pub cell_of : ℕ → Cell
cell_of x = record { estimate = estimate_of x }

abbrev pub cell_code : Cell → ℕ
cell_code c = code_of c.estimate

-- sixteen estimates (4 each)
abbrev pub cell_widths : List ℕ
cell_widths = replicate senders 4

-- marks (2) and the estimates
abbrev pub tally_widths : List ℕ
tally_widths = 2 ∷ cell_widths

abbrev pub tally_numbers : Tally → List ℕ
tally_numbers t = t.marks ∷ map cell_code t.cells

abbrev pub tally_of : List ℕ → Tally
tally_of vs = record { marks = get_or vs 0 0; cells = map cell_of (drop 1 vs) }

-- a log's bytes; CHECK marks and estimates; SECOND marks and estimates
abbrev pub image_widths : Limits → List ℕ
image_widths l = log_widths l ++ (tally_widths ++ tally_widths)

abbrev pub image_numbers : Image → List ℕ
image_numbers i = log_numbers (image_log i) ++ (tally_numbers i.checks ++ tally_numbers i.seconds)

-- marks and estimates as numbers
abbrev pub tally_fields : ℕ
tally_fields = length tally_widths

abbrev pub with_tallies : Log → Tally → Tally → Image
with_tallies r c s = record { settings = r.settings; state = r.state; checks = c; seconds = s }

abbrev pub image_of : Engine → List ℕ → Image
image_of e vs =
    with_tallies (log_of e (take log_fields vs)) (tally_of (take tally_fields (drop log_fields vs))) (tally_of (drop tally_fields (drop log_fields vs)))

abbrev pub parse_image : List ℕ → Option Image
parse_image vs = with_engine image_of (engine_of (get_or vs 0 0)) vs

-- stands in the place of an image that is refused
abbrev pub no_image : Image
no_image = with_tallies no_log no_marks no_marks

-- 3: image malformed
abbrev pub image_format : Limits → Format Image
image_format l =
    record {
      size = image_size l;
      widths = image_widths l;
      zero_at = log_zero;
      fields = log_fields + tally_fields + tally_fields;
      numbers = image_numbers;
      parse = parse_image;
      ok = image_ok l;
      malformed = number_of (Some Refusal.Image);
      nothing = no_image;
    }

unfoldable pub read_image : Limits → List ℕ → ReadAnswer Image
read_image l bs = read_bytes (image_format l) bs

unfoldable pub image_bytes : Limits → Image → List ℕ
image_bytes l i = to_bytes (image_format l) i

-- a refused image write leaves every byte
unfoldable pub write_image : Limits → Image → List ℕ → WriteAnswer
write_image l i bs = write_bytes (image_format l) i bs bs
