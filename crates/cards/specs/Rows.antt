-- A card's row as numbers: what its log and image hold. Assumes nothing.
use Rattle.std.specs.Prelude.{ℕ, ◌^◌, Bool, cond, ◌&&◌, List, [], ◌∷◌, map, ltb, replicate, None}
use Rattle.tally.specs.Limits.{Limits, senders}
use Rattle.tally.specs.declared.Engine.{Engine}
use Rattle.tally.specs.declared.Tally.{Tally}
use Rattle.contents.specs.Images.{image_log}
use Rattle.contents.specs.declared.Image.{Image}
use Rattle.contents.specs.declared.Log.{Log}
use Rattle.formats.specs.Codes.{letter_of, engine_of, with_engine, code_of}
use Rattle.formats.specs.Formats.{ReadAnswer, checked, from_numbers}
use Rattle.formats.specs.Images.{cell_code, tally_of, with_tallies, image_format}
use Rattle.formats.specs.Logs.{log_of, log_format}
use Rattle.consensus.specs.Units.{unit_log, unit_image, up_unit}
use Rattle.consensus.specs.declared.Unit as U
use Rattle.cards.specs.declared.CardRow.{CardRow}
use Rattle.cards.specs.declared.LogFields.{LogFields}
use Rattle.cards.specs.declared.TallyFields.{TallyFields}

-- ---- from a row: its numbers are those of the formats

-- engine letter, n, unit, entry, round, proposal, first estimate, second estimate
abbrev pub numbers_of : LogFields → List ℕ
numbers_of f = f.engine ∷ f.n ∷ f.unit ∷ f.entry ∷ f.round ∷ f.proposal ∷ f.first ∷ f.second ∷ []

-- 2: log malformed
unfoldable pub row_log : Limits → CardRow → ReadAnswer Log
row_log l r = from_numbers (log_format l) (numbers_of r.log)

-- marks are a bit for each sender, and nothing above these
abbrev pub marks_fit : TallyFields → Bool
marks_fit f = ltb f.marks (2 ^ senders)

abbrev pub row_tally : TallyFields → Tally
row_tally f = tally_of (f.marks ∷ f.estimates)

abbrev pub image_with : CardRow → Engine → List ℕ → Image
image_with r e vs = with_tallies (log_of e vs) (row_tally r.checks) (row_tally r.seconds)

-- 3: image malformed
unfoldable pub row_image : Limits → CardRow → ReadAnswer Image
row_image l r =
    checked (image_format l)
    (cond (marks_fit r.checks && marks_fit r.seconds) (with_engine (image_with r) (engine_of r.image.engine) (numbers_of r.image)) None)

-- the up unit of a row
abbrev pub row_unit : Limits → CardRow → U.Unit
row_unit l r = up_unit (row_log l r).contents (row_image l r).contents

-- ---- to a row

abbrev pub log_fields_of : Log → LogFields
log_fields_of g =
    record {
      engine = letter_of g.settings.engine;
      n = g.settings.n;
      unit = g.settings.unit;
      entry = g.settings.entry;
      round = g.state.round;
      proposal = code_of g.state.proposal;
      first = code_of g.state.first;
      second = code_of g.state.second;
    }

abbrev pub tally_fields_of : Tally → TallyFields
tally_fields_of t = record { marks = t.marks; estimates = map cell_code t.cells }

abbrev pub row_of : U.Unit → CardRow
row_of u =
    record {
      log = log_fields_of (unit_log u);
      image = log_fields_of (image_log (unit_image u));
      checks = tally_fields_of u.checks;
      seconds = tally_fields_of u.seconds;
    }

-- ---- what stands past the end of a card

abbrev pub no_fields : LogFields
no_fields = record { engine = 0; n = 0; unit = 0; entry = 0; round = 0; proposal = 0; first = 0; second = 0 }

abbrev pub no_tally : TallyFields
no_tally = record { marks = 0; estimates = replicate senders 0 }

abbrev pub no_row : CardRow
no_row = record { log = no_fields; image = no_fields; checks = no_tally; seconds = no_tally }
