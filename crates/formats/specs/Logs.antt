-- The bytes of a log. Assumes nothing.
use Rattle.std.specs.Prelude.{ℕ, List, [], ◌∷◌, get_or, Option, Some, Result, Ok, Err}
use Rattle.tally.specs.Limits.{Limits, log_size, log_fields}
use Rattle.tally.specs.Refusal.{number_of}
use Rattle.tally.specs.declared.Engine.{Engine}
use Rattle.tally.specs.declared.Engine.TheVariants.{B}
use Rattle.tally.specs.declared.Estimate.TheVariants.{Blank}
use Rattle.tally.specs.declared.Refusal.{Refusal}
use Rattle.contents.specs.Logs.{log_ok}
use Rattle.contents.specs.declared.Log.{Log}
use Rattle.formats.specs.Codes.{letter_of, engine_of, with_engine, code_of, estimate_of}
use Rattle.formats.specs.Formats.{ReadAnswer, reading, WriteAnswer, Format, read_bytes, write_bytes}

-- engine letter, n, unit, zero, entry, round, proposal, first estimate, second estimate
abbrev pub log_widths : Limits → List ℕ
log_widths l = 1 ∷ 1 ∷ 1 ∷ 1 ∷ 2 ∷ l.round_width ∷ 4 ∷ 4 ∷ 4 ∷ []

-- the zero stands after engine letter, n and unit, in an image too
abbrev pub log_zero : ℕ
log_zero = 3

abbrev pub log_numbers : Log → List ℕ
log_numbers r =
    letter_of r.settings.engine ∷ r.settings.n ∷ r.settings.unit ∷ r.settings.entry ∷
    r.state.round ∷ code_of r.state.proposal ∷ code_of r.state.first ∷ code_of r.state.second ∷ []

abbrev pub log_of : Engine → List ℕ → Log
log_of e vs =
    record {
      settings = record { engine = e; n = get_or vs 1 0; unit = get_or vs 2 0; entry = get_or vs 3 0 };
      state =
          record {
            round = get_or vs 4 0;
            proposal = estimate_of (get_or vs 5 0);
            first = estimate_of (get_or vs 6 0);
            second = estimate_of (get_or vs 7 0);
          };
    }

abbrev pub parse_log : List ℕ → Option Log
parse_log vs = with_engine log_of (engine_of (get_or vs 0 0)) vs

-- stands in the place of a log that is refused
abbrev pub no_log : Log
no_log = log_of B (0 ∷ 0 ∷ 0 ∷ 0 ∷ 0 ∷ code_of Blank ∷ code_of Blank ∷ code_of Blank ∷ [])

-- 2: log malformed
abbrev pub log_format : Limits → Format Log
log_format l =
    record {
      size = log_size l;
      widths = log_widths l;
      zero_at = log_zero;
      fields = log_fields;
      numbers = log_numbers;
      parse = parse_log;
      ok = log_ok l;
      malformed = number_of (Some Refusal.Log);
      nothing = no_log;
    }

-- the code's answer, as number and contents
abbrev pub log_reading : Result Log Refusal → ReadAnswer Log
log_reading (Ok r) = reading 0 r
log_reading (Err k) = reading (number_of (Some k)) no_log

unfoldable pub read_log : Limits → List ℕ → ReadAnswer Log
read_log l bs = read_bytes (log_format l) bs

-- a refused log write leaves every byte
unfoldable pub write_log : Limits → Log → List ℕ → WriteAnswer
write_log l r bs = write_bytes (log_format l) r bs bs
