-- A log's format is lawful. Assumes nothing.
use Rattle.std.specs.Prelude.{Some}
use Prim.Native.Nat.{ℕ, ◌<◌, ◌^◌}
use mathlib.Core.Path.{◌≡◌, refl}
use mathlib.Core.Bool.{true}
use mathlib.Core.List.{List}
use native.Mathlib.Omega.{arith}
use lib.ListN.{length, get_or}
use Rattle.tally.specs.Limits.{Limits, log_size, log_fields, Sane}
use Rattle.tally.specs.declared.Engine.{Engine}
use Rattle.tally.specs.Refusal.{number_of}
use Rattle.tally.specs.declared.Refusal.{Refusal}
use Rattle.tally.proofs.Bounds.{entry_fits, units_fit, everyone_fits}
use Rattle.contents.specs.Logs.{log_ok}
use Rattle.contents.specs.declared.Log.{Log}
use Rattle.contents.proofs.Facts.{log_facts, known_or_blank, known_second}
use Rattle.formats.specs.Codes.{engine_of}
use Rattle.formats.specs.Formats.{with_zero}
use Rattle.formats.specs.Logs.{log_widths, log_zero, log_numbers, log_of, log_format, read_log, write_log}
use Rattle.formats.specs.RoundTrip.{RoundTrip}
use Rattle.formats.proofs.Letters.{engine_letter, letter_fits, letter_engine, made, code_estimate, estimate_code, code_fits, spread_whole}
use Rattle.formats.proofs.RoundTrips.{LawfulFormat, round_trip}
use Rattle.formats.proofs.Packed.{Fit}
use Rattle.formats.proofs.Steps.{write_kept}

-- the numbers of a log that was made of eight numbers
pub numbers_of_lem : (e : Engine) (vs : List ℕ) → length vs ≡ log_fields → engine_of (get_or vs 0 0) ≡ Some e → log_numbers (log_of e vs) ≡ vs
numbers_of_lem e vs len p =
    rw (letter_engine (get_or vs 0 0) e p, code_estimate (get_or vs 5 0), code_estimate (get_or vs 6 0), code_estimate (get_or vs 7 0))
    (spread_whole log_fields vs len)

module _ (l : Limits) (sane : Sane l) where
  -- a well-formed log is made of its numbers
  pub of_numbers : (r : Log) → log_ok l r ≡ true → log_of r.settings.engine (log_numbers r) ≡ r
  of_numbers r ok =
      let s = (log_facts l r ok).state in
      rw (
        estimate_code l sane r.state.proposal (known_or_blank l r.state.proposal s.proposal),
        estimate_code l sane r.state.first (known_or_blank l r.state.first s.first),
        estimate_code l sane r.state.second (known_second l r.settings.engine r.state.second s.second),
      )

  pub fits : (r : Log) → log_ok l r ≡ true → Fit (log_widths l) (with_zero log_zero (log_numbers r))
  fits r ok =
      let f = log_facts l r ok in
      let s = f.state in
      let n = f.numbers in
      let unit : r.settings.unit < 256 ^ 1 = omega (arith, n.below, n.n_high, units_fit, everyone_fits) in
      let units : r.settings.n < 256 ^ 1 = omega (arith, n.n_high, units_fit, everyone_fits) in
      let entry : r.settings.entry < 256 ^ 2 = omega (arith, n.entry_high, entry_fits) in
      let round : r.state.round < 256 ^ l.round_width = omega (arith, s.round, sane.round_fits) in (
        letter_fits r.settings.engine,
        (
          units,
          (
            unit,
            (
              omega arith,
              (
                entry,
                (
                  round,
                  (
                    code_fits l sane r.state.proposal (known_or_blank l r.state.proposal s.proposal),
                    (
                      code_fits l sane r.state.first (known_or_blank l r.state.first s.first),
                      (code_fits l sane r.state.second (known_second l r.settings.engine r.state.second s.second), tt),
                    ),
                  ),
                ),
              ),
            ),
          ),
        ),
      )

  pub lawful : LawfulFormat (log_format l) (λ r. Unit)
  unfolding log_ok
  lawful =
      record {
        sized = omega arith;
        counted = refl;
        placed = omega arith;
        refuses = λ e. omega arith;
        unread = refl;
        each = λ r t. refl;
        fit = λ r t ok. fits r ok;
        parsed = λ r t ok. rw (engine_letter r.settings.engine, of_numbers r ok);
        back = λ vs r len e. made (λ r. log_numbers r ≡ vs) log_of vs r (get_or vs 0 0) (λ g p. numbers_of_lem g vs len p) e;
      }

  pub log_round_trip : RoundTrip (λ r. Unit) (log_ok l) (number_of (Some Refusal.Log)) (log_size l) (read_log l) (write_log l)
  unfolding read_log write_log
  log_round_trip = round_trip (log_format l) (λ r. Unit) lawful _

  -- a refused log write leaves every byte
  pub log_kept : (r : Log) (bs : List ℕ) → ((write_log l r bs).number ≡ 0 → ⊥) → (write_log l r bs).out ≡ bs
  unfolding write_log
  log_kept r bs n = write_kept (log_format l) bs r bs n
