-- A message's format is lawful. Assumes nothing.
use Rattle.std.specs.Prelude.{Option, Some, None}
use Prim.Native.Nat.{ℕ, ◌<◌, ◌^◌}
use mathlib.Core.Path.{◌≡◌, refl}
use mathlib.Core.Bool.{true}
use mathlib.Core.List.{List}
use native.Mathlib.Omega.{arith}
use lib.ListN.{length, get_or}
use Rattle.tally.specs.Limits.{Limits, message_size, message_fields, Sane}
use Rattle.tally.specs.Refusal.{number_of}
use Rattle.tally.specs.declared.Refusal.{Refusal}
use Rattle.tally.proofs.Bounds.{entry_fits, units_fit, everyone_fits}
use Rattle.contents.specs.Messages.{kind_ok, message_ok}
use Rattle.contents.specs.declared.Kind.{Kind}
use Rattle.contents.specs.declared.Kind.TheVariants.{Empty}
use Rattle.contents.specs.declared.Message.{Message}
use Rattle.contents.proofs.Facts.{message_facts}
use Rattle.tally.proofs.Never.{never}
use Rattle.formats.specs.Codes.{engine_of, kind_of}
use Rattle.formats.specs.Formats.{with_zero}
use Rattle.formats.specs.Messages.{cleared, message_widths, message_zero, message_numbers, message_of, letters_read, parse_message, message_format}
use Rattle.formats.specs.Messages.{read_message, write_message}
use Rattle.formats.specs.RoundTrip.{RoundTrip}
use Rattle.formats.proofs.Letters.{engine_letter, letter_fits, letter_engine, kind_letter_lem, kind_fits, letter_kind, code_estimate, estimate_code, code_fits}
use Rattle.formats.proofs.Letters.{spread_whole}
use Rattle.formats.proofs.RoundTrips.{LawfulFormat, round_trip}
use Rattle.formats.proofs.Packed.{Fit}
use Rattle.formats.proofs.Steps.{write_kept}
use Rattle.tally.specs.declared.Engine.{Engine}

-- no well-formed message is empty
not_empty : (l : Limits) (k : Kind) (m : Message) → kind_ok l k m ≡ true → k ≡ Empty → ⊥
unfolding kind_ok
not_empty l k m h e = never (rw e at h)

module _ (l : Limits) (sane : Sane l) where
  fits : (m : Message) → message_ok l m ≡ true → Fit (message_widths l) (with_zero message_zero (message_numbers m))
  fits m ok =
      let f = message_facts l m ok in
      let n = f.numbers in
      let k = f.fields in
      let units : m.n < 256 ^ 1 = omega (arith, n.n_high, units_fit, everyone_fits) in
      let sender : m.sender < 256 ^ 1 = omega (arith, n.below, n.n_high, units_fit, everyone_fits) in
      let receiver : m.receiver < 256 ^ 1 = omega (arith, k.receiver, everyone_fits) in
      let entry : m.entry < 256 ^ 2 = omega (arith, n.entry_high, entry_fits) in
      let round : m.round < 256 ^ l.round_width = omega (arith, f.round, sane.round_fits) in (
        kind_fits m.kind,
        (
          letter_fits m.engine,
          (
            units,
            (
              sender,
              (
                receiver,
                (
                  omega arith,
                  (
                    entry,
                    (
                      round,
                      (code_fits l sane m.estimate k.estimate, (code_fits l sane m.proposal k.proposal, tt)),
                    ),
                  ),
                ),
              ),
            ),
          ),
        ),
      )

  pub lawful : LawfulFormat (message_format l) (λ m. Unit)
  unfolding message_ok
  lawful =
      record {
        sized = omega arith;
        counted = refl;
        placed = omega arith;
        refuses = λ e. omega arith;
        unread = refl;
        each = λ m t. refl;
        fit = λ m t ok. fits m ok;
        parsed = λ m t ok. parsed m ok;
        back = λ vs m len e. back vs m len (kind_of (get_or vs 0 0)) (engine_of (get_or vs 1 0)) refl refl e;
      }
    where
      parsed : (m : Message) → message_ok l m ≡ true → parse_message (message_numbers m) ≡ Some m
      parsed m ok =
          let f = message_facts l m ok in
          rw (
            kind_letter_lem m.kind (not_empty l m.kind m f.kind),
            engine_letter m.engine,
            estimate_code l sane m.estimate f.fields.estimate,
            estimate_code l sane m.proposal f.fields.proposal,
          )

      back : (vs : List ℕ) (m : Message) → length vs ≡ message_fields → (a : Option Kind) (o : Option Engine)
          → kind_of (get_or vs 0 0) ≡ a → engine_of (get_or vs 1 0) ≡ o → letters_read a o vs ≡ Some m → message_numbers m ≡ vs
      back vs m len (Some k) (Some e) p q h =
          let same : message_of k e vs ≡ m = cc in
          rw (← same)
          (rw (letter_kind (get_or vs 0 0) k p, letter_engine (get_or vs 1 0) e q, code_estimate (get_or vs 7 0), code_estimate (get_or vs 8 0))
          (spread_whole message_fields vs len))
      back vs m len (Some k) None p q h = never cc
      back vs m len None o p q h = never cc

  pub message_round_trip : RoundTrip (λ m. Unit) (message_ok l) (number_of (Some Refusal.Message)) (message_size l) (read_message l) (write_message l)
  unfolding read_message write_message
  message_round_trip = round_trip (message_format l) (λ m. Unit) lawful _

  -- a refused message write leaves an empty message in a buffer of its length
  pub message_kept : (m : Message) (bs : List ℕ) → ((write_message l m bs).number ≡ 0 → ⊥) → (write_message l m bs).out ≡ cleared l bs
  unfolding write_message
  message_kept m bs n = write_kept (message_format l) bs m (cleared l bs) n
