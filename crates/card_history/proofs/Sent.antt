-- What a well-formed unit sends is read at its entry, and at no other. Assumes nothing.
use Prim.Native.Nat.{ℕ, ◌%◌}
use mathlib.Core.Path.{◌≡◌, refl}
use mathlib.Core.Bool.{Bool, true, false, cond}
use mathlib.Core.Logic.{◌⊎◌, inl, inr}
use mathlib.Core.Option.{none, some}
use lib.Dec.{eqb}
use Rattle.tally.specs.Limits.{Limits, Sane}
use Rattle.contents.specs.Messages.{empty_message}
use Rattle.contents.specs.declared.Kind.{Kind}
use Rattle.contents.specs.declared.Kind.TheVariants.{Empty, First, Check, Second, Skip}
use Rattle.contents.specs.declared.Message.{Message}
use Rattle.formats.specs.Codes.{kind_letter}
use Rattle.formats.specs.Messages.{empty_bytes}
use Rattle.formats.proofs.Cleared.{empty_read}
use Rattle.consensus.specs.Sound.{From}
use Rattle.calls.specs.Calls.{message_bytes}
use Rattle.calls.proofs.Encoded.{read_message_lem}
use Rattle.agreement.specs.Bytes.{unless_empty, all_zero}
use Rattle.agreement.specs.Contents as C
use Rattle.agreement.specs.Encoded.{sent_bytes}
use Rattle.agreement.specs.Worlds.{Setup, settings_of}
use Rattle.agreement.proofs.Encoding.{letter_first}
use Rattle.card_history.specs.Demand3.{entry_message}
use Rattle.card_history.proofs.Picked.{taken}

module _ (l : Limits) (sane : Sane l) (c : Setup) (u k : ℕ) where
  -- what is sent of a message of kind d, at entry k
  abbrev Sends : Kind → Message → Type 0
  Sends d m = taken (entry_message l k) (unless_empty (message_bytes l d m)) ≡ cond (eqb c.entry k) (C.unless_empty d m) none

  sends_one : (m : Message) → From l (settings_of c u) m → eqb (kind_letter m.kind % 256) 0 ≡ false
      → taken (entry_message l k) (unless_empty (sent_bytes l m)) ≡ cond (eqb c.entry k) (some m) none
  unfolding entry_message
  sends_one m f letter = rw (letter_first l m letter, (read_message_lem l sane m f.well_formed).0, f.entry)

  -- zeros are read as no message
  sends_none : taken (entry_message l k) (unless_empty (empty_bytes l)) ≡ cond (eqb c.entry k) none none
  unfolding entry_message
  sends_none = go (all_zero (empty_bytes l)) (eqb c.entry k)
    where
      go : (b t : Bool) → taken (entry_message l k) (cond b none (some (empty_bytes l))) ≡ cond t none none
      go true true = refl
      go true false = refl
      go false true = rw (empty_read l)
      go false false = rw (empty_read l)

  sends_kind : (d : Kind) (m : Message) → m.kind ≡ d → From l (settings_of c u) m → Sends d m
  unfolding message_bytes
  sends_kind Empty m e f = sends_none
  sends_kind First m e f = sends_one m f (rw e)
  sends_kind Check m e f = sends_one m f (rw e)
  sends_kind Second m e f = sends_one m f (rw e)
  sends_kind Skip m e f = sends_one m f (rw e)

  pub sends : (m : Message) → (m ≡ empty_message) ⊎ From l (settings_of c u) m → Sends m.kind m
  unfolding message_bytes
  sends m (inl e) = rw e sends_none
  sends m (inr f) = sends_kind m.kind m refl f
