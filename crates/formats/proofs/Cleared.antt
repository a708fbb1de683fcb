-- Empty messages: cleared buffers, and that the empty message is neither read nor written as a message. Assumes nothing.
use Rattle.std.specs.Prelude.{Some}
use mathlib.Core.Path.{◌≡◌, refl, sym, ◌∙◌}
use mathlib.Core.Bool.{Bool, true, false, cond, ◌&&◌, and-false}
use mathlib.Core.List.{List}
use Prim.Native.Nat.{ℕ, zero, suc, ◌+◌}
use lib.Dec.{eqb}
use lib.ListN.{length, get_or, replicate, length-replicate}
use borrow.Author.Tests.{eq-eqb, eqb-true}
use Rattle.tally.specs.Limits.{Limits, message_size}
use Rattle.tally.specs.Refusal.{number_of}
use Rattle.tally.specs.declared.Refusal.{Refusal}
use Rattle.contents.specs.Logs.{numbers_ok, round_ok}
use Rattle.contents.specs.Messages.{kind_ok, message_ok, empty_message}
use Rattle.contents.specs.declared.Kind.TheVariants.{Empty}
use Rattle.contents.specs.declared.Message.{Message}
use Rattle.formats.specs.Formats.{reading, wrote}
use Rattle.formats.specs.Messages.{message_format, empty_bytes, cleared, read_message, write_message}
use Rattle.formats.specs.Numbers.{num_at}
use Rattle.formats.proofs.Steps.{read_numbers_in, write_malformed}

-- a buffer keeps its length when it is cleared
pub length_cleared : (l : Limits) (bs : List ℕ) → length (cleared l bs) ≡ length bs
unfolding cleared
length_cleared l bs = go (eqb (length bs) (message_size l)) refl
  where
    go : (b : Bool) → eqb (length bs) (message_size l) ≡ b → length (cond b (empty_bytes l) bs) ≡ length bs
    go true e = rw (length-replicate {A = ℕ} (message_size l) 0) (sym (eqb-true _ _ e))
    go false e = refl

cleared_again : (l : Limits) (bs : List ℕ) → cleared l (cleared l bs) ≡ cleared l bs
unfolding cleared
cleared_again l bs = go (eqb (length bs) (message_size l)) refl
  where
    go : (b : Bool) → eqb (length bs) (message_size l) ≡ b
        → cond (eqb (length (cond b (empty_bytes l) bs)) (message_size l)) (empty_bytes l) (cond b (empty_bytes l) bs) ≡ cond b (empty_bytes l) bs
    go true e = rw (eq-eqb (length (empty_bytes l)) (message_size l) (length-replicate {A = ℕ} (message_size l) 0))
    go false e = rw e

-- writing to a buffer that was cleared before is writing to it
pub written_cleared : (l : Limits) (m : Message) (bs : List ℕ) → write_message l m (cleared l bs) ≡ write_message l m bs
unfolding write_message
written_cleared l m bs = rw (cleared_again l bs, length_cleared l bs)

-- zeros hold the number 0 everywhere
zeros : (n i : ℕ) → ◌≡◌ {A = ℕ} (get_or (replicate n 0) i 0) 0
zeros zero i = refl
zeros (suc n) zero = refl
zeros (suc n) (suc i) = zeros n i

num_zeros : (n o k : ℕ) → num_at (replicate n 0) o k ≡ 0
unfolding num_at
num_zeros n o zero = refl
num_zeros n o (suc k) = rw (num_zeros n o k, zeros n (o + k))

-- an empty message counts as no message, and reading it gives 4
pub empty_read : (l : Limits) → read_message l (empty_bytes l) ≡ reading (number_of (Some Refusal.Message)) empty_message
unfolding read_message
empty_read l =
    read_numbers_in (message_format l) (empty_bytes l) (length-replicate {A = ℕ} (message_size l) 0) (num_zeros (message_size l) _ 1)
    ∙ rw (num_zeros (message_size l) _ 1)

-- writing contents of kind Empty gives 4 too
pub empty_written : (l : Limits) (m : Message) (bs : List ℕ) → m.kind ≡ Empty → length bs ≡ message_size l
    → write_message l m bs ≡ wrote (number_of (Some Refusal.Message)) (empty_bytes l)
unfolding write_message message_ok kind_ok cleared
empty_written l m bs k size =
    let bad : message_ok l m ≡ false = rw k (and-false (numbers_ok m.n m.sender m.entry && round_ok l m.round)) in
    write_malformed (message_format l) bs m (cleared l bs) size bad ∙ rw (eq-eqb (length bs) (message_size l) size)
