-- What starting and key-on do not read: where they are accepted, what the buffers held plays no part. Assumes nothing.
use Rattle.std.specs.Prelude.{Some}
use Prim.Native.Nat.{ℕ}
use mathlib.Core.Path.{◌≡◌, refl}
use mathlib.Core.Bool.{Bool, true, false}
use mathlib.Core.List.{List, [], ◌∷◌}
use native.Mathlib.Omega.{arith}
use lib.ListN.{length}
use Rattle.tally.specs.Limits.{Limits}
use Rattle.tally.specs.Refusal.{number_of}
use Rattle.tally.specs.declared.Refusal.{Refusal}
use Rattle.consensus.specs.Conditions.{condition, first_refusal}
use Rattle.calls.specs.Calls.{CallAnswer, unless_refused, unit_lengths, bad_log, bad_settings, start_call_conditions, start_call, key_on_call_conditions}
use Rattle.calls.specs.Calls.{key_on_call}
use Rattle.formats.specs.Codes.{engine_of}

module _ (l : Limits) where
  -- conditions 1 and 2: where neither holds, the answer alone is left
  same : (a b : Bool) (ok : CallAnswer) (log image log2 image2 : List ℕ)
      → (unless_refused l (condition Refusal.Length a ∷ condition Refusal.Log b ∷ []) log image [] ok).number ≡ 0
      → unless_refused l (condition Refusal.Length a ∷ condition Refusal.Log b ∷ []) log image [] ok
      ≡ unless_refused l (condition Refusal.Length a ∷ condition Refusal.Log b ∷ []) log2 image2 [] ok
  unfolding first_refusal
  same true b ok log image log2 image2 h = absurd (omega (arith, h))
  same false true ok log image log2 image2 h = absurd (omega (arith, h))
  same false false ok log image log2 image2 h = refl

  lengths : (log image log2 image2 : List ℕ) → length log ≡ length log2 → length image ≡ length image2
      → unit_lengths l log image ≡ unit_lengths l log2 image2
  unfolding unit_lengths
  lengths log image log2 image2 a b = rw (a, b)

  -- starting reads neither buffer
  pub start_unread : (engine n unit entry : ℕ) (log image log2 image2 : List ℕ) → length log ≡ length log2 → length image ≡ length image2
      → (start_call l engine n unit entry log image).number ≡ 0
      → start_call l engine n unit entry log image ≡ start_call l engine n unit entry log2 image2
  unfolding start_call start_call_conditions
  start_unread engine n unit entry log image log2 image2 a b h =
      rw (← lengths log image log2 image2 a b) (same (unit_lengths l log image) (bad_settings (engine_of engine) n unit entry) _ log image log2 image2 h)

  -- key-on does not read the image, so that 3 never applies to it
  pub key_on_unread : (log image image2 : List ℕ) → length image ≡ length image2 → (key_on_call l log image).number ≡ 0
      → key_on_call l log image ≡ key_on_call l log image2
  unfolding key_on_call key_on_call_conditions
  key_on_unread log image image2 b h =
      rw (← lengths log image log image2 refl b) (same (unit_lengths l log image) (bad_log l log) _ log image log image2 h)

  never_3 : (a b : Bool) (ok : CallAnswer) (log image : List ℕ) → ok.number ≡ 0
      → (unless_refused l (condition Refusal.Length a ∷ condition Refusal.Log b ∷ []) log image [] ok).number ≡ number_of (Some Refusal.Image) → ⊥
  unfolding first_refusal
  never_3 true b ok log image zero h = omega (arith, h)
  never_3 false true ok log image zero h = omega (arith, h)
  never_3 false false ok log image zero h = omega (arith, h, zero)

  pub key_on_never_3 : (log image : List ℕ) → (key_on_call l log image).number ≡ number_of (Some Refusal.Image) → ⊥
  unfolding key_on_call key_on_call_conditions
  key_on_never_3 log image h = never_3 (unit_lengths l log image) (bad_log l log) _ log image refl h
