-- Four bytes written over a part of a slice are a number's. Assumes nothing.
use Rattle.std.proofs.Common.{◌≡◌, ℕ, ◌+◌, ◌≤◌, List, length, sym, ap, take, drop-drop, append_assoc, arith}
use Rattle.std.proofs.Math.Nat.{div-div-eq-div-mul}
use Rattle.std.proofs.lemmas.List.Edits.{sets, sets-eq}
use Rattle.std.specs.Int.{w32, to_be_bytes}
use Rattle.formats.specs.Numbers.{bytes_of}
use borrow.Rule.Slice.PartMut.{put_mid}

four : (x : ℕ) → to_be_bytes w32 x ≡ bytes_of 4 x
unfolding bytes_of
four x = simp div-div-eq-div-mul

pub stored_four : (at k x : ℕ) (s b : List ℕ) → k ≡ 4 → at + 4 ≤ length s → b ≡ to_be_bytes w32 x
    → put_mid at k s b ≡ sets s at (bytes_of 4 x)
stored_four at k x s b e h z =
    let long : length (bytes_of 4 x) ≡ 4 = ap length (sym (four x)) in
    let there : at + length (bytes_of 4 x) ≤ length s = omega arith in
    rw (sets-eq (bytes_of 4 x) s at there, long, ← four x, e, z, drop-drop 4 at s, append_assoc (take at s))
