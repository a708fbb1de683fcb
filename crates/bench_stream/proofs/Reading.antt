-- Two reads, one after the other: what the reader loses is what fills the buffer's start. Assumes nothing.
use Rattle.std.proofs.Common.{◌≡◌, ℕ, ◌+◌, ◌≤◌, List, ◌++◌, Option, length, take, sym, ap, ◌∙◌, subst, length-take-le}
use Rattle.std.proofs.Math.Seq.{take-append-add}
use Rattle.std.proofs.lemmas.List.{take-append-le}
use Rattle.std.proofs.KnownBytes.{Consumes-trans}
use borrow.Rule.Slice.PartMut.{put_mid, post_of}
use Rattle.std.specs.Io.KnownBytes.{Consumes}

-- the first n of ys, which stand from place i on
taken : (i k n : ℕ) (xs ys : List ℕ) → i ≤ length xs → n ≤ length ys → take (i + n) (put_mid i k xs ys) ≡ take i xs ++ take n ys
taken i k n xs ys within fits =
    let rest = ys ++ post_of i k xs in
    let front = length-take-le i xs within in
    ap (λ m. take (m + n) (take i xs ++ rest)) (sym front) ∙ take-append-add (take i xs) rest n
    ∙ ap (λ l. take i xs ++ l) (take-append-le n ys (post_of i k xs) fits)

pub read_on : (a b c : Option (List ℕ)) (i k n : ℕ) (xs ys : List ℕ) → i ≤ length xs → n ≤ length ys
    → Consumes a b (take i xs) → Consumes b c (take n ys) → Consumes a c (take (i + n) (put_mid i k xs ys))
read_on a b c i k n xs ys within fits p q = subst (Consumes a c) (sym (taken i k n xs ys within fits)) (Consumes-trans a b c _ _ p q)
