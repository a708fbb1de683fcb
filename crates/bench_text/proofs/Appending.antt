-- Texts that are appended, one after the other. Assumes nothing.
use Prim.Native.Nat.{ℕ, suc, ◌+◌, ◌≤◌}
use mathlib.Core.Path.{◌≡◌, refl, sym, ap, ◌∙◌}
use mathlib.Core.List.{List, [], ◌∷◌, ◌++◌, append_assoc}
use native.Mathlib.Nat.{add-zero}
use native.Mathlib.Omega.{arith}
use lib.ListN.{length, set, take, drop, length-append}
use lib.Seq.{sets, length-sets, sets-eq}
use borrow.Rule.Slice.PartMut.{put_mid}
use Rattle.std.proofs.lemmas.List.Edits.{paste_all}
use Rattle.std.proofs.lemmas.Slice.{put_mid-paste}
use Rattle.bench_text.specs.InnerText.{HasRoom, Appends}
use Rattle.bench_text.specs.declared.Listing.{Listing}

pub sets_append : (l : List ℕ) (i : ℕ) (a b : List ℕ) → sets (sets l i a) (i + length a) b ≡ sets l i (a ++ b)
sets_append l i [] b = rw add-zero
sets_append l i (x ∷ a) b =
    let e : i + suc (length a) ≡ suc i + length a = omega arith in
    rw e (sets_append (set l i x) (suc i) a b)

pub then : {p q r : Listing} {a b : List ℕ} → Appends p a q → Appends q b r → Appends p (a ++ b) r
then {p} {q} {r} {a} {b} f g =
    record {
      same_reference = g.same_reference ∙ f.same_reference;
      puts = record {
        bytes = g.puts.bytes ∙ rw (f.puts.bytes, f.puts.ends) (sets_append p.buffer.now p.at a b);
        ends = rw length-append (omega (arith, f.puts.ends, g.puts.ends));
      };
    }

-- nothing is appended
pub none : (p : Listing) → Appends p [] p
none p = record { same_reference = refl; puts = record { bytes = refl; ends = rw add-zero } }

-- room for both is room for the first, and after it for the second
pub room_first : (p : Listing) (a b : List ℕ) → HasRoom p (length (a ++ b)) → HasRoom p (length a)
room_first p a b h = let h' : p.at + (length a + length b) ≤ length p.buffer.now = rw length-append at h in omega arith

pub room_next : {p q : Listing} {a : List ℕ} (b : List ℕ) → Appends p a q → HasRoom p (length (a ++ b)) → HasRoom q (length b)
room_next {p} {q} {a} b f h =
    let h' : p.at + (length a + length b) ≤ length p.buffer.now = rw length-append at h in
    omega (arith, f.puts.ends, ap length f.puts.bytes, length-sets p.buffer.now p.at a)

-- a text that is copied over a part as long
pub copied : (xs ys s : List ℕ) (at k : ℕ) → ys ≡ s → k ≡ length s → at + length s ≤ length xs → put_mid at k xs ys ≡ sets xs at s
copied xs ys s at k e n room =
    put_mid-paste at k xs ys s (length s) e (sym n) refl ∙ paste_all xs at s (length s) refl
    ∙ sym (sets-eq s xs at room ∙ append_assoc (take at xs) s (drop (at + length s) xs))
