-- Numbers too large for their bytes are refused, and the others fit the code's types. Assumes nothing.
use Prim.Native.Nat.{ℕ, zero, suc, ◌^◌, ◌≤◌}
use mathlib.Core.Path.{◌≡◌, refl, sym, ap, ◌∙◌}
use mathlib.Core.Bool.{Bool, true, false, cond, ◌&&◌, and-true, false≢true}
use mathlib.Core.List.{List, [], ◌∷◌, ◌++◌}
use Rattle.std.specs.Prelude.{Option, Some, None}
use native.Mathlib.Omega.{arith}
use lib.Dec.{ltb}
use lib.ListN.{length, get_or, take, drop, length-append}
use lib.Seq.{get_or_at, append_snoc}
use borrow.Author.Tests.{lt-ltb}
use Rattle.formats.specs.Formats.{reading, Format, with_zero, without, checked, from_numbers}
use Rattle.formats.proofs.RoundTrips.{LawfulFormat, without_zero}
use Rattle.formats.proofs.Packed.{Fit, fit_append}
use Rattle.calls.specs.InnerFields.{narrow, head_widths}

-- numbers that fit their widths are narrow
fit_narrow : (ok : Bool) (ws vs p : List ℕ) (o k : ℕ) → length p ≡ o → Fit ws vs → narrow ok o (take k ws) (p ++ vs) ≡ ok
fit_narrow ok ws vs p o zero e h = refl
fit_narrow ok [] [] p o (suc k) e h = refl
fit_narrow ok [] (v ∷ vs) p o (suc k) e h = absurd h
fit_narrow ok (w ∷ ws) [] p o (suc k) e h = absurd h
fit_narrow ok (w ∷ ws) (v ∷ vs) p o (suc k) e h =
    let here : (ok && ltb (get_or (p ++ (v ∷ vs)) o 0) (256 ^ w)) ≡ ok = rw (get_or_at p v vs 0 o e, lt-ltb v (256 ^ w) h.0) (and-true ok) in
    ap (λ (b : Bool). narrow b (suc o) (take k ws) (p ++ (v ∷ vs))) here
    ∙ rw (← append_snoc p v vs) (fit_narrow ok ws vs (p ++ (v ∷ [])) (suc o) k (simp length-append (omega arith)) h.1)

fit_take : (k : ℕ) (ws vs : List ℕ) → Fit ws vs → Fit (take k ws) (take k vs)
fit_take zero ws vs h = tt
fit_take (suc k) [] [] h = tt
fit_take (suc k) [] (v ∷ vs) h = absurd h
fit_take (suc k) (w ∷ ws) [] h = absurd h
fit_take (suc k) (w ∷ ws) (v ∷ vs) h = (h.0, fit_take k ws vs h.1)

fit_drop : (k : ℕ) (ws vs : List ℕ) → Fit ws vs → Fit (drop k ws) (drop k vs)
fit_drop zero ws vs h = h
fit_drop (suc k) [] [] h = tt
fit_drop (suc k) [] (v ∷ vs) h = absurd h
fit_drop (suc k) (w ∷ ws) [] h = absurd h
fit_drop (suc k) (w ∷ ws) (v ∷ vs) h = fit_drop k ws vs h.1

-- numbers of which one is too large for its bytes are refused
pub too_large : {A : Type 0} (f : Format A) (law : LawfulFormat f (λ a. Unit)) (vs : List ℕ) (k : ℕ) → length vs ≡ f.fields
    → narrow true 0 (head_widths f k) vs ≡ false → from_numbers f vs ≡ reading f.malformed f.nothing
too_large f law vs k len wide = go (f.parse vs) refl
  where
    z : ℕ
    z = f.zero_at

    fits : Fit f.widths (with_zero z vs) → ⊥
    fits h =
        let below : z ≤ length vs = omega (arith, law.counted, law.placed) in
        let condition : Fit (without z f.widths) (without z (with_zero z vs)) =
        fit_append (take z f.widths) (drop (suc z) f.widths) (take z (with_zero z vs)) (drop (suc z) (with_zero z vs))
        (fit_take z f.widths (with_zero z vs) h)
        (fit_drop (suc z) f.widths (with_zero z vs) h) in
        false≢true (sym wide ∙ fit_narrow true (without z f.widths) vs [] 0 k refl (rw (without_zero z vs below) at condition))

    go : (o : Option _) → f.parse vs ≡ o → checked f o ≡ reading f.malformed f.nothing
    go None p = refl
    go (Some a) p = by (f.ok a) refl
      where
        by : (t : Bool) → f.ok a ≡ t → cond t (reading 0 a) (reading f.malformed f.nothing) ≡ reading f.malformed f.nothing
        by true ok = absurd (fits (rw (law.back vs a len p) at (law.fit a tt ok)))
        by false ok = refl

-- what is taken of numbers that fit their bytes is all that is taken
pub taken_narrow : {A : Type 0} (f : Format A) (law : LawfulFormat f (λ a. Unit)) (vs : List ℕ) (k : ℕ) → length vs ≡ f.fields
    → checked f (cond (narrow true 0 (head_widths f k) vs) (f.parse vs) None) ≡ from_numbers f vs
taken_narrow f law vs k len = go (narrow true 0 (head_widths f k) vs) refl
  where
    go : (t : Bool) → narrow true 0 (head_widths f k) vs ≡ t → checked f (cond t (f.parse vs) None) ≡ from_numbers f vs
    go true e = refl
    go false e = sym (too_large f law vs k len e)
