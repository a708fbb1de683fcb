-- The laws of numbers in bytes, each over the width, and of lists of them, over the widths. Assumes nothing.
use mathlib.Core.Path.{◌≡◌, refl, sym, ap, ◌∙◌}
use mathlib.Core.List.{List, [], ◌∷◌, ◌++◌, append_assoc, append-nil}
use Prim.Native.Nat.{ℕ, zero, suc, ◌+◌, ◌-◌, ◌*◌, ◌/◌, ◌%◌, ◌^◌, ◌<◌, ◌≤◌}
use native.Mathlib.Nat.{add-zero, add_assoc, pow-suc}
use native.Mathlib.Numerals.{add-one}
use native.Mathlib.Omega.{arith}
use lib.ListN.{length, get_or, take, drop, length-append, length-drop, take-append-drop, drop_of_length-le, replicate}
use lib.Seq.{sets, sets-eq, take_at, drop_at, drop-append-le, get_or_at, get_or-drop, take-suc, take_all, drop-drop, length-take-le, length-sets, drop-cons}
use Rattle.formats.specs.Numbers.{num_at, bytes_of, Bytes, unpack, pack}
use Rattle.formats.specs.InnerNumbers.{pack_into, total}

-- each number fits its width, and there is one for each
abbrev pub Fit : List ℕ → List ℕ → Type 0
Fit [] [] = Unit
Fit [] (v ∷ vs) = ⊥
Fit (w ∷ ws) [] = ⊥
Fit (w ∷ ws) (v ∷ vs) = (v < 256 ^ w) × Fit ws vs

length_bytes_of : (k x : ℕ) → length (bytes_of k x) ≡ k
unfolding bytes_of
length_bytes_of zero x = refl
length_bytes_of (suc k) x = simp (length-append, length_bytes_of k (x / 256)) (add-one k)

-- a number that was read fits its bytes
pub num_fits : (k o : ℕ) (bs : List ℕ) → Bytes bs → num_at bs o k < 256 ^ k
unfolding num_at
num_fits zero o bs b = omega arith
num_fits (suc k) o bs b = rw pow-suc (omega (arith, num_fits k o bs b, b (o + k)))

-- what was stored is read back
pub num_bytes : (k x : ℕ) (p q : List ℕ) (o : ℕ) → length p ≡ o → x < 256 ^ k → num_at (p ++ (bytes_of k x ++ q)) o k ≡ x
unfolding num_at bytes_of
num_bytes zero x p q o e h = omega arith
num_bytes (suc k) x p q o e h =
    let b = bytes_of k (x / 256) in
    let r : List ℕ = x % 256 ∷ q in
    let h' : x < 256 ^ k * 256 = rw pow-suc at h in
    let len : length (p ++ b) ≡ o + k = simp (length-append, length_bytes_of) (omega arith) in
    let i : num_at (p ++ (b ++ r)) o k ≡ x / 256 = num_bytes k (x / 256) p r o e (omega arith) in
    let j : get_or (p ++ (b ++ r)) (o + k) 0 ≡ x % 256 = rw (← append_assoc p b r) (get_or_at (p ++ b) (x % 256) q 0 (o + k) len) in
    let both : p ++ (bytes_of (suc k) x ++ q) ≡ p ++ (b ++ r) = ap (λ (s : List ℕ). p ++ s) (append_assoc b (x % 256 ∷ []) q) in
    let high : num_at (p ++ (bytes_of (suc k) x ++ q)) o k ≡ x / 256 = ap (λ (s : List ℕ). num_at s o k) both ∙ i in
    let low : get_or (p ++ (bytes_of (suc k) x ++ q)) (o + k) 0 ≡ x % 256 = ap (λ (s : List ℕ). get_or s (o + k) 0) both ∙ j in
    rw (high, low) (omega arith)

-- what was read is stored back
pub bytes_num : (k o : ℕ) (bs : List ℕ) → Bytes bs → o + k ≤ length bs → bytes_of k (num_at bs o k) ≡ take k (drop o bs)
unfolding num_at bytes_of
bytes_num zero o bs b h = refl
bytes_num (suc k) o bs b h =
    let g = get_or bs (o + k) 0 in
    let n = num_at bs o k in
    let small : g < 256 = b (o + k) in
    let d : (n * 256 + g) / 256 ≡ n = omega arith in
    let m : (n * 256 + g) % 256 ≡ g = omega arith in
    let at : k < length (drop o bs) = simp length-drop (omega arith) in
    let i : bytes_of k n ≡ take k (drop o bs) = bytes_num k o bs b (omega arith) in
    rw (d, m, i, take-suc (drop o bs) k 0 at, get_or-drop o bs k 0)

pub unpack_part : (ws vs p q : List ℕ) (o : ℕ) → length p ≡ o → Fit ws vs → unpack o ws (p ++ (pack ws vs ++ q)) ≡ vs
unpack_part [] [] p q o e h = refl
unpack_part [] (v ∷ vs) p q o e h = absurd h
unpack_part (w ∷ ws) [] p q o e h = absurd h
unpack_part (w ∷ ws) (v ∷ vs) p q o e h =
    let b = bytes_of w v in
    let r = pack ws vs ++ q in
    let len : length (p ++ b) ≡ o + w = simp (length-append, length_bytes_of) (omega arith) in
    let i : num_at (p ++ (b ++ r)) o w ≡ v = num_bytes w v p r o e h.0 in
    let j : unpack (o + w) ws (p ++ (b ++ r)) ≡ vs = rw (← append_assoc p b r) (unpack_part ws vs (p ++ b) q (o + w) len h.1) in
    rw (append_assoc b (pack ws vs) q, i, j)

pub unpack_pack : (ws vs p : List ℕ) (o : ℕ) → length p ≡ o → Fit ws vs → unpack o ws (p ++ pack ws vs) ≡ vs
unpack_pack ws vs p o e h = rw (append-nil (pack ws vs)) at (unpack_part ws vs p [] o e h)

pub pack_unpack : (ws bs : List ℕ) (o : ℕ) → Bytes bs → o + total ws ≡ length bs → pack ws (unpack o ws bs) ≡ drop o bs
pack_unpack [] bs o b e = let h : length bs ≤ o = omega arith in sym (drop_of_length-le bs h)
pack_unpack (w ∷ ws) bs o b e =
    rw (bytes_num w o bs b (omega arith), pack_unpack ws bs (o + w) b (omega arith), ← drop-drop w o bs)
    (take-append-drop w (drop o bs))

pub pack_into_eq : (ws vs bs : List ℕ) (o : ℕ) → length vs ≡ length ws → o + total ws ≡ length bs
    → pack_into bs o ws vs ≡ take o bs ++ pack ws vs
pack_into_eq [] vs bs o n e = simp append-nil (sym (take_all o bs (omega arith)))
pack_into_eq (w ∷ ws) [] bs o n e = let z : ⊥ = omega arith in absurd z
pack_into_eq (w ∷ ws) (v ∷ vs) bs o n e =
    let b = bytes_of w v in
    let lb : length b ≡ w = length_bytes_of w v in
    let len : length (take o bs ++ b) ≡ o + w = simp (length-append, length_bytes_of, length-take-le o bs (omega arith)) in
    let same : o + w + total ws ≡ length (sets bs o b) = simp length-sets (omega arith) in
    let front : take (o + w) (sets bs o b) ≡ take o bs ++ b =
    rw (sets-eq b bs o (omega arith)) (take_at (take o bs ++ b) (drop (o + length b) bs) (o + w) len) in
    pack_into_eq ws vs (sets bs o b) (o + w) (omega arith) same
    ∙ rw front (append_assoc (take o bs) b (pack ws vs))

-- two lists of numbers stored one after the other are one
pub pack_into_append : (ws ws' vs vs' bs : List ℕ) (o : ℕ) → length vs ≡ length ws → pack_into bs o (ws ++ ws') (vs ++ vs') ≡ pack_into
    (pack_into bs o ws vs)
    (o + total ws) ws' vs'
pack_into_append [] ws' [] vs' bs o e = rw add-zero
pack_into_append [] ws' (v ∷ vs) vs' bs o e = let z : ⊥ = omega arith in absurd z
pack_into_append (w ∷ ws) ws' [] vs' bs o e = let z : ⊥ = omega arith in absurd z
pack_into_append (w ∷ ws) ws' (v ∷ vs) vs' bs o e =
    rw (← add_assoc o w (total ws)) (pack_into_append ws ws' vs vs' (sets bs o (bytes_of w v)) (o + w) (omega arith))

pub fit_append : (ws ws' vs vs' : List ℕ) → Fit ws vs → Fit ws' vs' → Fit (ws ++ ws') (vs ++ vs')
fit_append [] ws' [] vs' h g = g
fit_append [] ws' (v ∷ vs) vs' h g = absurd h
fit_append (w ∷ ws) ws' [] vs' h g = absurd h
fit_append (w ∷ ws) ws' (v ∷ vs) vs' h g = (h.0, fit_append ws ws' vs vs' h.1 g)

pub length_pack : (ws vs : List ℕ) → Fit ws vs → length (pack ws vs) ≡ total ws
length_pack [] [] h = refl
length_pack [] (v ∷ vs) h = absurd h
length_pack (w ∷ ws) [] h = absurd h
length_pack (w ∷ ws) (v ∷ vs) h = simp (length-append, length_bytes_of, length_pack ws vs h.1)

pub length_unpack : (o : ℕ) (ws bs : List ℕ) → length (unpack o ws bs) ≡ length ws
length_unpack o [] bs = refl
length_unpack o (w ∷ ws) bs = ap suc (length_unpack (o + w) ws bs)

-- ---- numbers in the middle of bytes

pub pack_append : (ws ws' vs vs' : List ℕ) → length vs ≡ length ws → pack (ws ++ ws') (vs ++ vs') ≡ pack ws vs ++ pack ws' vs'
pack_append [] ws' [] vs' e = refl
pack_append [] ws' (v ∷ vs) vs' e = let z : ⊥ = omega arith in absurd z
pack_append (w ∷ ws) ws' [] vs' e = let z : ⊥ = omega arith in absurd z
pack_append (w ∷ ws) ws' (v ∷ vs) vs' e =
    rw (pack_append ws ws' vs vs' (omega arith)) (sym (append_assoc (bytes_of w v) (pack ws vs) (pack ws' vs')))

pub length_packed : (ws vs : List ℕ) → length vs ≡ length ws → length (pack ws vs) ≡ total ws
length_packed [] vs e = refl
length_packed (w ∷ ws) [] e = let z : ⊥ = omega arith in absurd z
length_packed (w ∷ ws) (v ∷ vs) e = simp (length-append, length_bytes_of, length_packed ws vs (omega arith))

-- bytes b stored over the first of a
pub sets_part : (p a q b : List ℕ) (o : ℕ) → length p ≡ o → length b ≤ length a
    → sets (p ++ (a ++ q)) o b ≡ (p ++ b) ++ (drop (length b) a ++ q)
sets_part p a q b o e h =
    let rest : drop (o + length b) (p ++ (a ++ q)) ≡ drop (length b) a ++ q =
    sym (drop-drop (length b) o (p ++ (a ++ q))) ∙ ap (drop (length b)) (drop_at p (a ++ q) o e) ∙ drop-append-le (length b) a q h in
    rw (sets-eq b (p ++ (a ++ q)) o (simp length-append (omega arith)), take_at p (a ++ q) o e, rest)

pub pack_into_part : (ws vs p a q : List ℕ) (o : ℕ) → length p ≡ o → length a ≡ total ws → length vs ≡ length ws
    → pack_into (p ++ (a ++ q)) o ws vs ≡ p ++ (pack ws vs ++ q)
pack_into_part [] vs p [] q o e n k = refl
pack_into_part [] vs p (x ∷ a) q o e n k = let z : ⊥ = omega arith in absurd z
pack_into_part (w ∷ ws) [] p a q o e n k = let z : ⊥ = omega arith in absurd z
pack_into_part (w ∷ ws) (v ∷ vs) p a q o e n k =
    let b = bytes_of w v in
    let lb : length b ≡ w = length_bytes_of w v in
    let len : length (p ++ b) ≡ o + w = simp (length-append, length_bytes_of) (omega arith) in
    let left : length (drop (length b) a) ≡ total ws = simp length-drop (omega arith) in
    rw (sets_part p a q b o e (omega arith))
    (pack_into_part ws vs (p ++ b) (drop (length b) a) q (o + w) len left (omega arith)
    ∙ simp append_assoc)

-- one turn of a loop over numbers of one width
pub replicate_step : (n k w : ℕ) → k < n → replicate (n - k) w ≡ w ∷ replicate (n - (k + 1)) w
replicate_step n k w h = let e : n - k ≡ suc (n - (k + 1)) = omega arith in rw e

pub drop_step : {A : Type 0} (xs : List A) (k : ℕ) (d : A) → k < length xs → drop k xs ≡ get_or xs k d ∷ drop (k + 1) xs
drop_step xs k d h = rw (add-one, drop-cons xs k d)
