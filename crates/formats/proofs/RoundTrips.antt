-- Both round trips, of any format whose fields obey the laws of `LawfulFormat`. Assumes nothing.
use Rattle.std.specs.Prelude.{Option, Some, None}
use Prim.Native.Nat.{ℕ, suc, ◌≤◌, ◌<◌}
use mathlib.Core.Path.{◌≡◌, refl, sym, ap, ◌∙◌}
use mathlib.Core.Bool.{Bool, true, false, cond}
use mathlib.Core.List.{List, [], ◌∷◌, ◌++◌}
use native.Mathlib.Omega.{arith}
use lib.Dec.{eqb}
use lib.ListN.{length, get_or, take, drop, length-append, length-drop, take-append-drop}
use lib.Seq.{take_at, drop_at, get_or_at, split_at, append_snoc, length-take-le}
use borrow.Author.Tests.{ne_eqb, eqb-true}
use Rattle.formats.specs.Formats.{ReadAnswer, reading, WriteAnswer, wrote, Format, with_zero, without, numbers_in, zero_byte, checked, from_numbers, read_bytes}
use Rattle.formats.specs.Formats.{to_bytes, write_bytes}
use Rattle.formats.specs.Numbers.{Bytes, unpack, pack}
use Rattle.formats.specs.RoundTrip.{RoundTrip}
use Rattle.tally.specs.Refusal.{number_of}
use Rattle.tally.specs.declared.Refusal.TheVariants.{Length}
use Rattle.tally.proofs.Never.{never}
use Rattle.formats.specs.InnerNumbers.{total}
use Rattle.formats.proofs.Steps.{read_numbers_in, write_malformed, write_contents}
use Rattle.formats.proofs.Packed.{Fit, length_pack, length_unpack, unpack_pack, pack_unpack}

-- ---- the zero byte

module _ (k : ℕ) (vs : List ℕ) where
  front : k ≤ length vs → length (take k vs) ≡ k
  front h = length-take-le k vs h

  zero_there : k ≤ length vs → get_or (with_zero k vs) k 0 ≡ 0
  zero_there h = get_or_at (take k vs) 0 (drop k vs) 0 k (front h)

  pub without_zero : k ≤ length vs → without k (with_zero k vs) ≡ vs
  without_zero h =
      let d : drop (suc k) (with_zero k vs) ≡ drop k vs =
      rw (← append_snoc (take k vs) 0 (drop k vs))
      (drop_at (take k vs ++ (0 ∷ [])) (drop k vs) (suc k) (simp length-append (omega (arith, front h)))) in
      rw (take_at (take k vs) (0 ∷ drop k vs) k (front h), d) (take-append-drop k vs)

  zero_back : k < length vs → get_or vs k 0 ≡ 0 → with_zero k (without k vs) ≡ vs
  zero_back h z =
      let f = front (omega arith) in
      rw (take_at (take k vs) (drop (suc k) vs) k f, drop_at (take k vs) (drop (suc k) vs) k f)
      (sym (split_at vs k 0 h ∙ ap (λ (x : ℕ). take k vs ++ (x ∷ drop (suc k) vs)) z))

  length_without : k < length vs → suc (length (without k vs)) ≡ length vs
  length_without h = simp (length-append, length-drop) (omega (arith, front (omega arith)))

-- ---- formats

-- what a format's fields have to do with each other; `Typed` is what the code's types say of contents
pub record LawfulFormat {A : Type 0} (f : Format A) (Typed : A → Type 0) : Type 0 where
  pub sized : f.size ≡ total f.widths
  pub counted : suc f.fields ≡ length f.widths
  pub placed : f.zero_at < length f.widths
  pub refuses : (f.malformed ≡ 0) → ⊥
  pub unread : f.ok f.nothing ≡ false
  pub each : (a : A) → Typed a → length (f.numbers a) ≡ f.fields
  pub fit : (a : A) → Typed a → f.ok a ≡ true → Fit f.widths (with_zero f.zero_at (f.numbers a))
  pub parsed : (a : A) → Typed a → f.ok a ≡ true → f.parse (f.numbers a) ≡ Some a
  pub back : (vs : List ℕ) (a : A) → length vs ≡ f.fields → f.parse vs ≡ Some a → f.numbers a ≡ vs

module _ {A : Type 0} (f : Format A) (Typed : A → Type 0) (law : LawfulFormat f Typed) where
  -- ---- numbers

  -- well-formed contents are read from their numbers
  pub from_numbers_lem : (a : A) → Typed a → f.ok a ≡ true → from_numbers f (f.numbers a) ≡ reading 0 a
  from_numbers_lem a t ok = rw (law.parsed a t ok, ok)

  -- what is read from numbers is well formed, and what they were parsed as
  from_parsed : (vs : List ℕ) (a : A) → from_numbers f vs ≡ reading 0 a → (f.ok a ≡ true) × (f.parse vs ≡ Some a)
  from_parsed vs a e = go (f.parse vs) refl e
    where
      go : (o : Option A) → f.parse vs ≡ o → checked f o ≡ reading 0 a → (f.ok a ≡ true) × (f.parse vs ≡ Some a)
      go None p e = absurd (law.refuses (ap (λ (r : ReadAnswer A). r.number) e))
      go (Some b) p e = by (f.ok b) refl e
        where
          by : (t : Bool) → f.ok b ≡ t → cond t (reading 0 b) (reading f.malformed f.nothing) ≡ reading 0 a → (f.ok a ≡ true) ×
              (f.parse vs ≡ Some a)
          by true ok e = let same : b ≡ a = ap (λ (r : ReadAnswer A). r.contents) e in rw (← same) (ok, p)
          by false ok e = absurd (law.refuses (ap (λ (r : ReadAnswer A). r.number) e))

  -- and has these numbers
  pub numbers_back : (vs : List ℕ) (a : A) → length vs ≡ f.fields → from_numbers f vs ≡ reading 0 a → (f.ok a ≡ true) × (f.numbers a ≡ vs)
  numbers_back vs a len e = let g = from_parsed vs a e in (g.0, law.back vs a len g.1)

  -- ---- bytes

  -- the bytes of any numbers that fit are read as these numbers
  pub read_numbers : (vs : List ℕ) → length vs ≡ f.fields → Fit f.widths (with_zero f.zero_at vs)
      → read_bytes f (pack f.widths (with_zero f.zero_at vs)) ≡ from_numbers f vs
  read_numbers vs len fit =
      let k = f.zero_at in
      let bs = pack f.widths (with_zero k vs) in
      let below : k ≤ length vs = omega (arith, law.counted, law.placed) in
      let back : unpack 0 f.widths bs ≡ with_zero k vs = unpack_pack f.widths (with_zero k vs) [] 0 refl fit in
      read_numbers_in f bs (length_pack f.widths (with_zero k vs) fit ∙ sym law.sized) (rw back (zero_there k vs below))
      ∙ ap (from_numbers f) (ap (without k) back ∙ without_zero k vs below)

  -- reading what was written gives the contents
  pub read_written : (a : A) → Typed a → f.ok a ≡ true → read_bytes f (to_bytes f a) ≡ reading 0 a
  read_written a t ok = read_numbers (f.numbers a) (law.each a t) (law.fit a t ok) ∙ from_numbers_lem a t ok

  -- the tests that bytes have passed where they are read
  record Passed (bs : List ℕ) (a : A) : Type 0 where
    size : length bs ≡ f.size
    zero_byte_lem : zero_byte f bs ≡ 0
    numbers : from_numbers f (numbers_in f bs) ≡ reading 0 a

  passed : (bs : List ℕ) (a : A) → read_bytes f bs ≡ reading 0 a → Passed bs a
  passed bs a e = go (eqb (length bs) f.size) (eqb (zero_byte f bs) 0) refl refl e
    where
      go : (t u : Bool) → eqb (length bs) f.size ≡ t → eqb (zero_byte f bs) 0 ≡ u
          → cond t (cond u (from_numbers f (numbers_in f bs)) (reading f.malformed f.nothing)) (reading (number_of (Some Length)) f.nothing) ≡ reading 0 a
          → Passed bs a
      go true true len z e = record { size = eqb-true _ _ len; zero_byte_lem = eqb-true _ _ z; numbers = e }
      go true false len z e = absurd (law.refuses (ap (λ (r : ReadAnswer A). r.number) e))
      go false u len z e = let one : number_of (Some Length) ≡ 0 = ap (λ (r : ReadAnswer A). r.number) e in absurd (omega arith)

  -- the zero byte has its place among the numbers, and the other numbers are the fields
  in_widths : (bs : List ℕ) → f.zero_at < length (unpack 0 f.widths bs)
  in_widths bs = omega (arith, law.placed, length_unpack 0 f.widths bs)

  length_numbers : (bs : List ℕ) → length (numbers_in f bs) ≡ f.fields
  length_numbers bs = omega (arith, law.counted, length_without f.zero_at (unpack 0 f.widths bs) (in_widths bs), length_unpack 0 f.widths bs)

  -- what is read is well formed, and has the numbers of the bytes
  pub read_fields : (bs : List ℕ) (a : A) → read_bytes f bs ≡ reading 0 a → (f.ok a ≡ true) × (f.numbers a ≡ numbers_in f bs)
  read_fields bs a e = numbers_back (numbers_in f bs) a (length_numbers bs) (passed bs a e).numbers

  -- and is what they were parsed as
  pub read_parsed : (bs : List ℕ) (a : A) → read_bytes f bs ≡ reading 0 a → f.parse (numbers_in f bs) ≡ Some a
  read_parsed bs a e = (from_parsed (numbers_in f bs) a (passed bs a e).numbers).1

  -- writing what was read gives the bytes
  pub written_read : (bs : List ℕ) (a : A) → Bytes bs → read_bytes f bs ≡ reading 0 a → (f.ok a ≡ true) × (to_bytes f a ≡ bs)
  written_read bs a b e =
      let p = passed bs a e in
      let g = read_fields bs a e in
      let vs = unpack 0 f.widths bs in
      (g.0, rw (g.1, zero_back f.zero_at vs (in_widths bs) p.zero_byte_lem) (pack_unpack f.widths bs 0 b (omega (arith, p.size, law.sized))))

  -- the number of a refusal is not 0
  pub refused_number : (bs : List ℕ) (k : ℕ) → read_bytes f bs ≡ reading k f.nothing → eqb k 0 ≡ false
  refused_number bs k e = ne_eqb k 0 λ z. never (sym law.unread ∙ (read_fields bs f.nothing (rw z at e)).0)

  -- all of it, of the calls; `kept` is what a refused write leaves
  pub round_trip : (kept : List ℕ → List ℕ) → RoundTrip Typed f.ok f.malformed f.size (read_bytes f) (λ a bs. write_bytes f a (kept bs) bs)
  round_trip kept =
      record {
        back = λ a bs t ok size. rw (write_contents f bs a (kept bs) size ok) (refl, read_written a t ok);
        same = λ bs a b e out size. let g = written_read bs a b e in write_contents f out a (kept out) size g.0 ∙ ap (wrote 0) g.1;
        refused =
            λ a bs bad size.
            (ap (λ (w : WriteAnswer). w.number) (write_malformed f bs a (kept bs) size bad), λ cs e. never (sym bad ∙ (read_fields cs a e).0));
      }
