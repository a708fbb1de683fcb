-- The whole listing, as the code puts it together. Assumes nothing.
use Rattle.std.specs.Prelude.{Option, Some, None}
use Prim.Native.Nat.{ℕ, ◌+◌, ◌≤◌, ◌<◌}
use mathlib.Core.Path.{◌≡◌, refl, sym, ap, ◌∙◌}
use mathlib.Core.Bool.{Bool, true, false, cond}
use mathlib.Core.List.{List, [], ◌∷◌, ◌++◌}
use native.Mathlib.Nat.{zero-add}
use native.Mathlib.Omega.{arith}
use lib.Dec.{leb, ltb}
use lib.ListN.{length, take, drop, length-append, length-drop}
use lib.Seq.{sets, sets-eq}
use Rattle.std.specs.Borrow.{MutBor}
use borrow.Author.Tests.{leb-true, leb-false, le-leb, lt-leb, ltb-true, ltb-false, le-ltb}
use Rattle.tally.specs.Limits.{Limits, script_size}
use Rattle.tally.specs.Refusal.{number_of}
use Rattle.tally.specs.declared.Refusal.{Refusal}
use Rattle.script.specs.Parts.{newline, parted}
use Rattle.script.specs.InnerParts.{before}
use Rattle.script.specs.Script.{header_of, malformed, with_header, from_lines, parse}
use Rattle.script.specs.declared.Header.{Header}
use Rattle.script.proofs.HeaderLines.{header_range}
use Rattle.script.proofs.Parting.{parted_there, parted_none, parted_some}
use Rattle.bench_play.specs.Bench.{start}
use Rattle.bench_text.specs.InnerText.{Begins, HasRoom, Appends, Puts}
use Rattle.bench_text.specs.declared.Listing.{Listing}
use Rattle.bench.specs.Listing.{header_line, played_text, malformed_text, script_text, listing, PrintAnswer, printed, over, listing_call}
use Rattle.bench.specs.InnerLines.{events_in, rest_text}
use Rattle.bench.specs.Widths.{max_listing}
use Rattle.bench.proofs.Lengths.{played_length, malformed_length}

-- ---- the script as it is read

module _ (s : List ℕ) where
  pub parse_none : parted newline s ≡ s ∷ [] → parse s ≡ malformed
  unfolding parse
  parse_none alone = ap from_lines alone

  pub parse_there : (a b : List ℕ) → parted newline s ≡ a ∷ parted newline b → parse s ≡ with_header (header_of a) (parted newline b)
  unfolding parse
  parse_there a b split = let r = parted_some newline b in ap from_lines split ∙ rw r.same

-- ---- the listing

module _ (l : Limits) (s : List ℕ) where
  pub listing_long : script_size < length s → listing l s ≡ malformed_text
  unfolding listing
  listing_long h = rw (lt-leb (length s) script_size h)

  module _ (short : length s ≤ script_size) where
    listing_short : listing l s ≡ script_text l (parse s)
    unfolding listing
    listing_short = rw (le-leb (length s) script_size short)

    pub listing_none : parted newline s ≡ s ∷ [] → listing l s ≡ malformed_text
    listing_none alone = listing_short ∙ ap (script_text l) (parse_none s alone)

    module _ (a b : List ℕ) (split : parted newline s ≡ a ∷ parted newline b) where
      read : (r : Option Header) → r ≡ header_of a → listing l s ≡ script_text l (with_header r (parted newline b))
      read r e = listing_short ∙ ap (script_text l) (parse_there s a b split) ∙ rw e

      pub listing_bad : None ≡ header_of a → listing l s ≡ malformed_text
      listing_bad e = read None e

      pub listing_read : (h : Header) → Some h ≡ header_of a → listing l s ≡ header_line h ++ rest_text l (start h) 0 (events_in h.n b)
      unfolding played_text rest_text events_in
      listing_read h e = read (Some h) e ∙ simp zero-add

-- ---- its length

pub listing_length : (l : Limits) (s : List ℕ) → length (listing l s) ≤ max_listing
listing_length l s = go (leb (length s) script_size) refl
  where
    read : length s ≤ script_size → (a b : List ℕ) → parted newline s ≡ a ∷ parted newline b → length b ≤ script_size → (r : Option Header)
        → r ≡ header_of a → length (listing l s) ≤ max_listing
    read short a b split less None e = rw (listing_bad l s short a b split e) malformed_length
    read short a b split less (Some h) e =
        rw (listing_read l s short a b split h e) (played_length l h b (header_range a h (sym e)) less)

    within : length s ≤ script_size → (t : Bool) → ltb (before newline s) (length s) ≡ t → length (listing l s) ≤ max_listing
    within short true e =
        let k = before newline s in
        let split = parted_there newline s (ltb-true k (length s) e) in
        read short (take k s) (drop (k + 1) s) split (omega (arith, length-drop (k + 1) s)) (header_of (take k s)) refl
    within short false e = rw (listing_none l s short (parted_none newline s (ltb-false (before newline s) (length s) e))) malformed_length

    go : (t : Bool) → leb (length s) script_size ≡ t → length (listing l s) ≤ max_listing
    go true e = within (leb-true (length s) script_size e) (ltb (before newline s) (length s)) refl
    go false e = rw (listing_long l s (leb-false (length s) script_size e)) malformed_length

-- ---- the call

-- a listing that begins in a buffer with room for any
pub begun_room : {lent : MutBor (List ℕ)} {begun : Listing} → Begins lent begun → max_listing ≤ length lent.now → HasRoom begun max_listing
begun_room b room = omega (arith, b.place, ap length b.same_bytes, room)

-- a text at the front of a buffer with room for it
over_front : (text xs : List ℕ) → length text ≤ length xs → sets xs 0 text ≡ over text xs
over_front text xs room = rw zero-add at (sets-eq text xs 0 (omega arith))

pub put_over : (text xs ys : List ℕ) (r : ℕ) → length text ≤ length xs → Puts xs 0 text ys r → (r ≡ length text) × (ys ≡ over text xs)
put_over text xs ys r room p = (omega (arith, p.ends), p.bytes ∙ over_front text xs room)

-- what is put into such a listing is what the call answers
pub printed_whole : (l : Limits) (s : List ℕ) {lent : MutBor (List ℕ)} {begun done : Listing} {ys : List ℕ} {k n : ℕ}
    → max_listing ≤ length lent.now → Begins lent begun → Appends begun (listing l s) done
    → ys ≡ done.buffer.now → n ≡ done.at → k ≡ number_of None
    → printed k n ys ≡ listing_call l s lent.now
unfolding listing_call
printed_whole l s {lent} {begun} {done} {ys} {k} {n} room b wrote bytes ends accepted =
    let all : length (listing l s) ≤ length lent.now = omega (arith, listing_length l s, room) in
    let long : n ≡ length (listing l s) = omega (arith, ends, wrote.puts.ends, b.place) in
    let text : ys ≡ over (listing l s) lent.now =
    bytes ∙ wrote.puts.bytes ∙ rw (b.same_bytes, b.place) (over_front (listing l s) lent.now all) in
    rw (accepted, le-ltb (length lent.now) max_listing room, long, text) refl

-- what the call prints lies within its buffer
call_fits : (l : Limits) (s out : List ℕ) → (listing_call l s out).written ≤ length (listing_call l s out).out
unfolding listing_call
call_fits l s out = go (ltb (length out) max_listing)
  where
    short : PrintAnswer
    short = printed (number_of (Some Refusal.Length)) 0 out

    whole : PrintAnswer
    whole = printed (number_of None) (length (listing l s)) (over (listing l s) out)

    go : (t : Bool) → (cond t short whole).written ≤ length (cond t short whole).out
    go true = omega arith
    go false = rw length-append (omega arith)

pub printed_fits : (l : Limits) (s xs ys : List ℕ) (k n : ℕ) → printed k n ys ≡ listing_call l s xs → n ≤ length ys
printed_fits l s xs ys k n e =
    rw (ap (λ (r : PrintAnswer). r.written) e, ap (λ (r : PrintAnswer). r.out) e) (call_fits l s xs)

-- with room for any listing it is accepted
pub printed_accepted : (l : Limits) (s xs ys : List ℕ) (k n : ℕ) → max_listing ≤ length xs → printed k n ys ≡ listing_call l s xs
    → k ≡ number_of None
unfolding listing_call
printed_accepted l s xs ys k n room e = ap (λ (r : PrintAnswer). r.number) (rw (le-ltb (length xs) max_listing room) at e)
