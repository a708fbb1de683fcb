-- A script that is read has a header in range, and events of its units. Assumes nothing.
use Rattle.std.specs.Prelude.{Option, Some, None}
use Prim.Native.Nat.{ℕ, ◌<◌}
use mathlib.Core.Path.{◌≡◌, refl, subst}
use mathlib.Core.Bool.{Bool, true, false, cond}
use mathlib.Core.List.{List, [], ◌∷◌}
use borrow.Author.Tests.{le-leb}
use lib.Dec.{leb}
use lib.ListN.{length}
use Rattle.tally.specs.Limits.{Limits, Sane, today, script_size}
use Rattle.tally.proofs.Bounds.{sane_today}
use Rattle.script.specs.Parts.{newline, parted}
use Rattle.script.specs.Script.{in_ranges, header_of, events_of, Script, malformed, script, with_header, from_lines, parse}
use Rattle.script.specs.declared.ScriptEvent.{ScriptEvent}
use Rattle.script.specs.declared.Header.{Header}
use Rattle.script.proofs.EventLines.{event_unit_lem}
use Rattle.script.proofs.HeaderLines.{header_range}
use Rattle.bench.specs.Listing.{played_text, malformed_text, script_text, listing}
use Rattle.bench.proofs.Whole.{listing_long}
use Rattle.bench_history.specs.Covered.{Covered}
use Rattle.bench_history.specs.History.{Below}
use Rattle.bench_history.specs.Listed.{Listed}
use Rattle.bench_history.proofs.Simulation.{units_some}
use Rattle.bench_history.proofs.Theorem.{covered}

-- ---- its events and its header

of_lines : (n : ℕ) → 0 < n → (ps : List (List ℕ)) → Below n (events_of n ps)
unfolding events_of
of_lines n some [] = tt
of_lines n some ([] ∷ []) = tt
of_lines n some ((b ∷ s) ∷ []) = (some, tt)
of_lines n some (p ∷ q ∷ ps) = (event_unit_lem n p some, of_lines n some (q ∷ ps))

abbrev InRange : Header → Type 0
InRange h = in_ranges h.n h.entry ≡ true

-- ---- the script

abbrev pub ScriptIn : Script → Type 0
ScriptIn malformed = Unit
ScriptIn (script h es) = InRange h × Below h.n es

pub script_in : (s : List ℕ) → ScriptIn (parse s)
unfolding parse
script_in s = lines (parted newline s)
  where
    read : (l : List ℕ) (r : Option Header) → header_of l ≡ r → (ps : List (List ℕ)) → ScriptIn (with_header r ps)
    read l (Some h) e ps = let range = header_range l h e in (range, of_lines h.n (units_some h range) ps)
    read l None e ps = tt

    lines : (ls : List (List ℕ)) → ScriptIn (from_lines ls)
    lines [] = tt
    lines (l ∷ []) = tt
    lines (l ∷ p ∷ ps) = read l (header_of l) refl (p ∷ ps)

-- every script that is read is covered
pub covered_script : (l : Limits) → Sane l → (s : List ℕ) (h : Header) (es : List ScriptEvent) → parse s ≡ script h es → Covered l h es
covered_script l sane s h es e =
    let i : ScriptIn (script h es) = subst ScriptIn e (script_in s) in
    covered l sane h i.0 es i.1

-- a script that is not read, of any length
unread_text : (l : Limits) (s : List ℕ) → parse s ≡ malformed → listing l s ≡ malformed_text
unfolding listing
unread_text l s e = go (leb (length s) script_size)
  where
    go : (t : Bool) → cond t (script_text l (parse s)) malformed_text ≡ malformed_text
    go true = rw e
    go false = refl

pub listed : (l : Limits) → Sane l → (s : List ℕ) → Listed l s
unfolding listing played_text
listed l sane s =
    record {
      covered = covered_script l sane s;
      lines = λ h es short e.
          let c = covered_script l sane s h es e in
          rw (le-leb (length s) script_size short, e, c.as_many, ← c.kept);
      too_long = listing_long l s;
      unread = unread_text l s;
    }

-- of the listing that is printed
pub listed_today : (s : List ℕ) → Listed today s
listed_today = listed today sane_today
