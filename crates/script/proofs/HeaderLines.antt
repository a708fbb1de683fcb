-- A header that is read is in the ranges. Assumes nothing.
use Rattle.std.specs.Prelude.{Option, Some, None}
use Rattle.std.proofs.lemmas.Bool.{and_parts}
use Prim.Native.Nat.{ℕ, ◌≤◌}
use mathlib.Core.Path.{◌≡◌, refl}
use mathlib.Core.Bool.{Bool, true, false, ◌&&◌}
use mathlib.Core.List.{List, [], ◌∷◌}
use native.Mathlib.Omega.{arith}
use borrow.Author.Tests.{leb-true}
use lib.Dec.{leb}
use Rattle.tally.specs.Limits.{min_units, max_units, min_entry, max_entry}
use Rattle.script.specs.Parts.{comma, parted}
use Rattle.script.specs.Script.{two_of, engine_field, in_ranges, header_with, with_numbers, header_fields, header_of}
use Rattle.script.specs.declared.Header.{Header}
use Rattle.tally.specs.declared.Engine.{Engine}

pub ranges : (n entry : ℕ) → in_ranges n entry ≡ true → (min_units ≤ n) × (n ≤ max_units) × (min_entry ≤ entry) × (entry ≤ max_entry)
ranges n entry h =
    let a = and_parts (leb min_units n && leb n max_units && leb min_entry entry) (leb entry max_entry) h in
    let b = and_parts (leb min_units n && leb n max_units) (leb min_entry entry) a.0 in
    let d = and_parts (leb min_units n) (leb n max_units) b.0 in
    (leb-true min_units n d.0, leb-true n max_units d.1, leb-true min_entry entry b.1, leb-true entry max_entry a.1)

pub header_range : (line : List ℕ) (h : Header) → header_of line ≡ Some h → in_ranges h.n h.entry ≡ true
unfolding header_of
header_range line h = of_fields (parted comma line)
  where
    unread : {A : Type 0} → None ≡ Some h → A
    unread e = let z : ◌≡◌ {A = ℕ} 0 1 = cc in absurd (omega arith)

    of_engine : (g : Option Engine) (n entry : ℕ) → in_ranges n entry ≡ true → header_with g n entry ≡ Some h
        → in_ranges h.n h.entry ≡ true
    of_engine (Some g) n entry r e = let q : ◌≡◌ {A = Header} (record { engine = g; n = n; entry = entry }) h = cc in rw (← q) r
    of_engine None n entry r e = unread e

    of_numbers : (f : List ℕ) (p : Option (ℕ × ℕ)) → with_numbers f p ≡ Some h → in_ranges h.n h.entry ≡ true
    of_numbers f (Some (n, entry)) e = go (in_ranges n entry) refl
      where
        go : (t : Bool) → in_ranges n entry ≡ t → in_ranges h.n h.entry ≡ true
        go true r = of_engine (engine_field n f) n entry r (rw r at e)
        go false r = unread (rw r at e)
    of_numbers f None e = unread e

    of_fields : (fs : List (List ℕ)) → header_fields fs ≡ Some h → in_ranges h.n h.entry ≡ true
    of_fields [] e = unread e
    of_fields (f ∷ fs) e = of_numbers f (two_of fs) e
