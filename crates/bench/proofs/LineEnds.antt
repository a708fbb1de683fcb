-- The lines of a script, one after the other. Assumes nothing.
use Prim.Native.Nat.{ℕ, ◌+◌, ◌≤◌, ◌<◌}
use mathlib.Core.Path.{◌≡◌, refl, ap, ◌∙◌}
use mathlib.Core.List.{List, [], ◌∷◌}
use native.Mathlib.Nat.{le_refl}
use native.Mathlib.Omega.{arith}
use lib.ListN.{length, take, drop, drop_of_length-le}
use Rattle.std.specs.List.{AllByRecursion}
use Rattle.script.specs.Parts.{newline, parted}
use Rattle.script.specs.InnerParts.{before}
use Rattle.script.specs.Script.{event_of, event_unit, unended, events_of}
use Rattle.script.specs.declared.ScriptEvent.{ScriptEvent}
use Rattle.script.proofs.EventLines.{event_unit_lem}
use Rattle.script.proofs.Parting.{parted_there, parted_none, parted_some}
use Rattle.bench.specs.InnerLines.{events_in, LineAt}

module _ (n : ℕ) where
  -- at the end no event is left
  pub none_left : (s : List ℕ) → length s ≡ 0 → events_in n s ≡ []
  unfolding events_in events_of
  none_left [] h = refl
  none_left (b ∷ s) h = absurd (omega arith)

  -- a part after another is one more line
  events_line : (p s : List ℕ) → events_of n (p ∷ parted newline s) ≡ event_of n p ∷ events_in n s
  unfolding events_in events_of
  events_line p s = let r = parted_some newline s in rw r.same

  -- a line that byte 10 ends, as code parts it
  pub ended_events : (s p q : List ℕ) → parted newline s ≡ p ∷ parted newline q → events_in n s ≡ event_of n p ∷ events_in n q
  unfolding events_in
  ended_events s p q there = ap (events_of n) there ∙ events_line p q

  -- bytes after the last byte 10
  pub left_events : (s : List ℕ) → 0 < length s → parted newline s ≡ s ∷ [] → events_in n s ≡ ScriptEvent.Malformed ∷ []
  unfolding events_in events_of
  left_events [] some alone = absurd (omega arith)
  left_events (b ∷ s) some alone = ap (events_of n) alone

  -- the same, by how many bytes stand before the first byte 10: where the next line begins, and that the event's unit is on the bench
  module _ (s : List ℕ) where
    pub line_ended : before newline s < length s → LineAt n s (event_of n (take (before newline s) s)) (before newline s + 1)
    line_ended inside =
        record {
          events = ended_events s (take (before newline s) s) (drop (before newline s + 1) s) (parted_there newline s inside);
          later = omega arith;
          within = omega (arith, inside);
          unit = λ some. event_unit_lem n (take (before newline s) s) some;
        }

    pub line_left : 0 < length s → length s ≤ before newline s → LineAt n s ScriptEvent.Malformed (length s)
    line_left some outside =
        let past : drop (length s) s ≡ [] = drop_of_length-le s (le_refl (length s)) in
        let none : events_in n (drop (length s) s) ≡ [] = rw past (none_left [] refl) in
        record {
          events = left_events s some (parted_none newline s outside) ∙ rw none;
          later = some;
          within = le_refl (length s);
          unit = λ there. there;
        }

  -- each event is of a unit of the bench
  abbrev pub Within : List ScriptEvent → Type 0
  Within = AllByRecursion (λ e. event_unit e < n)

  module _ (some : 0 < n) where
    left_within : (p : List ℕ) → Within (unended p)
    left_within [] = tt
    left_within (b ∷ p) = (some, tt)

    parts_within : (ps : List (List ℕ)) → Within (events_of n ps)
    unfolding events_of
    parts_within [] = tt
    parts_within (p ∷ []) = left_within p
    parts_within (p ∷ q ∷ ps) = (event_unit_lem n p some, parts_within (q ∷ ps))

    pub events_within : (s : List ℕ) → Within (events_in n s)
    unfolding events_in
    events_within s = parts_within (parted newline s)
