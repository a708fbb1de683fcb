-- The lines before a line, and its own. Assumes nothing.
use Prim.Native.Nat.{ℕ, ◌<◌}
use mathlib.Core.List.{List, [], ◌∷◌, ◌++◌}
use Rattle.script.specs.Script.{event_unit}
use Rattle.script.specs.declared.ScriptEvent.{ScriptEvent}
use Rattle.bench_history.specs.History.{Below}

pub below_parts : (n : ℕ) (before : List ScriptEvent) (e : ScriptEvent) (after : List ScriptEvent) → Below n (before ++ (e ∷ after))
    → Below n before × (event_unit e < n)
below_parts n [] e after h = (tt, h.0)
below_parts n (x ∷ before) e after h = let r = below_parts n before e after h.1 in ((h.0, r.0), r.1)
