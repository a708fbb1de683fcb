-- Fields, one after the other. Assumes nothing.
use Prim.Native.Nat.{◌-◌, ◌≤◌}
use mathlib.Core.Path.{◌≡◌, refl}
use mathlib.Core.List.{List, [], ◌∷◌, ◌++◌}
use native.Mathlib.Omega.{arith}
use lib.ListN.{length, get_or, take, drop}
use lib.Seq.{take_all}
use Rattle.script.specs.Parts.{comma}
use Rattle.bench_text.specs.declared.Shown.{Shown}
use Rattle.bench_text.specs.Text.{field_text, fields_text}

-- where there are two or more: the first, and then the others
pub fields_more : (fields : List Shown) → 2 ≤ length fields
    → fields_text fields ≡ field_text (get_or fields 0 Shown.Dash) comma ++ fields_text (take (length fields - 1) (drop 1 fields))
fields_more [] h = absurd (omega arith)
fields_more (s ∷ []) h = absurd (omega arith)
fields_more (s ∷ t ∷ ss) h =
    let all : take (length (s ∷ t ∷ ss) - 1) (t ∷ ss) ≡ t ∷ ss = take_all _ _ (omega arith) in
    rw all refl
