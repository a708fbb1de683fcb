-- A test that failed was not passed. Assumes nothing.
use mathlib.Core.Path.{◌≡◌}
use mathlib.Core.Bool.{true, false, false≢true}

pub never : {A : Type 0} → false ≡ true → A
never h = absurd (false≢true h)
