-- An event of a row that stands as it must, or changes nothing. Assumes nothing.
use mathlib.Core.Path.{◌≡◌, refl}
use mathlib.Core.Bool.{Bool, true, false, cond}
use Rattle.tally.proofs.Never.{never}
use Rattle.card_history.specs.Cards.{Stage, new, up, down, is_new, is_up, is_down}

pub if_so : {A : Type 0} (P : A → Type 0) (b : Bool) (x y : A) → (b ≡ true → P x) → P y → P (cond b x y)
if_so P true x y f p = f refl
if_so P false x y f p = p

pub is_new_lem : (s : Stage) → is_new s ≡ true → s ≡ new
is_new_lem new e = refl
is_new_lem up e = never e
is_new_lem down e = never e

pub is_up_lem : (s : Stage) → is_up s ≡ true → s ≡ up
is_up_lem new e = never e
is_up_lem up e = refl
is_up_lem down e = never e

pub is_down_lem : (s : Stage) → is_down s ≡ true → s ≡ down
is_down_lem new e = never e
is_down_lem up e = never e
is_down_lem down e = refl
