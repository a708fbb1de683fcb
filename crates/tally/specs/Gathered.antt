-- What the estimates gathered show. A list of them is in rising order of sender. Assumes nothing.
use Rattle.std.specs.Prelude.{ℕ, Bool, true, false, cond, ◌&&◌, List, [], ◌∷◌, eqb, leb}
use Rattle.tally.specs.Count.{passing}
use Rattle.tally.specs.declared.Estimate.{Estimate}
use Rattle.tally.specs.declared.Estimate.TheVariants.{Blank, Split, Mileage}

-- some mileage, whichever
abbrev pub any_mileage : Estimate → Bool
any_mileage Blank = false
any_mileage Split = false
any_mileage (Mileage w) = true

-- the mileage v
abbrev pub has_value : ℕ → Estimate → Bool
has_value v Blank = false
has_value v Split = false
has_value v (Mileage w) = eqb w v

-- how many of es are the mileage v
unfoldable pub holders : ℕ → List Estimate → ℕ
holders v es = passing (has_value v) es

-- all of es are the mileage v
unfoldable pub all_hold : ℕ → List Estimate → Bool
all_hold v [] = true
all_hold v (e ∷ es) = has_value v e && all_hold v es

-- the common mileage, or split if they differ: B 30 to 33 and 40, R 31
unfoldable pub common : List Estimate → Estimate
common [] = Split
common (Blank ∷ es) = Split
common (Split ∷ es) = Split
common (Mileage v ∷ es) = cond (all_hold v es) (Mileage v) Split

-- the first of es that passes the test P, or blank
unfoldable pub first_passing : (Estimate → Bool) → List Estimate → Estimate
first_passing P [] = Blank
first_passing P (e ∷ es) = cond (P e) e (first_passing P es)

-- the mileage seen, if any: the lowest sender's: B 42
unfoldable pub lowest : List Estimate → Estimate
lowest es = first_passing any_mileage es

-- a mileage that at least `need` of es are
unfoldable pub leads : ℕ → List Estimate → Estimate → Bool
leads need es Blank = false
leads need es Split = false
leads need es (Mileage v) = leb need (holders v es)

-- the majority mileage, or blank if there is none, where `need` of those gathered are a majority: R 32 and 33;
-- where `need` is over half of them no two mileages have it, so that it does not matter where the search begins
unfoldable pub majority : ℕ → List Estimate → Estimate
majority need es = first_passing (leads need es) es
