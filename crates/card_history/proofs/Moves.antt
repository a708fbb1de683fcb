-- The contents of an entry move by one event of its own row: what each event over contents makes of a unit. Assumes nothing.
use Prim.Native.Nat.{ℕ, ◌<◌}
use mathlib.Core.Path.{◌≡◌, refl, ap, subst}
use mathlib.Core.List.{[], ◌∷◌, ◌++◌}
use mathlib.Core.Option.{some}
use lib.ListN.{get_elem?}
use borrow.Author.Tests.{eq-eqb, lt-ltb}
use Rattle.tally.specs.Limits.{Limits}
use Rattle.tally.specs.Refusal.{number_of}
use Rattle.contents.specs.declared.Message.{Message}
use Rattle.consensus.specs.Conditions.{first_refusal}
use Rattle.consensus.specs.Methods as D
use Rattle.consensus.specs.Step.{recovered}
use Rattle.consensus.specs.Units.{unit_log, down_unit, at_log}
use Rattle.consensus.specs.declared.Power.TheVariants.{Down, Up}
use Rattle.consensus.specs.declared.Unit as U
use Rattle.agreement.specs.Contents as C
use Rattle.agreement.specs.Contents.{ContentsWorld}
use Rattle.agreement.specs.Worlds.{Setup, change, give}
use Rattle.agreement.proofs.History.{Inv, answer_added, after_is}
use Rattle.card_history.proofs.Entry.{Moves, by_event}

-- ---- units

pub off_unit : (x : U.Unit) → x.power ≡ Up → (D.key_off x).unit ≡ down_unit (unit_log x)
unfolding D.key_off D.unless first_refusal
off_unit x e = rw e

pub on_unit : (x : U.Unit) → x.power ≡ Down → (D.key_on x).unit ≡ recovered x
unfolding D.key_on D.unless first_refusal recovered
on_unit x e = rw e

pub recovered_up : (x : U.Unit) → (recovered x).power ≡ Up
unfolding recovered at_log
recovered_up x = refl

pub down_unit_lem : (x : U.Unit) → ((down_unit (unit_log x)).power ≡ Down) × (unit_log (down_unit (unit_log x)) ≡ unit_log x)
unfolding down_unit at_log
down_unit_lem x = (refl, refl)

-- ---- events of unit u

module _ (l : Limits) (c : Setup) (W : ContentsWorld) (inv : Inv l c W) (u : ℕ) (below : u < c.n) where
  moved : (e : C.ContentsEvent) (W' : ContentsWorld) → C.step l c.n W e ≡ W' → Moves l c W W'
  moved e W' same = subst (Moves l c W) same (by_event l c W inv e)

  pub moves_proposal : (v : ℕ) → number_of (D.propose l (W.units u) v).refusal ≡ 0
      → Moves l c W (answer_added W (W.proposed ++ (record { unit = u; mileage = v } ∷ [])) u 0 (D.propose l (W.units u) v))
  unfolding C.step C.apply C.after_proposal
  moves_proposal v z =
      moved (C.proposal u v) _
      (rw (lt-ltb u c.n below, eq-eqb (number_of (D.propose l (W.units u) v).refusal) 0 z)
      (ap (λ (y : ContentsWorld). give y (record { unit = u; mileage = v })) (after_is W u 0 (D.propose l (W.units u) v))))

  module _ (m : Message) (k : ℕ) (there : get_elem? W.sent k ≡ some m) where
    pub moves_delivery : Moves l c W (answer_added W W.proposed u m.round (D.deliver l (W.units u) m))
    unfolding C.step C.apply C.delivering
    moves_delivery = moved (C.delivery u k) _ (rw (lt-ltb u c.n below, there) (after_is W u m.round (D.deliver l (W.units u) m)))

    pub moves_cut : number_of (D.deliver l (W.units u) m).refusal ≡ 0
        → Moves l c W (change W u (D.key_off (D.deliver l (W.units u) m).unit).unit)
    unfolding C.step C.apply C.delivering C.after_cut
    moves_cut z = moved (C.cut u k) _ (rw (lt-ltb u c.n below, there, eq-eqb (number_of (D.deliver l (W.units u) m).refusal) 0 z))

  pub moves_off : Moves l c W (change W u (D.key_off (W.units u)).unit)
  unfolding C.step C.apply
  moves_off = moved (C.off u) _ (rw (lt-ltb u c.n below))

  pub moves_on : Moves l c W (change W u (D.key_on (W.units u)).unit)
  unfolding C.step C.apply
  moves_on = moved (C.on u) _ (rw (lt-ltb u c.n below))
