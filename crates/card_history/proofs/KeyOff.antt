-- A row that is turned off, and the key of a whole bike: a key-off of every row. Assumes nothing.
use Prim.Native.Nat.{ℕ, zero, suc, ◌-◌, ◌≤◌, ◌<◌}
use mathlib.Core.Path.{◌≡◌, refl, sym, ap, ◌∙◌}
use mathlib.Core.Bool.{Bool, true, false, cond, ◌&&◌}
use mathlib.Core.List.{List}
use native.Mathlib.Omega.{arith}
use lib.Dec.{eqb, leb}
use lib.ListN.{length}
use lib.Seq.{get_or-set_other}
use borrow.Author.Tests.{eqb-true, eqb-false, eq-eqb, ne_eqb, leb-true, leb-false, le-leb, lt-leb}
use Rattle.tally.specs.Limits.{Limits}
use Rattle.tally.specs.declared.Engine.{Engine}
use Rattle.tally.proofs.Never.{never}
use Rattle.cards.specs.Calls.{row_at}
use Rattle.cards.specs.Rows.{no_row}
use Rattle.cards.specs.declared.CardRow.{CardRow}
use Rattle.cards.proofs.Calls.{kept_part}
use Rattle.agreement.specs.Worlds.{run}
use Rattle.card_history.specs.Cards.{Stage, new, up, down, CardWorld, off, turned_off, next, is_up, step}
use Rattle.card_history.specs.Claims.{Placed, off_all, lowered, RowsOff, up_to_row}
use Rattle.card_history.proofs.Calls.{named}

-- ---- a row that is turned off

-- every row keeps its log
pub off_logs : (rows : List CardRow) (k j : ℕ) (lost : CardRow) → (row_at (turned_off rows k lost).rows j).log ≡ (row_at rows j).log
off_logs rows k j lost = go (eqb (j - 1) (k - 1)) refl
  where
    go : (b : Bool) → eqb (j - 1) (k - 1) ≡ b → (row_at (turned_off rows k lost).rows j).log ≡ (row_at rows j).log
    go true e = rw (eqb-true (j - 1) (k - 1) e) (kept_part (λ (r : CardRow). r.log) rows (k - 1) _ refl)
    go false e = ap (λ (z : CardRow). z.log) (get_or-set_other rows (k - 1) (j - 1) _ no_row (eqb-false (j - 1) (k - 1) e))

-- and every other row its image
pub off_others : (rows : List CardRow) (k j : ℕ) (lost : CardRow) → 1 ≤ k → 1 ≤ j → eqb j k ≡ false
    → row_at (turned_off rows k lost).rows j ≡ row_at rows j
off_others rows k j lost hk hj e = get_or-set_other rows (k - 1) (j - 1) _ no_row (λ q. eqb-false j k e (omega (arith, q)))

-- ---- the key of a whole bike

module _ (l : Limits) (g : Engine) (n u : ℕ) where
  -- of a row that is up, and of one that is not
  off_up : (k : ℕ) → 1 ≤ k → (w : CardWorld) (lost : CardRow) → (w.units u).stage k ≡ up
      → RowsOff u (λ j. eqb j k) w (next w u k (turned_off (w.units u).rows k lost))
  unfolding next
  off_up k h w lost e =
      record {
        stages = λ j. rw (eq-eqb u u refl) (go j (eqb j k) refl);
        logs = λ j. rw (eq-eqb u u refl) (off_logs (w.units u).rows k j lost);
        rows = λ j i q. rw (eq-eqb u u refl) (off_others (w.units u).rows k j lost h i q);
        others = λ v q. rw q;
        sent = refl;
        proposed = refl;
        decided = refl;
      }
    where
      go : (j : ℕ) (b : Bool) → eqb j k ≡ b
          → cond b down ((w.units u).stage j) ≡ cond b (lowered ((w.units u).stage j)) ((w.units u).stage j)
      go j true q = rw (eqb-true j k q, e)
      go j false q = refl

  -- nothing changes where none of the rows is up
  off_none : (these : ℕ → Bool) (w : CardWorld) → ((j : ℕ) → these j ≡ true → (w.units u).stage j ≡ lowered ((w.units u).stage j))
      → RowsOff u these w w
  off_none these w e =
      record {
        stages = λ j. go j (these j) refl;
        logs = λ j. refl;
        rows = λ j h q. refl;
        others = λ v q. refl;
        sent = refl;
        proposed = refl;
        decided = refl;
      }
    where
      go : (j : ℕ) (b : Bool) → these j ≡ b → (w.units u).stage j ≡ cond b (lowered ((w.units u).stage j)) ((w.units u).stage j)
      go j true q = e j q
      go j false q = refl

  one_off : (k : ℕ) → 1 ≤ k → (w : CardWorld) (lost : CardRow) → RowsOff u (λ j. eqb j k) w (step l g n w (off u k lost))
  unfolding step
  one_off k h w lost = go ((w.units u).stage k) refl
    where
      is_low : ((w.units u).stage k ≡ lowered ((w.units u).stage k)) → RowsOff u (λ j. eqb j k) w w
      is_low e = off_none (λ j. eqb j k) w (λ j q. rw (eqb-true j k q) e)

      go : (s : Stage) → (w.units u).stage k ≡ s → RowsOff u (λ j. eqb j k) w (cond (is_up s) (next w u k (turned_off (w.units u).rows k lost)) w)
      go new e = is_low (rw e)
      go up e = off_up k h w lost e
      go down e = is_low (rw e)

  -- rows 1 to k + 1 are row k + 1 and rows 1 to k
  more : (k j : ℕ) (s : Stage) (t : Bool) → eqb j (suc k) ≡ t
      → cond (up_to_row k j) (lowered (cond t (lowered s) s)) (cond t (lowered s) s) ≡ cond (up_to_row (suc k) j) (lowered s) s
  more k j s true e =
      let q = eqb-true j (suc k) e in
      rw (le-leb 1 j (omega (arith, q)), lt-leb j k (omega (arith, q)), le-leb j (suc k) (omega (arith, q)))
  more k j s false e = go (leb j k) refl
    where
      go : (b : Bool) → leb j k ≡ b → cond (leb 1 j && b) (lowered s) s ≡ cond (up_to_row (suc k) j) (lowered s) s
      go true q = rw (le-leb j (suc k) (omega (arith, leb-true j k q)))
      go false q = rw (lt-leb j (suc k) (omega (arith, leb-false j k q, eqb-false j (suc k) e)))

  -- a row above them is none of these
  above : (k j : ℕ) → 1 ≤ j → up_to_row k j ≡ false → k < j
  above k j h q = leb-false j k (rw (le-leb 1 j h) at q)

  pub all_off : (lost : ℕ → CardRow) (k : ℕ) (w : CardWorld) → RowsOff u (up_to_row k) w (run (step l g n) w (off_all u lost k))
  unfolding run
  all_off lost zero w = off_none (up_to_row zero) w (λ j q. never (sym (none j (leb 1 j) refl) ∙ q))
    where
      none : (j : ℕ) (b : Bool) → leb 1 j ≡ b → (b && leb j 0) ≡ false
      none j true e = lt-leb j 0 (leb-true 1 j e)
      none j false e = refl
  all_off lost (suc k) w =
      let a = one_off (suc k) (omega arith) w (lost (suc k)) in
      let b = all_off lost k (step l g n w (off u (suc k) (lost (suc k)))) in
      record {
        stages = λ j. b.stages j ∙ rw (a.stages j) (more k j ((w.units u).stage j) (eqb j (suc k)) refl);
        logs = λ j. b.logs j ∙ a.logs j;
        rows = λ j h q.
            let up = above (suc k) j h q in
            b.rows j h (rw (le-leb 1 j h, lt-leb j k (omega (arith, up)))) ∙ a.rows j h (ne_eqb j (suc k) (λ e. omega (arith, up, e)));
        others = λ v q. b.others v q ∙ a.others v q;
        sent = b.sent ∙ a.sent;
        proposed = b.proposed ∙ a.proposed;
        decided = b.decided ∙ a.decided;
      }

  -- with every row of the card none is up
  pub bike_off : (lost : ℕ → CardRow) (w : CardWorld) → Placed w → (j : ℕ)
      → is_up (((run (step l g n) w (off_all u lost (length (w.units u).rows))).units u).stage j) ≡ false
  bike_off lost w placed j = rw ((all_off lost count w).stages j) (go ((w.units u).stage j) refl (up_to_row count j) refl)
    where
      count : ℕ
      count = length (w.units u).rows

      go : (s : Stage) → (w.units u).stage j ≡ s → (b : Bool) → up_to_row count j ≡ b → is_up (cond b (lowered s) s) ≡ false
      go new e true q = refl
      go new e false q = refl
      go up e true q = refl
      go up e false q =
          let p = named (w.units u).rows j (placed u j (rw e)) in
          never (sym q ∙ rw (le-leb 1 j p.0, le-leb j count p.1))
      go down e true q = refl
      go down e false q = refl
