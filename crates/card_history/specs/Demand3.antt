-- Demand 3 of every entry, over every history of cards. Assumes nothing.
use Rattle.std.specs.Prelude.{ℕ, ◌≡◌, true, false, cond, ◌&&◌, eqb}
use mathlib.Core.List.{List, [], ◌∷◌, ◌++◌, Memᴰ}
use Rattle.std.proofs.Math.Option.{Option, none, some}
use Rattle.tally.specs.Limits.{Limits}
use Rattle.tally.specs.Quorum.{quorum_of}
use Rattle.tally.specs.declared.Engine.{Engine}
use Rattle.contents.specs.declared.Message.{Message}
use Rattle.contents.specs.declared.State.{State}
use Rattle.formats.specs.Messages.{read_message}
use Rattle.cards.specs.Calls.{row_at}
use Rattle.cards.specs.Rows.{row_log, row_image}
use Rattle.cards.specs.declared.CardRow.{CardRow}
use Rattle.agreement.specs.Worlds.{World, Decision, run, Given, Locked, View, Many, Seconded}
use Rattle.card_history.specs.Cards.{CardUnit, OfEntry, CardWorld, begun, CardEvent, is_new, is_up, step, Lawful}

-- ---- a world read at entry k

-- one more in front, if any
abbrev pub cons_if : {A : Type 0} → Option A → List A → List A
cons_if none xs = xs
cons_if (some x) xs = x ∷ xs

-- what f gives of the elements of a list, in their order
abbrev pub pick : {A B : Type 0} → (A → Option B) → List A → List B
pick f [] = []
pick f (x ∷ xs) = cons_if (f x) (pick f xs)

-- a proposal or a decision of entry k
abbrev pub what_of : {A : Type 0} → ℕ → OfEntry A → Option A
what_of k x = cond (eqb x.entry k) (some x.what) none

-- bytes that are read as a message of entry k
unfoldable pub entry_message : Limits → ℕ → List ℕ → Option Message
entry_message l k bs =
    let r = read_message l bs in cond (eqb r.number 0 && eqb r.contents.entry k) (some r.contents) none

-- the proposals and decisions of the entry
abbrev pub read_at : ℕ → CardWorld → World CardUnit (List ℕ)
read_at k w = record { units = w.units; sent = w.sent; proposed = pick (what_of k) w.proposed; decided = pick (what_of k) w.decided }

-- a unit whose row k is started has the round and proposal in that row's log and, while the row is up, those in its image
abbrev pub view : Limits → ℕ → View CardUnit (List ℕ)
view l k =
    record {
      HasLog = λ x s.
          (is_new (x.stage k) ≡ false) × (((row_log l (row_at x.rows k)).number ≡ 0) × ((row_log l (row_at x.rows k)).contents.state ≡ s));
      IsUp = λ x. is_up (x.stage k) ≡ true;
      HasImage = λ x s.
          (is_up (x.stage k) ≡ true) × (((row_image l (row_at x.rows k)).number ≡ 0) × ((row_image l (row_at x.rows k)).contents.state ≡ s));
      Reads = λ bs m. entry_message l k bs ≡ some m;
    }

-- ---- demand 3

module _ (l : Limits) (g : Engine) (n k : ℕ) where
  -- entry k at the end of the events es from the world w on
  abbrev pub run_at : CardWorld → List CardEvent → World CardUnit (List ℕ)
  run_at w es = read_at k (run (step l g n) w es)

  -- d is among the decisions of the entry reported by then, those of w too
  abbrev pub Reported : CardWorld → List CardEvent → Decision → Type 0
  Reported w es d = Memᴰ d (run_at w es).decided

  -- demand 3 of entry k, of the events es from the world w on: the claims of agreement's `Agreed`, of every unit whose row k is started
  pub record AgreedAt (w : CardWorld) (es : List CardEvent) : Type 0 where
    -- no two decisions differ
    pub same : (a b : Decision) → Reported w es a → Reported w es b → a.mileage ≡ b.mileage
    -- each was proposed before: the mileage of each decision reported by an event was given by an accepted proposal event of the entry before
    -- that event
    pub proposed : (before after : List CardEvent) (e : CardEvent) → es ≡ before ++ (e ∷ after) → (d : Decision)
        → Reported w (before ++ (e ∷ [])) d → Given d.mileage (run_at w before)
    -- no log, at any time, in a round above a decision's has another proposal
    pub logs : (before after : List CardEvent) → es ≡ before ++ after → (u : ℕ) (s : State) → (view l k).HasLog ((run_at w before).units u) s
        → (d : Decision) → Reported w es d → Locked d s
    -- and no image of an up row
    pub images : (before after : List CardEvent) → es ≡ before ++ after → (u : ℕ) (s : State) → (view l k).HasImage ((run_at w before).units u) s
        → (d : Decision) → Reported w es d → Locked d s
    -- of every started row these two speak: its log is read, and while it is up its image
    pub logs_read : (u : ℕ) → is_new (((run_at w es).units u).stage k) ≡ false → (s : State) × (view l k).HasLog ((run_at w es).units u) s
    pub images_read : (u : ℕ) → (view l k).IsUp ((run_at w es).units u) → (s : State) × (view l k).HasImage ((run_at w es).units u) s
    -- a decision's round is the one whose SECONDs agreed: a quorum of units has sent them
    pub seconded : (d : Decision) → Reported w es d → Many n (quorum_of g n) (Seconded (view l k) (run_at w es) d)

-- for every engine and n, whatever the cards hold at the beginning, for every list of events, and for every entry: decisions are the same, each
-- was proposed before, logs and images in a round above a decision's have its proposal, all are read, and a quorum of SECONDs agreed
abbrev pub CardDemand3 : Limits → Type 0
CardDemand3 l =
    (g : Engine) (n : ℕ) (cards : ℕ → List CardRow) (es : List CardEvent) → Lawful l g n (begun cards) es
    → (k : ℕ) → AgreedAt l g n k (begun cards) es
