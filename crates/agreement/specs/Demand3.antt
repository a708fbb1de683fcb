-- Demand 3 over every history. Assumes nothing.
use Rattle.std.specs.Prelude.{ℕ, ◌<◌, ◌≡◌, List}
use Rattle.std.proofs.Math.Option.{some}
use Rattle.tally.specs.Limits.{Limits}
use Rattle.formats.specs.Formats.{reading}
use Rattle.formats.specs.Images.{read_image}
use Rattle.formats.specs.Logs.{read_log}
use Rattle.formats.specs.Messages.{read_message}
use Rattle.agreement.specs.Bytes.{UnitBytes, Event, start_of, begun, step, Lawful}
use Rattle.agreement.specs.Worlds.{Setup, View, Agreed}

-- a unit has the round and proposal in its log and, while up, those in its image
abbrev pub view : Limits → View UnitBytes (List ℕ)
view l =
    record {
      HasLog = λ x s. ((read_log l x.log).number ≡ 0) × ((read_log l x.log).contents.state ≡ s);
      IsUp = λ x. (bs : List ℕ) × (x.image ≡ some bs);
      HasImage = λ x s. (bs : List ℕ) × ((x.image ≡ some bs) × (((read_image l bs).number ≡ 0) × ((read_image l bs).contents.state ≡ s)));
      Reads = λ bs m. read_message l bs ≡ reading 0 m;
    }

-- for every engine, n and entry, whatever the buffers held before the start, and for every list of events: decisions are the same, each was
-- proposed before, logs and images in a round above a decision's have its proposal, all are read, and a quorum of SECONDs agreed
abbrev pub Demand3 : Limits → Type 0
Demand3 l =
    (c : Setup) (logs images : ℕ → List ℕ) → ((u : ℕ) → u < c.n → (start_of l c logs images u).number ≡ 0)
    → (es : List Event) → Lawful l c.n (begun l c logs images) es
    → Agreed c (view l) (step l c.n) (begun l c logs images) es
