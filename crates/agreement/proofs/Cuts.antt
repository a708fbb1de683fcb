-- A cut delivery whose step writes no log is a key-off. Assumes nothing.
use Prim.Native.Nat.{ℕ}
use mathlib.Core.Path.{◌≡◌}
use mathlib.Core.List.{List}
use mathlib.Core.Option.{some}
use lib.ListN.{get_elem?}
use Rattle.tally.specs.Limits.{Limits, Sane}
use Rattle.formats.specs.Messages.{read_message}
use Rattle.formats.specs.Numbers.{Bytes}
use Rattle.consensus.specs.Step.{received}
use Rattle.consensus.specs.Units.{unit_log}
use Rattle.calls.specs.Calls.{unit_of, deliver_call}
use Rattle.calls.proofs.Unwritten.{log_stays}
use Rattle.agreement.specs.Bytes.{ByteWorld, cut, off, after_cut, delivering, step}

-- of an up unit u and a message m that was sent, where the delivery is accepted
pub cut_unwritten : (l : Limits) → Sane l → (n : ℕ) (w : ByteWorld) (u k : ℕ) (out image m : List ℕ) → (w.units u).image ≡ some image
    → get_elem? w.sent k ≡ some m → Bytes (w.units u).log → (deliver_call l (w.units u).log image m out).number ≡ 0
    → unit_log (received (unit_of l (w.units u).log image) (read_message l m).contents).unit ≡ unit_log (unit_of l (w.units u).log image)
    → step l n w (cut u k out) ≡ step l n w (off u)
unfolding step delivering after_cut
cut_unwritten l sane n w u k out image m up sent bytes accepted same =
    rw (up, sent, accepted, log_stays l sane (w.units u).log image m out accepted bytes same)
