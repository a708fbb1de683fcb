-- What is claimed of other limits: whatever call of a unit, of a log or of a message was accepted keeps its answer. Assumes nothing.
use Rattle.std.specs.Prelude.{ℕ, List, ◌≡◌}
use Rattle.tally.specs.Limits.{Limits}
use Rattle.calls.specs.Calls.{start_call, key_on_call, propose_call, deliver_call}
use Rattle.calls.specs.Fields.{read_log_call, write_log_call, read_message_call, write_message_call}

-- what is accepted at the limits o is accepted at l, with the same answer to the last byte
pub record KeepsAnswers (o l : Limits) : Type 0 where
  -- no mileage has a part in starting: a refusal is the same too
  pub start : (engine n unit entry : ℕ) (log image : List ℕ) → start_call l engine n unit entry log image ≡ start_call o engine n unit entry log image
  pub key_on : (log image : List ℕ) → (key_on_call o log image).number ≡ 0 → key_on_call l log image ≡ key_on_call o log image
  pub propose : (log image : List ℕ) (mileage : ℕ) (out : List ℕ) → (propose_call o log image mileage out).number ≡ 0
      → propose_call l log image mileage out ≡ propose_call o log image mileage out
  pub deliver : (log image message out : List ℕ) → (deliver_call o log image message out).number ≡ 0
      → deliver_call l log image message out ≡ deliver_call o log image message out
  pub read_log : (bs fs : List ℕ) → (read_log_call o bs fs).number ≡ 0 → read_log_call l bs fs ≡ read_log_call o bs fs
  pub write_log : (fs bs : List ℕ) → (write_log_call o fs bs).number ≡ 0 → write_log_call l fs bs ≡ write_log_call o fs bs
  pub read_message : (bs fs : List ℕ) → (read_message_call o bs fs).number ≡ 0 → read_message_call l bs fs ≡ read_message_call o bs fs
  pub write_message : (fs bs : List ℕ) → (write_message_call o fs bs).number ≡ 0 → write_message_call l fs bs ≡ write_message_call o fs bs
