-- The message of a load, as a call from C leaves it: 07 0F for an output of fewer
-- than 408 bytes, then 07 17 for a key of other than 32 bytes, then 07 18 for an
-- empty or too long KeyUID, and then nothing is written.
-- Assumes nothing.
use Rattle.std.specs.Prelude.{List, ℕ, Result, Ok, Err}
use Rattle.rules.specs.Answer.{Answer}
use Rattle.rules.specs.declared.Granted.TheVariants.{Done}
use Rattle.rules.specs.Answers.{number}
use Rattle.kmip.specs.declared.WriteError.{WriteError}
use Rattle.kmip.specs.Refusals.{write_refusal}
use Rattle.kmip.specs.Writing.{write_message}

abbrev pub message_answer : Result ℕ WriteError → Answer
message_answer (Ok n) = Ok Done
message_answer (Err e) = Err (write_refusal e)

abbrev pub message_length : Result ℕ WriteError → ℕ
message_length (Ok n) = n
message_length (Err e) = 0

pub record CMessage : Type 0 where
  pub number : ℕ
  pub bytes : ℕ
  pub out : List ℕ

unfoldable pub c_message : ℕ → ℕ → List ℕ → List ℕ → List ℕ → CMessage
c_message ns tag uid key out =
    let wrote = write_message ns tag uid key out in
    record { number = number (message_answer wrote.result); bytes = message_length wrote.result; out = wrote.out }
