-- The refusals that the errors of reading and writing a message are told as. A
-- reader always lends room enough, so that no room is never told.
-- Assumes nothing.
use Rattle.rules.specs.declared.Refusal.{Refusal}
use Rattle.rules.specs.Answers.{07·0F, 07·17, 07·18}
use Rattle.kmip.specs.declared.ReadError.{ReadError}
use Rattle.kmip.specs.declared.ReadError.TheVariants as read
use Rattle.kmip.specs.declared.WriteError.{WriteError}
use Rattle.kmip.specs.declared.WriteError.TheVariants as write

abbrev pub read_refusal : ReadError → Refusal
read_refusal read.NoRoom = 07·17
read_refusal read.NoLoad = 07·17
read_refusal read.BadKeyUid = 07·18

abbrev pub write_refusal : WriteError → Refusal
write_refusal write.NoRoom = 07·0F
write_refusal write.NoKey = 07·17
write_refusal write.BadKeyUid = 07·18
