-- `write_refusal` meets its contract: the number, and behind it what 07 01 tells.
-- Assumes nothing.
use Rattle.digits.proofs.WritingLaws.{number_alone, number_told}
use Rattle.digits.proofs.writing.write_refusal.Goals as goal

pub returns-in_default : goal.returns-in_default
returns-in_default c =
    c.write_line.ensures _ (number_alone c.args.refusal c.from.ensures c.from.type_inv c.to_be_bytes.ensures c.in_default.not-NotAFrameLine)

pub returns : goal.returns
returns c =
    c.write_line-2.ensures _
    (number_told c.args.refusal c.from.ensures c.from.type_inv c.to_be_bytes.ensures c.in-NotAFrameLine.why c.in-NotAFrameLine.is
    c.told-reason.ensures c.to_le_bytes.ensures)
