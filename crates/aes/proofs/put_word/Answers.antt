-- `aes::put_word` meets its contract: four bytes copied, where there is room.
-- Assumes nothing.
use mathlib.Core.Path.{ap, ◌∙◌}
use native.Mathlib.Omega.{arith}
use Rattle.cells.specs.Cells.{write}
use Rattle.cells.proofs.CellsLaws.{back, within_yes}
use Rattle.aes.proofs.put_word.Goals as goal

pub returns-then-bytes-at-ge4 : goal.returns-then-bytes-at-ge4
returns-then-bytes-at-ge4 c =
    let s = c.args in
    back s.at 4 _ s.bytes.now ∙ ap (λ v. write s.at 4 v s.bytes.now) (c.copy_from_slice.ensures.after ∙ c.to_be_bytes-word.ensures)
    ∙ (rw (within_yes s.at 4 s.bytes.now (omega arith)))
