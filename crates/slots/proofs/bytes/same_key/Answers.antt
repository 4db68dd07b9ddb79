-- `same_key` meets its contract: what lies behind the head is the slot's key.
-- Assumes nothing.
use Rattle.cells.specs.Cells.{part}
use Rattle.rules.specs.Slots.{key_of}
use Rattle.slots.proofs.bytes.same_key.Goals as goal

pub returns : goal.returns
unfolding key_of part
returns c = c.equal.ensures
