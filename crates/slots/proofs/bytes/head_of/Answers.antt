-- `head_of` meets its contract: the length byte, the KeyUID, and what stays of the zeros.
-- Assumes nothing.
use Rattle.cells.specs.Cells.{zeros}
use Rattle.slots.proofs.CacheLaws.{head_is}
use Rattle.slots.proofs.bytes.head_of.Goals as goal

pub returns : goal.returns
unfolding zeros
returns c = head_is c.args.uid.now c.requires c.copy_from_slice.ensures.after
