-- An item's head is eight bytes.
-- Assumes nothing.
use Rattle.rules.specs.Ttlv.{head}
use Rattle.ttlv.proofs.Item.head.Goals as goal

pub returns : goal.returns
unfolding head
returns c =
    rw (c.to_be_bytes.ensures, c.to_be_bytes-2.ensures)
