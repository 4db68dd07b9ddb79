-- `to_slot` meets its contract: the checks of a load.
-- Assumes nothing.
use Rattle.frames.proofs.KindsLaws.{slot_named}
use Rattle.frames.proofs.kinds.to_slot.Goals as goal

pub returns : goal.returns
returns g c =
    slot_named g.row.N c.args.f.now c.namespace_of.ensures c.tag_of.ensures c.in-len5-up.len_at_least c.in_ok-l.ensures c.if-f-l.false
