-- `identity` meets its contract: the part that is lent is the front of the slot.
-- Assumes nothing.
use Rattle.std.proofs.Common.{◌*◌}
use Rattle.cells.proofs.CellsLaws.{lent_is}
use Rattle.rules.specs.Numbers.{slot_width, mark_width}
use Rattle.drive.proofs.io.identity.Goals as goal

pub returns : goal.returns
returns c = lent_is (c.args.place * slot_width) mark_width c.args.keys.now
