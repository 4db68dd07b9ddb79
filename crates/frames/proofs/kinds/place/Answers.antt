-- `place` meets its contract: as many bytes are lent of each.
-- Assumes nothing.
use Rattle.std.proofs.Common.{◌+◌, take}
use Rattle.rules.specs.Numbers.{key_size}
use Rattle.cells.proofs.CellsLaws.{back}
use Rattle.frames.proofs.kinds.place.Goals as goal

pub returns : goal.returns
returns c =
    let s = c.args in
    rw c.swap_with_slice.ensures.after (back 5 (s.l + key_size) (take (s.l + key_size) s.brought.now) s.frame.now)
