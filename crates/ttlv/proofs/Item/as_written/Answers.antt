-- `as_written` meets its contract: a structure has the length of its members.
-- Assumes nothing.
use native.Mathlib.Omega.{arith}
use Rattle.ttlv.proofs.RoomLaws.{members_room}
use Rattle.ttlv.proofs.Item.as_written.Goals as goal

pub overflow_cast-length : goal.overflow_cast-length
overflow_cast-length c =
    let less = members_room c.args.self.depth c.args.behind.arrays.now c.deeper.result.arrays.now c.deeper.ensures in
    omega arith
