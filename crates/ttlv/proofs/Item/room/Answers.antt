-- `room` meets its contract: a head, and a value with its padding.
-- Assumes nothing.
use native.Mathlib.Omega.{arith}
use mathlib.Core.Path.{sym}
use Rattle.ttlv.proofs.TreeLaws.{room_structure, room_value}
use Rattle.ttlv.proofs.Item.room.Goals as goal

pub returns-then-self-eq-STRUCTURE : goal.returns-then-self-eq-STRUCTURE
returns-then-self-eq-STRUCTURE c =
    record { is = sym (room_structure c.args.self c.if-self-eq-STRUCTURE.true); small = omega arith }

pub returns : goal.returns
returns c =
    let p = c.next_multiple_of.ensures in
    record { is = omega (arith, room_value c.args.self c.if-self-eq-STRUCTURE.false, p.lower_bound, p.upper_bound, p.multiple); small = omega arith }
