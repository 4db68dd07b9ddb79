-- `at_place` meets its contract: the front of the slot is the kept identity, which the covered marks become or are held to.
-- Assumes nothing.
use Rattle.std.proofs.Common.{arith}
use Rattle.drive.proofs.IoLaws.{lands, place_inside, written, read_by}
use Rattle.drive.proofs.io.at_place.Goals as goal

pub block_of-block-requires : goal.block_of-block-requires
block_of-block-requires c =
    let a = c.args in
    let p = lands a.registers.now a.keys.now a.marks.now a.c c.requires.2 in
    (p.namespace, omega (arith, p.range))

pub mark_covered-requires : goal.mark_covered-requires
mark_covered-requires c =
    let a = c.args in
    (c.requires.0.sized.cache, place_inside a.registers.now a.keys.now a.marks.now a.c c.requires.2 c.requires.0)

pub wrong_key-requires : goal.wrong_key-requires
wrong_key-requires c =
    let a = c.args in
    (c.requires.0.sized.cache, place_inside a.registers.now a.keys.now a.marks.now a.c c.requires.2 c.requires.0)

pub returns-in-Write : goal.returns-in-Write
returns-in-Write c =
    let a = c.args in
    rw (c.mark_covered.ensures, c.block_of-block.ensures, c.from-n.ensures)
    (written a.registers.now a.keys.now a.marks.now a.c c.requires.2 c.requires.0 (rw c.in-Write.is at c.requires.1))

pub returns-then-wrong_key : goal.returns-then-wrong_key
returns-then-wrong_key c =
    let a = c.args in
    let q = rw (c.block_of-block.ensures, c.from-n.ensures) at c.wrong_key.ensures in
    let r = rw c.in-Read.is at c.requires.1 in
    rw c.if-wrong_key.true at (read_by a.registers.now a.keys.now a.marks.now a.c c.requires.2 c.requires.0 q r)

pub returns-else-wrong_key : goal.returns-else-wrong_key
returns-else-wrong_key c =
    let a = c.args in
    let q = rw (c.block_of-block.ensures, c.from-n.ensures) at c.wrong_key.ensures in
    let r = rw c.in-Read.is at c.requires.1 in
    rw c.if-wrong_key.false at (read_by a.registers.now a.keys.now a.marks.now a.c c.requires.2 c.requires.0 q r)
