-- `place` meets its contract.
-- Assumes nothing.
use Rattle.std.proofs.Common.{le-leb, arith}
use borrow.Author.Tests.{lt-leb}
use Rattle.drive.specs.Acting.{placed}
use Rattle.drive.proofs.answers.place.Goals as goal

pub returns-then-t-from : goal.returns-then-t-from
unfolding placed
returns-then-t-from c = rw (le-leb c.args.n c.args.tag.0 (omega (arith, c.if-t-from.true, c.from-t.ensures, c.from.ensures)))

pub returns : goal.returns
unfolding placed
returns c = rw (lt-leb c.args.n c.args.tag.0 (omega (arith, c.if-t-from.false, c.from-t.ensures, c.from.ensures)), c.from-t.ensures)
