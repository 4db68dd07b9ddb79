-- `cells::zero_part` meets its contract: the part that is lent is there.
-- Assumes nothing.
use native.Mathlib.Omega.{arith}
use Rattle.cells.specs.Cells.{zeroed_part}
use Rattle.cells.proofs.CellsLaws.{not_within, zeroed}
use Rattle.cells.proofs.zero_part.Goals as goal

pub returns-in_default : goal.returns-in_default
unfolding zeroed_part
returns-in_default c =
    rw (not_within c.args.from c.args.n c.args.part.now (omega (arith, c.in_default.ensures)))

pub returns-then-to-part : goal.returns-then-to-part
returns-then-to-part c =
    let to = c.in-Some.ensures in
    zeroed c.args.from c.args.n c.in-Some.to c.args.part.now (omega (arith, to.1)) (omega arith) (c.fill.ensures.after (λ y h. h))

pub returns-else-to-part : goal.returns-else-to-part
unfolding zeroed_part
returns-else-to-part c =
    rw (not_within c.args.from c.args.n c.args.part.now (omega (arith, c.in-Some.ensures.1)))
