-- `cells::same_part` meets its contract: the part that is lent is there.
-- Assumes nothing.
use Rattle.std.proofs.Common.{rules, tests}
use native.Mathlib.Omega.{arith}
use Rattle.cells.specs.Predicates.{same_part}
use Rattle.cells.proofs.CellsLaws.{not_within}
use Rattle.cells.proofs.PredicatesLaws.{same_got}
use Rattle.cells.proofs.same_part.Goals as goal

pub returns-in_default : goal.returns-in_default
unfolding same_part
returns-in_default c =
    rw (not_within c.args.from c.args.n c.args.part.now (omega (arith, c.in_default.ensures)))

pub returns : goal.returns
returns c =
    same_got c.args.from c.args.n c.in-Some.to c.args.part.now c.args.other.now c.get.result c.is_some_and.result (c.in-Some.ensures.1)
    c.get.ensures.lookup.0 c.is_some_and.ensures (λ x told. search (rules, tests))
