-- `differs_in_run` meets its contract: a run that is copies of the identity has no mark that differs.
-- Assumes nothing.
use mathlib.Core.Path.{sym, ◌∙◌}
use borrow.Author.Tests.{not-false}
use Rattle.cells.proofs.PredicatesLaws.{pointwise_same, same_eq}
use Rattle.marks.proofs.StoreLaws.{pattern_same}
use Rattle.marks.proofs.differs_in_run.Goals as goal

pub returns-else-ne : goal.returns-else-ne
returns-else-ne c =
    let same = sym (pointwise_same c.args.marks.now c.args.pattern.now) ∙ not-false _ (sym c.ne.ensures ∙ c.if-ne.false) in
    c.if-ne.false ∙ sym (pattern_same c.args.identity.now c.args.marks.now c.told-identity c.told-marks (same_eq _ _ same ∙ c.requires))
