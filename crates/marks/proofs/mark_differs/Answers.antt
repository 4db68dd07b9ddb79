-- `mark_differs` meets its contract.
-- Assumes nothing.
use mathlib.Core.Path.{ap, ◌∙◌}
use mathlib.Core.Bool.{not}
use borrow.Author.Tests.{ne_eqb}
use Rattle.marks.proofs.StoreLaws.{array_same}
use Rattle.marks.proofs.mark_differs.Goals as goal

pub returns-then-mark-ne0 : goal.returns-then-mark-ne0
returns-then-mark-ne0 c =
    rw (ne_eqb _ 0 c.if-mark-ne0.true)
    (c.ne.ensures ∙ ap not (array_same c.args.identity.now c.args.mark c.as_array.result c.told-mark c.as_array.ensures.cases))
