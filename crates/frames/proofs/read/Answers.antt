-- `read` meets its contract: the line, and what a message brought is wiped.
-- Assumes nothing.
use borrow.Author.Rules.{rules}
use mathlib.Core.Path.{ap, ◌∙◌}
use Rattle.cells.specs.Cells.{zeros}
use Rattle.frames.proofs.read.Goals as goal

pub returns : goal.returns
returns c =
    (c.by_line-read.ensures, c.fill_zero.ensures ∙ ap zeros (search rules))
