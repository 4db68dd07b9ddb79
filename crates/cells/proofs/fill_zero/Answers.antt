-- `cells::fill_zero` meets its contract: zero fits every byte, and a clone of it is zero.
-- Assumes nothing.
use Rattle.cells.specs.Cells.{zeros}
use Rattle.cells.proofs.fill_zero.Goals as goal

pub returns : goal.returns
unfolding zeros
returns c = c.fill.ensures.after (λ y h. h)
