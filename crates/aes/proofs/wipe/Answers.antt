-- `aes::wipe` meets its contract: all sixty.
-- Assumes nothing.
use mathlib.Core.Path.{ap, ◌∙◌}
use Rattle.std.proofs.Common.{rules}
use Rattle.cells.specs.Cells.{zeros}
use Rattle.aes.proofs.wipe.Goals as goal

pub returns : goal.returns
unfolding zeros
returns c = c.fill.ensures.after (λ y h. search rules) ∙ ap zeros c.told-w
