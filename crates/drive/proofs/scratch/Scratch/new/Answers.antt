-- `new` meets its contract: all of it is zeros.
-- Assumes nothing.
use Rattle.std.proofs.Common.{refl}
use Rattle.cells.specs.Cells.{zeros}
use Rattle.drive.proofs.scratch.Scratch.new.Goals as goal

pub invariant_of-result : goal.invariant_of-result
unfolding zeros
invariant_of-result c = record { wiped = (refl, refl) }
