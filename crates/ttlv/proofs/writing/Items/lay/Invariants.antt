-- Assumes nothing.
use lib.ListN.{length}
use Rattle.ttlv.specs.Pieces.{items_of}
use Rattle.ttlv.proofs.LayLaws.{Laying}
use Rattle.ttlv.proofs.writing.Items.lay.Given as goal

abbrev pub invariant-loop-left : goal.invariant-loop-left
invariant-loop-left l = Laying l.values (items_of l.fn.self.arrays.now) l.initial.out l.out l.at (items_of l.left)

abbrev pub decreases-loop-left : goal.decreases-loop-left
decreases-loop-left l = length l.left
