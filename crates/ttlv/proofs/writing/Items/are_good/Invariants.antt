-- Assumes nothing.
use mathlib.Core.Path.{◌≡◌}
use lib.ListN.{drop}
use Rattle.ttlv.specs.Writing.{good_from}
use Rattle.ttlv.specs.Pieces.{items_of}
use Rattle.ttlv.proofs.writing.Items.are_good.Given as goal

abbrev pub invariant-loop-numbers : goal.invariant-loop-numbers
invariant-loop-numbers l = good_from l.n l.most (items_of (drop l.numbers-index l.self.arrays.now)) ≡ good_from l.n 1 (items_of l.self.arrays.now)
