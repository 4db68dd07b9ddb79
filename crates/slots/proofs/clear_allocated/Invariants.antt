-- Assumes nothing.
use mathlib.Core.Path.{◌≡◌}
use Rattle.slots.specs.Cache.{cleared_first}
use Rattle.slots.proofs.clear_allocated.Given as goal

abbrev pub invariant-loop-i : goal.invariant-loop-i
invariant-loop-i l = l.keys ≡ cleared_first l.i l.fn.counts l.initial.keys
