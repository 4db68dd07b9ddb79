-- Assumes nothing.
use mathlib.Core.Path.{◌≡◌}
use Rattle.ttlv.specs.Walking.{left}
use Rattle.ttlv.proofs.walk.Walk.close.Given as goal

abbrev pub invariant-loop-self : goal.invariant-loop-self
invariant-loop-self l =
    let was = l.initial.self in
    (l.self.bytes ≡ was.bytes) × (l.self.at ≡ was.at) × (left l.self ≡ left was)

abbrev pub decreases-loop-self : goal.decreases-loop-self
decreases-loop-self l = l.self.levels
