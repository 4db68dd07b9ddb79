-- Assumes nothing.
use Prim.Native.Nat.{◌-◌}
use lib.ListN.{length}
use Rattle.ttlv.proofs.WalkLaws.{Telling}
use Rattle.ttlv.proofs.sound.Given as goal

abbrev pub invariant-loop : goal.invariant-loop
invariant-loop l = Telling l.bytes l.walk

abbrev pub decreases-loop : goal.decreases-loop
decreases-loop l = length l.bytes - l.walk.at
