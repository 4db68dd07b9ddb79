-- Assumes nothing.
use Prim.Native.Nat.{◌-◌}
use lib.ListN.{length}
use Rattle.ttlv.proofs.ListingLaws.{Filling}
use Rattle.ttlv.proofs.listing.list.Given as goal

abbrev pub invariant-loop-found : goal.invariant-loop-found
invariant-loop-found l = Filling l.bytes l.initial.places l.places l.walk l.count

abbrev pub decreases-loop-found : goal.decreases-loop-found
decreases-loop-found l = length l.bytes - l.walk.at
