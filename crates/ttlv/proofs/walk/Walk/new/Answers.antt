-- A walk starts before the first item.
-- Assumes nothing.
use native.Mathlib.Omega.{arith}
use mathlib.Core.Path.{refl}
use Rattle.ttlv.proofs.WalkLaws.{nested_start, start_whole}
use Rattle.ttlv.proofs.walk.Walk.new.Goals as goal

pub invariant_of-result : goal.invariant_of-result
invariant_of-result c =
    record { inside = omega arith; few = omega arith; nested = nested_start _ _ refl }

pub returns : goal.returns
returns c = record { over = refl; whole = start_whole c.args.bytes.now _ refl }
