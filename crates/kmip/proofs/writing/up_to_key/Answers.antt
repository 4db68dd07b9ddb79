-- `up_to_key` meets its contract: the bytes as they are always, and the three of the two numbers.
-- Assumes nothing.
use mathlib.Core.Path.{◌≡◌}
use native.Mathlib.Omega.{arith}
use Prim.Native.Nat.{◌/◌, ◌%◌}
use Rattle.kmip.specs.Pieces.{between_uid_and_key}
use Rattle.kmip.proofs.writing.up_to_key.Goals as goal

pub returns : goal.returns
unfolding between_uid_and_key
returns c =
    let high : c.args.tag / 256 % 256 ≡ c.args.tag / 256 = omega (arith, c.ranges.tag.fits) in
    rw (c.to_be_bytes.ensures, high)
