-- `slots_of` meets its contract.
-- Assumes nothing.
use native.Mathlib.Omega.{arith}
use mathlib.Core.Path.{◌≡◌, ap, ◌∙◌}
use Prim.Native.Nat.{◌/◌}
use lib.ListN.{length}
use Rattle.std.specs.Simd.{first_chunks}
use Rattle.rules.specs.Numbers.{slot_width, slot_places}
use Rattle.slots.proofs.slots_of.Goals as goal

pub returns : goal.returns
returns c =
    let n : length c.args.keys.now / slot_width ≡ slot_places = omega arith in
    (c.if-keys-ne-CACHE_SIZE.false, c.as_chunks.ensures.front ∙ ap (λ k. first_chunks slot_width k c.args.keys.now) n)
