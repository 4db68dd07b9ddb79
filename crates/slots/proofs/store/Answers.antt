-- `store` meets its contract.
-- Assumes nothing.
use native.Mathlib.Omega.{arith}
use mathlib.Core.Path.{sym, ap, ◌∙◌}
use Rattle.std.proofs.lemmas.Bool.Decides.{nat_tests}
use Rattle.cells.specs.Cells.{put}
use Rattle.cells.proofs.CellsLaws.{back_put}
use Rattle.rules.specs.Numbers.{slot_width}
use Rattle.slots.specs.Cache.{stored}
use Rattle.slots.proofs.CacheLaws.{stored_short}
use Rattle.slots.proofs.store.Goals as goal

pub returns-then-key-eq-KEY_SIZE : goal.returns-then-key-eq-KEY_SIZE
returns-then-key-eq-KEY_SIZE c =
    back_put slot_width c.args.place _ c.args.keys.now
    ∙ ap (λ v. put slot_width c.args.place v c.args.keys.now) c.set_slot.ensures
    ∙ sym (stored_short c.args.keys.now c.if-keys-eq-CACHE_SIZE.true c.args.place _ c.if-place-lt-SLOT_PLACES.true c.if-uid-le-UID_MOST.true
    c.if-key-eq-KEY_SIZE.true)

pub returns-else-keys-eq-CACHE_SIZE : goal.returns-else-keys-eq-CACHE_SIZE
unfolding stored
returns-else-keys-eq-CACHE_SIZE c = grind (arith, nat_tests)
