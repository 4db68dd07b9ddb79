-- `clear` meets its contract: a run of one slot.
-- Assumes nothing.
use mathlib.Core.Path.{◌∙◌}
use Rattle.slots.proofs.CacheLaws.{clear_one, clear_none}
use Rattle.slots.proofs.clear.Goals as goal

pub returns-then-place-lt-SLOT_PLACES : goal.returns-then-place-lt-SLOT_PLACES
returns-then-place-lt-SLOT_PLACES c =
    c.clear_run.ensures ∙ clear_one c.args.keys.now c.args.place c.if-place-lt-SLOT_PLACES.true

pub returns-else-place-lt-SLOT_PLACES : goal.returns-else-place-lt-SLOT_PLACES
returns-else-place-lt-SLOT_PLACES c = clear_none c.args.keys.now c.args.place c.if-place-lt-SLOT_PLACES.false
