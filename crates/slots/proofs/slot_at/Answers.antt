-- `slot_at` meets its contract: a cache of another length has no slots.
-- Assumes nothing.
use Rattle.slots.proofs.CacheLaws.{wrong_slot, slot_found}
use Rattle.slots.proofs.slot_at.Goals as goal

pub returns-in_err-slots_of : goal.returns-in_err-slots_of
returns-in_err-slots_of c = rw (c.from_residual.ensures) (wrong_slot c.args.keys.now c.args.place c.in_err-slots_of.ensures)

pub returns : goal.returns
returns c =
    let slots = c.in_ok-slots_of.ensures in
    let found = c.get.ensures.lookup in
    slot_found c.args.keys.now c.args.place slots.0 slots.1 c.get.result found.1 found.3
