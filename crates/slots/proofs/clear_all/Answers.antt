-- `clear_all` meets its contract.
-- Assumes nothing.
use Rattle.slots.specs.Cache.{cleared_all}
use Rattle.slots.proofs.clear_all.Goals as goal

pub returns : goal.returns
unfolding cleared_all
returns c = c.clear_run.ensures
