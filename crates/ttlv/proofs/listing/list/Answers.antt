-- `list` meets its contract: the items so far are laid, and what is left completes the whole.
-- Assumes nothing.
use mathlib.Core.Path.{◌∙◌}
use Rattle.ttlv.proofs.ListingLaws.{fill_start, fill_end, fill_never, found_more}
use Rattle.ttlv.proofs.listing.list.Goals as goal

pub loop-found-init : goal.loop-found-init
loop-found-init c = fill_start _ _ _ c.new-walk.ensures

pub returns-in_err-found : goal.returns-in_err-found
returns-in_err-found c = absurd (fill_never c.requires c.loop-found.invariant c.in_err-found.ensures)

pub loop-found-preserved : goal.loop-found-preserved
loop-found-preserved c =
    let on = rw c.in-Some.is at c.in_ok-found.ensures in
    found_more c.requires c.loop-found.invariant _ c.in-Some.found on.0 on.1 _ (c.copy_from_slice.ensures.after ∙ c.numbers.ensures)

pub returns : goal.returns
returns c = fill_end c.requires c.loop-found.invariant (rw c.in_default.is at c.in_ok-found.ensures)
