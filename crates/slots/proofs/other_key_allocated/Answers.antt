-- `other_key_allocated` meets its contract: the search is for the head of a slot with this KeyUID.
-- Assumes nothing.
use borrow.Author.Rules.{rules}
use mathlib.Core.Path.{sym, ◌∙◌}
use Rattle.rules.proofs.StateLaws.{wrong_cache_lem}
use Rattle.slots.specs.Cache.{other_key_allocated}
use Rattle.slots.proofs.AllocatedLaws.{other_key_is, long_none}
use Rattle.slots.proofs.SearchLaws.{search_is}
use Rattle.slots.proofs.other_key_allocated.Goals as goal

pub returns-in_default : goal.returns-in_default
unfolding other_key_allocated
returns-in_default c = rw (wrong_cache_lem c.args.keys.now c.in_default.ensures)

pub returns-then-uid-gt-UID_MOST : goal.returns-then-uid-gt-UID_MOST
returns-then-uid-gt-UID_MOST c =
    sym (long_none c.args.counts c.args.keys.now c.in-Some.ensures.0 _ c.if-uid-gt-UID_MOST.true)

pub returns : goal.returns
returns c =
    let slots = c.in-Some.ensures in
    c.other_key_behind.ensures
    ∙ (rw (slots.1, c.head_of-head.ensures) (search_is c.args.counts _ c.args.key.now c.args.keys.now (search rules)))
    ∙ sym (other_key_is c.args.counts c.args.keys.now slots.0 _)
