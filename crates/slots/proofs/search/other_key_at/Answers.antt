-- `other_key_at` meets its contract.
-- Assumes nothing.
use mathlib.Core.Path.{sym, ap, ◌∙◌}
use mathlib.Core.Bool.{not}
use Rattle.slots.specs.Cache.{other_key_behind}
use Rattle.slots.proofs.search.other_key_at.Goals as goal

pub returns-then-same_head : goal.returns-then-same_head
unfolding other_key_behind
returns-then-same_head c =
    rw (sym c.same_head.ensures ∙ c.if-same_head.true) (ap not c.same_key.ensures)

pub returns-else-same_head : goal.returns-else-same_head
unfolding other_key_behind
returns-else-same_head c =
    rw (sym c.same_head.ensures ∙ c.if-same_head.false) c.if-same_head.false
