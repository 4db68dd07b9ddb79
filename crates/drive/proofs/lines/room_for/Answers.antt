-- `room_for` meets its contract: the line 0C, or any other.
-- Assumes nothing.
use Rattle.std.proofs.Common.{sym, ◌∙◌}
use Rattle.rules.specs.Call.{room_for}
use Rattle.drive.proofs.lines.room_for.Goals as goal

pub returns-then-equal : goal.returns-then-equal
unfolding room_for
returns-then-equal c = rw (sym c.equal.ensures ∙ c.if-equal.true)

pub returns-else-equal : goal.returns-else-equal
unfolding room_for
returns-else-equal c = rw (sym c.equal.ensures ∙ c.if-equal.false)
