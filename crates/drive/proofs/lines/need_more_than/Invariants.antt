-- Assumes nothing.
use Rattle.std.proofs.Common.{◌≡◌, ◌+◌}
use Rattle.rules.specs.Sessions.{lines_of, room_for_all}
use Rattle.drive.proofs.lines.need_more_than.Given as goal

abbrev pub invariant-loop-line : goal.invariant-loop-line
invariant-loop-line l = l.left + room_for_all (lines_of l.text) ≡ l.room + room_for_all (lines_of l.line-iterator.0.now)
