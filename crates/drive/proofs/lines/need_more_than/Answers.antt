-- `need_more_than` meets its contract: what is left of the room and what the lines left may need.
-- Assumes nothing.
use Rattle.std.proofs.Common.{sym, arith, lt-ltb, le-ltb}
use Rattle.rules.specs.Sessions.{lines_of, room_for_all}
use Rattle.drive.proofs.LinesLaws.{room_line, room_none}
use Rattle.drive.proofs.lines.need_more_than.Goals as goal

pub returns-then-need-left : goal.returns-then-need-left
returns-then-need-left c =
    let i = c.loop-line.invariant in
    let need = c.room_for-need.ensures in
    let splits = room_line c.in-Some.ensures.steps in
    sym (lt-ltb c.args.room (room_for_all (lines_of c.args.text.now)) (omega arith))

pub loop-line-preserved : goal.loop-line-preserved
loop-line-preserved c =
    let i = c.loop-line.invariant in
    let need = c.room_for-need.ensures in
    let splits = room_line c.in-Some.ensures.steps in
    omega arith

pub returns : goal.returns
returns c =
    let i = c.loop-line.invariant in
    let none = room_none c.in-None.ensures.steps.0 in
    sym (le-ltb c.args.room (room_for_all (lines_of c.args.text.now)) (omega arith))
