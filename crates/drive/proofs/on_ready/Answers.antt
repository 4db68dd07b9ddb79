-- `on_ready` meets its contract: the line, and its answer.
-- Assumes nothing.
use Rattle.rules.specs.State.{State}
use Rattle.drive.specs.Acting.{state}
use Rattle.drive.proofs.RunningLaws.{replied}
use Rattle.drive.proofs.on_ready.Goals as goal

pub returns : goal.returns
returns c =
    let a = c.args in
    let now : State = state a.registers a.keys.now a.marks.now in
    replied now a.line.now a.out.now _ _ c.on_line-answer.ensures.0 c.requires.1 c.write_answer-bytes.ensures
