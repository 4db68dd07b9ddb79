-- `on_line` meets its contract: what was read stands for the line, and the frame is wiped.
-- Assumes nothing.
use Rattle.std.proofs.Common.{◌+◌, ◌<◌, length, ap, ◌∙◌, rules}
use Rattle.rules.specs.Numbers.{uid_most, key_size}
use Rattle.rules.specs.State.{State}
use Rattle.frames.proofs.ReadingLaws.{means, lies}
use Rattle.drive.specs.Acting.{state, acted}
use Rattle.drive.proofs.ActingLaws.{line_acts}
use Rattle.drive.proofs.act.on_line.Goals as goal

pub act-answer-requires : goal.act-answer-requires
act-answer-requires c =
    let room : 5 + uid_most + key_size < length c.read-read.new.frame = search rules in
    (c.requires, lies c.args.line.now _ c.read-read.result _ room c.read-read.ensures.0)

pub returns : goal.returns
returns c =
    let room : 5 + uid_most + key_size < length c.read-read.new.frame = search rules in
    let a = c.args in
    let now : State = state a.registers.now a.keys.now a.marks.now in (
      c.act-answer.ensures.0 ∙ ap (acted now) (means a.line.now _ c.read-read.result _ room c.read-read.ensures.0) ∙ line_acts now a.line.now,
      c.read-read.ensures.1,
    )
