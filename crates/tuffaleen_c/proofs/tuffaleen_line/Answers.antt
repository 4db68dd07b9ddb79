-- `tuffaleen_line` meets its contract: `drive::answer_line` on what is lent of the image.
-- Assumes nothing.
use Rattle.std.proofs.Common.{◌≡◌, rules}
use Rattle.rules.specs.Call.{Called, call}
use Rattle.tuffaleen_c.specs.Image.{no_image, registers_in}
use Rattle.tuffaleen_c.proofs.ImageLaws.{asked, line_told}
use Rattle.tuffaleen_c.proofs.tuffaleen_line.Goals as goal

pub returns : goal.returns
returns c =
    let a = c.args in
    let image = a.image.now in
    let r = c.lend-reply.result in
    let l = c.lend-reply.ensures in
    let ended = c.lend-reply.new.call in
    let left : Called = record { answer = r.answer; state = asked l.registers l.keys.now ended.0.now; bytes = r.bytes; out = ended.2.now } in
    let done : left ≡ call (asked (registers_in (no_image image) image) l.shown.now a.marks.now) a.line.now a.out.now = search rules in
    line_told image a.marks.now l.shows a.line.now a.out.now left done l.saves (search rules) (search rules) c.number.ensures
