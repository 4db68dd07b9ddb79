-- `tuffaleen_session` meets its contract: `drive::answer_session` on what is lent of the image.
-- Assumes nothing.
use Rattle.std.proofs.Common.{◌≡◌, rules}
use Rattle.rules.specs.Sessions.{Session, session}
use Rattle.tuffaleen_c.specs.Image.{no_image, registers_in}
use Rattle.tuffaleen_c.proofs.ImageLaws.{asked, text_told}
use Rattle.tuffaleen_c.proofs.tuffaleen_session.Goals as goal

pub returns : goal.returns
returns c =
    let a = c.args in
    let image = a.image.now in
    let r = c.lend-reply.result in
    let l = c.lend-reply.ensures in
    let ended = c.lend-reply.new.call in
    let left : Session = record { result = r.result; lines = r.lines; state = asked l.registers l.keys.now ended.0.now; bytes = r.bytes; out = ended.2.now } in
    let done : left ≡ session (asked (registers_in (no_image image) image) l.shown.now a.marks.now) a.text.now a.out.now = search rules in
    text_told image a.marks.now l.shows a.text.now a.out.now left done l.saves (search rules) (search rules) c.number.ensures
