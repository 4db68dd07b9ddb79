-- `message` meets its contract: 07 03 first, then what the message brings.
-- Assumes nothing.
use Rattle.std.proofs.Common.{◌∙◌, ap, refl, take, Err, arith}
use Rattle.std.proofs.lemmas.Result.{err_from_is_err_and}
use Rattle.cells.proofs.CellsLaws.{lent_rest}
use Rattle.frames.proofs.FieldsLaws.{two_at}
use Rattle.frames.proofs.MessageLaws.{message_short, through_short, through_read}
use Rattle.frames.proofs.kinds.message.Goals as goal

pub returns-in_default : goal.returns-in_default
returns-in_default c =
    message_short (take c.args.n c.args.frame.now) c.args.frame.now c.in_default.len_below

pub returns-in_err-l : goal.returns-in_err-l
returns-in_err-l c =
    let f = c.args.frame.now in
    let d = take c.args.n f in
    let head = c.in-len4-up.len_at_least in
    let tag = c.from-2.ensures ∙ c.from_le_bytes-tag.ensures ∙ two_at 2 3 d refl (omega arith) in
    let p = err_from_is_err_and _ c.from_residual.ensures.1 in
    ap (λ r. record { read = r; frame = f }) (p.1 ∙ ap Err p.2)
    ∙ through_read d f c.args.brought.now head c.told-brought c.from.ensures tag (lent_rest 4 d) c.in_err-l.ensures

pub place-requires : goal.place-requires
place-requires c =
    let f = c.args.frame.now in
    let d = take c.args.n f in
    let head = c.in-len4-up.len_at_least in
    let tag = c.from-2.ensures ∙ c.from_le_bytes-tag.ensures ∙ two_at 2 3 d refl (omega arith) in
    through_short d f c.args.brought.now head c.told-brought c.from.ensures tag (lent_rest 4 d) c.in_ok-l.ensures

pub returns : goal.returns
returns c =
    let f = c.args.frame.now in
    let d = take c.args.n f in
    let head = c.in-len4-up.len_at_least in
    let tag = c.from-2.ensures ∙ c.from_le_bytes-tag.ensures ∙ two_at 2 3 d refl (omega arith) in
    rw (c.place.ensures, c.namespace_of.ensures)
    (rw (c.from.ensures, c.from-2.ensures) at (through_read d f c.args.brought.now head c.told-brought c.from.ensures tag (lent_rest 4 d) c.in_ok-l.ensures))
