-- `front` meets its contract: a message is placed, and of the other kinds the part that is lent is the frame.
-- Assumes nothing.
use Rattle.std.proofs.Common.{◌≡◌, ◌∙◌, ap, sym, take, get_or, length-take-le, arith}
use lib.Seq.{get_or-take}
use Rattle.rules.specs.Fields.{byte}
use Rattle.frames.specs.Reading.{read_as}
use Rattle.frames.proofs.MessageLaws.{message_kind, others_stay}
use Rattle.frames.proofs.kinds.front.Goals as goal

pub returns-then-frame-eq13 : goal.returns-then-frame-eq13
returns-then-frame-eq13 c =
    let f = c.args.frame.now in
    let first : (byte 0 (take c.args.n f) ≡ get_or f 0 0) = get_or-take c.args.n f 0 0 c.requires.0 in
    c.message.ensures ∙ ap (λ r. read_as r f) (sym (message_kind _ (first ∙ c.if-frame-eq13.true)))

pub by_kind-requires : goal.by_kind-requires
by_kind-requires c =
    let f = c.args.frame.now in
    let first : (byte 0 (take c.args.n f) ≡ get_or f 0 0) = get_or-take c.args.n f 0 0 c.requires.0 in
    (omega (arith, length-take-le c.args.n f c.requires.1), λ k. c.if-frame-eq13.false (sym first ∙ k))

pub returns : goal.returns
returns c =
    let f = c.args.frame.now in
    let first : (byte 0 (take c.args.n f) ≡ get_or f 0 0) = get_or-take c.args.n f 0 0 c.requires.0 in
    others_stay c.args.n f c.requires.1 _ (λ k. c.if-frame-eq13.false (sym first ∙ k)) c.by_kind.ensures
