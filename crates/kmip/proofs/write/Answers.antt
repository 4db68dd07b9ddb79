-- `write` meets its contract: each refusal in its order, or the message.
-- Assumes nothing.
use mathlib.Core.Path.{ap, ◌∙◌}
use mathlib.Core.List.{List}
use Prim.Native.Nat.{ℕ}
use lib.ListN.{length}
use Rattle.kmip.specs.Writing.{message_bytes}
use Rattle.kmip.proofs.ReadingLaws.{bad_length, good_length}
use Rattle.kmip.proofs.LayingLaws.{no_room, no_key, bad_uid, written}
use Rattle.kmip.proofs.write.Goals as goal

pub returns-then-out-lt-MESSAGE_ROOM : goal.returns-then-out-lt-MESSAGE_ROOM
returns-then-out-lt-MESSAGE_ROOM c =
    let s = c.args in
    no_room s.ns s.tag s.uid.now s.key.now s.out.now c.if-out-lt-MESSAGE_ROOM.true

pub returns-in_default : goal.returns-in_default
returns-in_default c =
    let s = c.args in
    no_key s.ns s.tag s.uid.now s.key.now s.out.now c.if-out-lt-MESSAGE_ROOM.false c.in_default.ensures.1

pub returns-then-n-eq0 : goal.returns-then-n-eq0
returns-then-n-eq0 c =
    let s = c.args in
    bad_uid s.ns s.tag s.uid.now s.key.now s.out.now c.if-out-lt-MESSAGE_ROOM.false c.in-Ok.ensures.1.long (bad_length _ c.then-n-eq0.either)

pub returns : goal.returns
returns c =
    let s = c.args in
    let good = good_length (length s.uid.now) c.if-n-eq0.false c.if-n-gt-UID_MOST.false in
    rw (c.lay.ensures.1, c.in-Ok.ensures.1.same)
    (written s.ns s.tag s.uid.now s.key.now s.out.now c.if-out-lt-MESSAGE_ROOM.false c.in-Ok.ensures.1.long _ good
    (c.lay.ensures.0 ∙ ap (λ (k : List ℕ). length (message_bytes s.ns s.tag s.uid.now k)) c.in-Ok.ensures.1.same))
