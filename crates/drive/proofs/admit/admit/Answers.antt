-- `admit` meets its contract: each return is one of the checks. `room` is the place where the output has room, `whole` that where the
-- marks have the right length besides.
-- Assumes nothing.
use Rattle.std.proofs.Common.{length, sym, ◌∙◌, eq-eqb, ne_eqb}
use Rattle.rules.specs.Numbers.{store_size}
use Rattle.drive.specs.Acting.{admitted}
use Rattle.drive.proofs.ActingLaws.{sound_keys}
use Rattle.drive.proofs.admit.admit.Goals as goal

pub returns-then-short : goal.returns-then-short
unfolding admitted
returns-then-short c = rw c.if-short.true

pub returns-then-marks-ne-STORE_SIZE : goal.returns-then-marks-ne-STORE_SIZE
unfolding admitted
returns-then-marks-ne-STORE_SIZE c =
    rw (c.if-short.false, ne_eqb (length c.args.marks.now) store_size c.if-marks-ne-STORE_SIZE.true)

pub returns-then-unsound : goal.returns-then-unsound
unfolding admitted
returns-then-unsound c =
    let a = c.args in
    let unsound = sound_keys a.registers a.keys.now a.marks.now ∙ sym c.unsound.ensures ∙ c.if-unsound.true in
    rw (c.if-short.false, eq-eqb (length a.marks.now) store_size c.if-marks-ne-STORE_SIZE.false, unsound)

pub returns : goal.returns
unfolding admitted
returns c =
    let a = c.args in
    let sound = sound_keys a.registers a.keys.now a.marks.now ∙ sym c.unsound.ensures ∙ c.if-unsound.false in
    rw (c.if-short.false, eq-eqb (length a.marks.now) store_size c.if-marks-ne-STORE_SIZE.false, sound)
