-- `tuffaleen_start` meets its contract: `drive::start` on the cache where it lies, and the registers to the front.
-- Assumes nothing.
use Rattle.tuffaleen_c.proofs.ImageLaws.{started_nowhere, started_in, back_size}
use Rattle.tuffaleen_c.proofs.tuffaleen_start.Goals as goal

pub returns-then-image-ne-IMAGE_SIZE : goal.returns-then-image-ne-IMAGE_SIZE
returns-then-image-ne-IMAGE_SIZE c =
    let a = c.args in
    started_nowhere a.image.now a.marks.now a.kek.now c.number.ensures c.if-image-ne-IMAGE_SIZE.true c.start.ensures

pub save-requires : goal.save-requires
save-requires c =
    back_size c.args.image.now c.if-image-ne-IMAGE_SIZE.false _ c.start-started.auto.keys

pub returns : goal.returns
returns c =
    let a = c.args in
    started_in a.image.now a.marks.now a.kek.now c.number-2.ensures c.if-image-ne-IMAGE_SIZE.false c.start-started.ensures c.save.ensures
