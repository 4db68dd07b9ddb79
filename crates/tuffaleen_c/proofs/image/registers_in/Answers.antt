-- `registers_in` meets its contract: the length, then each lock byte; then the counts at the front and the locks.
-- Assumes nothing.
use Rattle.std.proofs.Common.{◌∙◌}
use Rattle.tuffaleen_c.specs.Image.{registers_in}
use Rattle.tuffaleen_c.proofs.ImageLaws.{other_length, first_lock, second_lock}
use Rattle.tuffaleen_c.proofs.image.registers_in.Goals as goal

pub returns-then-image-ne-IMAGE_SIZE : goal.returns-then-image-ne-IMAGE_SIZE
returns-then-image-ne-IMAGE_SIZE c = other_length c.args.image.now c.if-image-ne-IMAGE_SIZE.true

pub returns-in_err-partition0 : goal.returns-in_err-partition0
returns-in_err-partition0 c =
    rw c.from_residual-in_err-partition0.ensures
    (first_lock c.args.image.now c.if-image-ne-IMAGE_SIZE.false c.in_err-partition0.ensures)

pub returns-in_err-partition1 : goal.returns-in_err-partition1
returns-in_err-partition1 c =
    rw c.from_residual-in_err-partition1.ensures
    (second_lock c.args.image.now c.if-image-ne-IMAGE_SIZE.false c.in_ok-partition0.ensures.0 ∙ c.in_err-partition1.ensures)

pub returns : goal.returns
unfolding registers_in
returns c = (
  second_lock c.args.image.now c.if-image-ne-IMAGE_SIZE.false c.in_ok-partition0.ensures.0 ∙ c.in_ok-partition1.ensures.0,
  rw (c.in_ok-counts.ensures.cases.same, c.in_ok-partition0.ensures.1, c.in_ok-partition1.ensures.1),
)
