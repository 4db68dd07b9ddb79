-- `tag_of` meets its contract: two bytes as one number.
-- Assumes nothing.
use Rattle.std.proofs.Common.{◌∙◌, ap}
use Rattle.rules.specs.State.{key_tag}
use Rattle.frames.proofs.FieldsLaws.{little_two}
use Rattle.frames.proofs.fields.tag_of.Goals as goal

pub returns : goal.returns
returns c = ap key_tag (c.from_le_bytes.ensures ∙ little_two _ _)
