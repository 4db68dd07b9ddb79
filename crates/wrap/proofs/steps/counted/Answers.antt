-- `wrap::steps::counted` meets its contract: word by word.
-- Assumes nothing.
use mathlib.Core.Path.{refl}
use Rattle.rules.specs.AesBytes.{◌⊕◌}
use Rattle.wrap.proofs.steps.counted.Goals as goal

pub returns : goal.returns
unfolding ◌⊕◌
returns c = refl
