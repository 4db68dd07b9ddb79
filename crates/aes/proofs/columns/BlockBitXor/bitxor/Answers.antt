-- `^` of two blocks meets its contract: word by word.
-- Assumes nothing.
use mathlib.Core.Path.{refl}
use Rattle.rules.specs.AesBytes.{◌⊕◌}
use Rattle.aes.proofs.columns.BlockBitXor.bitxor.Goals as goal

pub returns : goal.returns
unfolding ◌⊕◌
returns c = refl
