-- `up_to_uid` meets its contract: the bytes as they are always, and the four that go with the KeyUID.
-- Assumes nothing.
use mathlib.Core.Path.{refl}
use Rattle.kmip.specs.Pieces.{before_uid}
use Rattle.kmip.proofs.writing.up_to_uid.Goals as goal

pub returns : goal.returns
unfolding before_uid
returns c = refl
