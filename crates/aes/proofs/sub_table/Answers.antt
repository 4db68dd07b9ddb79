-- `aes::sub_table` meets its contract: entry by entry, computed.
-- Assumes nothing.
use mathlib.Core.Path.{refl}
use Rattle.fips197.specs.Boxes.{sbox}
use Rattle.aes.proofs.sub_table.Goals as goal

pub returns : goal.returns
unfolding sbox
returns c = refl
