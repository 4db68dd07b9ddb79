-- `aes::inv_sub_table` meets its contract: entry by entry, computed.
-- Assumes nothing.
use mathlib.Core.Path.{refl}
use Rattle.fips197.specs.Boxes.{inv_sbox}
use Rattle.aes.proofs.inv_sub_table.Goals as goal

pub returns : goal.returns
unfolding inv_sbox
returns c = refl
