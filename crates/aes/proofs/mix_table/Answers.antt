-- `aes::mix_table` meets its contract: entry by entry, computed.
-- Assumes nothing.
use mathlib.Core.Path.{refl}
use Rattle.rules.specs.AesBytes.{◌⊕◌, ◌•◌, product_below, x_times, if_set}
use Rattle.fips197.specs.Boxes.{sbox}
use Rattle.aes.specs.Tables.{mix_table}
use Rattle.aes.proofs.mix_table.Goals as goal

pub returns : goal.returns
unfolding mix_table sbox ◌•◌ product_below x_times if_set ◌⊕◌
returns c = refl
