-- `aes::inv_mix_table` meets its contract: entry by entry, computed.
-- Assumes nothing.
use mathlib.Core.Path.{refl}
use Rattle.rules.specs.AesBytes.{◌⊕◌, ◌•◌, product_below, x_times, if_set}
use Rattle.fips197.specs.Boxes.{inv_sbox}
use Rattle.aes.specs.Tables.{inv_mix_table}
use Rattle.aes.proofs.inv_mix_table.Goals as goal

pub returns : goal.returns
unfolding inv_mix_table inv_sbox ◌•◌ product_below x_times if_set ◌⊕◌
returns c = refl
