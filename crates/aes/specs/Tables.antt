-- What the substitution of a byte adds to a mixed column, as a word: with the
-- mixing's matrix, and with the inverse's.
-- Assumes nothing.
use Rattle.std.specs.Prelude.{List, map, ℕ}
use Rattle.rules.specs.AesBytes.{◌•◌}
use Rattle.fips197.specs.Boxes.{sbox, inv_sbox}
use Rattle.aes.specs.Words.{word4}

-- s by the first column of the matrix that m0 m1 m2 m3 gives
abbrev pub mixed_by : ℕ → ℕ → ℕ → ℕ → ℕ → ℕ
mixed_by m0 m1 m2 m3 s = word4 (m0 • s) (m1 • s) (m2 • s) (m3 • s)

unfoldable pub mix_table : List ℕ
mix_table = map (mixed_by 0x02 0x01 0x01 0x03) sbox

unfoldable pub inv_mix_table : List ℕ
inv_mix_table = map (mixed_by 0x0E 0x09 0x0D 0x0B) inv_sbox
