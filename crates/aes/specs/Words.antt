-- A block as four words, a word as four bytes, the highest first.
-- Assumes nothing.
use Rattle.std.specs.Prelude.{List, ◌++◌, ℕ, ◌+◌, ◌*◌, ◌<◌, get_or}
use Rattle.rules.specs.Fields.{four_bytes}
use Rattle.aes.specs.declared.Block.{Block}

abbrev pub word4 : ℕ → ℕ → ℕ → ℕ → ℕ
word4 a b c d = ((a * 256 + b) * 256 + c) * 256 + d

-- the four bytes from i on
abbrev pub word_at : List ℕ → ℕ → ℕ
word_at xs i = word4 (get_or xs i 0) (get_or xs (i + 1) 0) (get_or xs (i + 2) 0) (get_or xs (i + 3) 0)

-- a state's columns are a block's words
abbrev pub block_of : List ℕ → Block
block_of s = record { a = word_at s 0; b = word_at s 4; c = word_at s 8; d = word_at s 12 }

abbrev pub bytes_of : Block → List ℕ
bytes_of s = four_bytes s.a ++ (four_bytes s.b ++ (four_bytes s.c ++ four_bytes s.d))

-- each of its words has 32 bits
pub record Fit (s : Block) : Type 0 where
  pub a : s.a < 4294967296
  pub b : s.b < 4294967296
  pub c : s.c < 4294967296
  pub d : s.d < 4294967296
