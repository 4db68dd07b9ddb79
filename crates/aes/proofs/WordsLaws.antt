-- A word and its four bytes: each is the other, sums go byte by byte, and a word
-- that is turned has its bytes turned.
-- Assumes nothing.
use mathlib.Core.Path.{◌≡◌, sym, ap, ap₂, ◌∙◌}
use mathlib.Core.List.{List, [], ◌∷◌, ◌++◌}
use Prim.Native.Nat.{ℕ, ◌+◌, ◌*◌, ◌/◌, ◌%◌, ◌^◌, ◌<◌}
use Rattle.std.specs.Int.{w32, to_be_bytes, from_be_bytes, rotate_left, rotate_right}
use Rattle.std.proofs.lemmas.Nat.{or_comm, or_shifted, be_bytes_4}
use Rattle.std.proofs.Math.Nat.{add_comm}
use native.Mathlib.Nat.{div-div-eq-div-mul}
use native.Mathlib.Omega.{arith}
use lib.ListN.{length}
use lib.Bits.{bit_or, bit_xor, xor_block}
use Rattle.rules.specs.Fields.{four_bytes}
use Rattle.rules.specs.AesBytes.{◌⊕◌}
use Rattle.rules.specs.AesPromises.{Small, Bytes}
use Rattle.fips197.proofs.BytesLaws.{from, append_bytes, four_bytes_lem}
use Rattle.aes.specs.Words.{word4, block_of, bytes_of, Fit}
use Rattle.aes.specs.ByTables.{diagonal, turned1, turned2, turned3}
use Rattle.aes.specs.declared.Block.{Block}

pub word_whole : (w : ℕ) → w < 4294967296 → word4 (w / 16777216 % 256) (w / 65536 % 256) (w / 256 % 256) (w % 256) ≡ w
word_whole w h =
    let first : w / 16777216 % 256 ≡ w / 16777216 = omega arith in
    let second : w / 16777216 * 256 + w / 65536 % 256 ≡ w / 65536 = omega (arith, div-div-eq-div-mul w 65536 256) in
    let third : w / 65536 * 256 + w / 256 % 256 ≡ w / 256 = omega (arith, div-div-eq-div-mul w 256 256) in
    let last : w / 256 * 256 + w % 256 ≡ w = omega arith in
    ap (λ x. ((x * 256 + w / 65536 % 256) * 256 + w / 256 % 256) * 256 + w % 256) first
    ∙ ap (λ x. (x * 256 + w / 256 % 256) * 256 + w % 256) second
    ∙ ap (λ x. x * 256 + w % 256) third
    ∙ last

module _ (a b c d : ℕ) (ha : a < 256) (hb : b < 256) (hc : c < 256) (hd : d < 256) where
  pub first_byte : word4 a b c d / 16777216 % 256 ≡ a
  first_byte = omega arith

  pub second_byte : word4 a b c d / 65536 % 256 ≡ b
  second_byte = omega arith

  pub third_byte : word4 a b c d / 256 % 256 ≡ c
  third_byte = omega arith

  pub last_byte : word4 a b c d % 256 ≡ d
  last_byte = omega arith

  pub word_fits : word4 a b c d < 4294967296
  word_fits = omega arith

  pub bytes_of_word : four_bytes (word4 a b c d) ≡ a ∷ b ∷ c ∷ d ∷ []
  bytes_of_word = λ i. first_byte i ∷ second_byte i ∷ third_byte i ∷ last_byte i ∷ []

  pub turned1_word : turned1 (word4 a b c d) ≡ word4 d a b c
  turned1_word = omega arith

  pub turned2_word : turned2 (word4 a b c d) ≡ word4 c d a b
  turned2_word = omega arith

  pub turned3_word : turned3 (word4 a b c d) ≡ word4 b c d a
  turned3_word = omega arith

-- what the library calls these
pub from_bytes : (a b c d : ℕ) → from_be_bytes w32 (a ∷ b ∷ c ∷ d ∷ []) ≡ word4 a b c d
from_bytes a b c d = omega arith

-- a word's own bytes are its diagonal
pub own_diagonal : (w : ℕ) → w < 4294967296 → to_be_bytes w32 w ≡ diagonal w w w w
own_diagonal w h =
    let e : w / 16777216 % 256 ≡ w / 16777216 = omega arith in
    ap (λ x. x ∷ w / 65536 % 256 ∷ w / 256 % 256 ∷ w % 256 ∷ []) e

pub diagonal_back : (l : List ℕ) (w : ℕ) → length l ≡ 4 → Small l → from_be_bytes w32 l ≡ w → l ≡ diagonal w w w w
diagonal_back l w long small e =
    sym (be_bytes_4 l w long small (sym e))
    ∙ own_diagonal w (omega (arith, e, small 0, small 1, small 2, small 3))

pub high_byte : (a : ℕ) → from_be_bytes w32 (a ∷ 0 ∷ 0 ∷ 0 ∷ []) ≡ a * 16777216
high_byte a = omega arith

rotated : (w k j m : ℕ) → w * m % 4294967296 ≡ w % 2 ^ j * 2 ^ k → w / 2 ^ j < 2 ^ k
    → bit_or (w / 2 ^ j) (w * m % 4294967296) ≡ w / 2 ^ j + w % 2 ^ j * 2 ^ k
rotated w k j m e h =
    ap (bit_or (w / 2 ^ j)) e ∙ or_comm (w / 2 ^ j) (w % 2 ^ j * 2 ^ k) ∙ or_shifted (w % 2 ^ j) k (w / 2 ^ j) h
    ∙ add_comm (w % 2 ^ j * 2 ^ k) (w / 2 ^ j)

pub rotated1 : (w : ℕ) → w < 4294967296 → rotate_right w32 w 8 ≡ turned1 w
rotated1 w h = rotated w 24 8 16777216 (omega arith) (omega arith)

pub rotated2 : (w : ℕ) → w < 4294967296 → rotate_right w32 w 16 ≡ turned2 w
rotated2 w h = rotated w 16 16 65536 (omega arith) (omega arith)

pub rotated3 : (w : ℕ) → w < 4294967296 → rotate_right w32 w 24 ≡ turned3 w
rotated3 w h = rotated w 8 24 256 (omega arith) (omega arith)

pub rotated_left : (w : ℕ) → w < 4294967296 → rotate_left w32 w 8 ≡ turned3 w
rotated_left w h = or_comm (w * 256 % 4294967296) (w / 16777216) ∙ rotated3 w h

-- byte by byte
pub xor_word : (a b c d x y z t : ℕ) → b < 256 → c < 256 → d < 256 → y < 256 → z < 256 → t < 256
    → word4 a b c d ⊕ word4 x y z t ≡ word4 (a ⊕ x) (b ⊕ y) (c ⊕ z) (d ⊕ t)
unfolding ◌⊕◌
xor_word a b c d x y z t hb hc hd hy hz ht =
    xor_block 8 ((a * 256 + b) * 256 + c) ((x * 256 + y) * 256 + z) d t hd ht
    ∙ ap (λ v. v * 256 + bit_xor d t) (xor_block 8 (a * 256 + b) (x * 256 + y) c z hc hz)
    ∙ ap (λ v. (v * 256 + bit_xor c z) * 256 + bit_xor d t) (xor_block 8 a x b y hb hy)

-- ------------------------------------------------------------------------
-- Blocks

word_bytes : (w : ℕ) → Bytes 4 (four_bytes w)
word_bytes w = four_bytes_lem _ _ _ _ (omega arith) (omega arith) (omega arith) (omega arith)

pub block_bytes : (s : Block) → Bytes 16 (bytes_of s)
block_bytes s =
    append_bytes 4 12 _ _ (word_bytes s.a) (append_bytes 4 8 _ _ (word_bytes s.b) (append_bytes 4 4 _ _ (word_bytes s.c) (word_bytes s.d)))

-- a block is that of its bytes
pub block_whole : (s : Block) → Fit s → block_of (bytes_of s) ≡ s
block_whole s h =
    λ i. record { a = word_whole s.a h.a i; b = word_whole s.b h.b i; c = word_whole s.c h.c i; d = word_whole s.d h.d i }

-- and 16 bytes are those of their block
pub bytes_whole : (xs : List ℕ) → Bytes 16 xs → bytes_of (block_of xs) ≡ xs
bytes_whole xs k =
    let h = k.small in
    ap₂ ◌++◌ (bytes_of_word _ _ _ _ (h 0) (h 1) (h 2) (h 3))
    (ap₂ ◌++◌ (bytes_of_word _ _ _ _ (h 4) (h 5) (h 6) (h 7))
    (ap₂ ◌++◌ (bytes_of_word _ _ _ _ (h 8) (h 9) (h 10) (h 11)) (bytes_of_word _ _ _ _ (h 12) (h 13) (h 14) (h 15))))
    ∙ sym (from xs 0 16 k.long)

pub block_fits : (xs : List ℕ) → Bytes 16 xs → Fit (block_of xs)
block_fits xs k =
    let h = k.small in
    record {
      a = word_fits _ _ _ _ (h 0) (h 1) (h 2) (h 3);
      b = word_fits _ _ _ _ (h 4) (h 5) (h 6) (h 7);
      c = word_fits _ _ _ _ (h 8) (h 9) (h 10) (h 11);
      d = word_fits _ _ _ _ (h 12) (h 13) (h 14) (h 15);
    }
