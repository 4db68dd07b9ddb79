-- A look-up is a substitution and its part in a mixed column; so a round by tables
-- is a round of FIPS 197, and, with the columns mirrored, a round of its inverse.
-- Assumes nothing.
use mathlib.Core.Path.{◌≡◌, refl, sym, ap, ap₂, ◌∙◌}
use mathlib.Core.List.{List, map}
use Prim.Native.Nat.{ℕ, ◌/◌, ◌%◌, ◌<◌}
use native.Mathlib.Omega.{arith}
use lib.ListN.{get_or, get_or-map}
use Rattle.rules.specs.Fields.{four_bytes}
use Rattle.rules.specs.AesBytes.{◌⊕◌, if_set, x_times, product_below, ◌•◌, sub_byte, inv_sub_byte}
use Rattle.rules.specs.Aes.{◌⊞◌, state, sub_bytes, inv_sub_bytes, shift_rows, inv_shift_rows, by_matrix, columns, mix_columns, inv_mix_columns}
use Rattle.rules.specs.Aes.{add_round_key}
use Rattle.fips197.specs.Boxes.{sbox, inv_sbox}
use Rattle.fips197.proofs.XorLaws.{⊕-byte}
use Rattle.fips197.proofs.ProductLaws.{•-byte}
use Rattle.fips197.proofs.MixLaws.{matrix_bytes}
use Rattle.fips197.proofs.BoxLaws.{sbox_rule, inv_sbox_rule, sub_byte_lem, inv_sub_byte_lem, sub_back}
use Rattle.aes.specs.Words.{word4, word_at, block_of, bytes_of, Fit}
use Rattle.aes.specs.Tables.{mixed_by, mix_table, inv_mix_table}
use Rattle.aes.specs.ByTables.{turned1, turned2, turned3, column_of, substituted_of, mirrored, round_of, last_of, sub_word_by, unmixed_word}
use Rattle.aes.specs.declared.Block.{Block}
use Rattle.aes.proofs.WordsLaws.{word_whole, first_byte, second_byte, third_byte, last_byte, word_fits}
use Rattle.aes.proofs.WordsLaws.{turned1_word, turned2_word, turned3_word, xor_word}

-- ------------------------------------------------------------------------
-- The tables

-- by a number of any byte
entries : (f : ℕ → ℕ) (box : List ℕ) (g : ℕ → ℕ) → f 0 ≡ 0 → ((x : ℕ) → x < 256 → g x ≡ get_or box x 0)
    → (x : ℕ) → x < 256 → get_or (map f box) x 0 ≡ f (g x)
entries f box g z e x h =
    ap (λ d. get_or (map f box) x d) (sym z) ∙ get_or-map f box x 0 ∙ ap f (sym (e x h))

zero_mix : mixed_by 0x02 0x01 0x01 0x03 0 ≡ 0
unfolding ◌⊕◌ if_set x_times product_below ◌•◌
zero_mix = refl

zero_inv_mix : mixed_by 0x0E 0x09 0x0D 0x0B 0 ≡ 0
unfolding ◌⊕◌ if_set x_times product_below ◌•◌
zero_inv_mix = refl

mix_entry : (x : ℕ) → x < 256 → get_or mix_table x 0 ≡ mixed_by 0x02 0x01 0x01 0x03 (sub_byte x)
unfolding mix_table
mix_entry = entries (mixed_by 0x02 0x01 0x01 0x03) sbox sub_byte zero_mix sbox_rule

inv_mix_entry : (x : ℕ) → x < 256 → get_or inv_mix_table x 0 ≡ mixed_by 0x0E 0x09 0x0D 0x0B (inv_sub_byte x)
unfolding inv_mix_table
inv_mix_entry = entries (mixed_by 0x0E 0x09 0x0D 0x0B) inv_sbox inv_sub_byte zero_inv_mix inv_sbox_rule

-- ------------------------------------------------------------------------
-- A column, over the matrix, the substitution and the table

-- four bytes and those of a round key's word
abbrev keyed : ℕ → ℕ → ℕ → ℕ → ℕ → ℕ
keyed a b c d k = word4 (a ⊕ (k / 16777216 % 256)) (b ⊕ (k / 65536 % 256)) (c ⊕ (k / 256 % 256)) (d ⊕ (k % 256))

word_keyed : (a b c d k : ℕ) → b < 256 → c < 256 → d < 256 → k < 4294967296 → word4 a b c d ⊕ k ≡ keyed a b c d k
word_keyed a b c d k hb hc hd hk =
    ap (λ v. word4 a b c d ⊕ v) (sym (word_whole k hk))
    ∙ xor_word a b c d (k / 16777216 % 256) (k / 65536 % 256) (k / 256 % 256) (k % 256) hb hc hd (omega arith) (omega arith) (omega arith)

module _ (t : List ℕ) (f : ℕ → ℕ) (m0 m1 m2 m3 : ℕ) (small : (x : ℕ) → f x < 256)
    (entry : (x : ℕ) → x < 256 → get_or t x 0 ≡ mixed_by m0 m1 m2 m3 (f x)) where
  -- the four look-ups are four words of bytes, each turned into its row
  module _ (A B C D : ℕ) (hA : A < 256) (hB : B < 256) (hC : C < 256) (hD : D < 256) where
    p : (m x : ℕ) → x < 256 → m • x < 256
    p m x h = •-byte m x h

    rows : (mixed_by m0 m1 m2 m3 A ⊕ turned1 (mixed_by m0 m1 m2 m3 B)) ⊕ (turned2 (mixed_by m0 m1 m2 m3 C) ⊕ turned3 (mixed_by m0 m1 m2 m3 D))
        ≡ word_at (by_matrix m0 m1 m2 m3 A B C D) 0
    unfolding by_matrix
    rows =
        ap₂ ◌⊕◌
        (ap (λ v. mixed_by m0 m1 m2 m3 A ⊕ v) (turned1_word (m0 • B) (m1 • B) (m2 • B) (m3 • B) (p m0 B hB) (p m1 B hB) (p m2 B hB) (p m3 B hB))
        ∙ xor_word (m0 • A) (m1 • A) (m2 • A) (m3 • A) (m3 • B) (m0 • B) (m1 • B) (m2 • B)
        (p m1 A hA) (p m2 A hA) (p m3 A hA) (p m0 B hB) (p m1 B hB) (p m2 B hB))
        (ap₂ ◌⊕◌
        (turned2_word (m0 • C) (m1 • C) (m2 • C) (m3 • C) (p m0 C hC) (p m1 C hC) (p m2 C hC) (p m3 C hC))
        (turned3_word (m0 • D) (m1 • D) (m2 • D) (m3 • D) (p m0 D hD) (p m1 D hD) (p m2 D hD) (p m3 D hD))
        ∙ xor_word (m2 • C) (m3 • C) (m0 • C) (m1 • C) (m1 • D) (m2 • D) (m3 • D) (m0 • D)
        (p m3 C hC) (p m0 C hC) (p m1 C hC) (p m2 D hD) (p m3 D hD) (p m0 D hD))
        ∙ xor_word (m0 • A ⊕ m3 • B) (m1 • A ⊕ m0 • B) (m2 • A ⊕ m1 • B) (m3 • A ⊕ m2 • B)
        (m2 • C ⊕ m1 • D) (m3 • C ⊕ m2 • D) (m0 • C ⊕ m3 • D) (m1 • C ⊕ m0 • D)
        (⊕-byte _ _ (p m1 A hA) (p m0 B hB)) (⊕-byte _ _ (p m2 A hA) (p m1 B hB)) (⊕-byte _ _ (p m3 A hA) (p m2 B hB))
        (⊕-byte _ _ (p m3 C hC) (p m2 D hD)) (⊕-byte _ _ (p m0 C hC) (p m3 D hD)) (⊕-byte _ _ (p m1 C hC) (p m0 D hD))

  pub column_is : (a b c d : ℕ) → a < 4294967296
      → column_of t a b c d
      ≡ word_at (by_matrix m0 m1 m2 m3 (f (a / 16777216 % 256)) (f (b / 65536 % 256)) (f (c / 256 % 256)) (f (d % 256))) 0
  unfolding column_of
  column_is a b c d ha =
      let e : a / 16777216 ≡ a / 16777216 % 256 = omega arith in
      ap₂ ◌⊕◌
      (ap₂ ◌⊕◌ (ap (λ x. get_or t x 0) e ∙ entry (a / 16777216 % 256) (omega arith)) (ap turned1 (entry (b / 65536 % 256) (omega arith))))
      (ap₂ ◌⊕◌ (ap turned2 (entry (c / 256 % 256) (omega arith))) (ap turned3 (entry (d % 256) (omega arith))))
      ∙ rows (f (a / 16777216 % 256)) (f (b / 65536 % 256)) (f (c / 256 % 256)) (f (d % 256)) (small _) (small _) (small _) (small _)

  -- and with the round key's word
  pub column_keyed : (a b c d k : ℕ) → a < 4294967296 → k < 4294967296
      → column_of t a b c d ⊕ k
      ≡ word_at (by_matrix m0 m1 m2 m3 (f (a / 16777216 % 256)) (f (b / 65536 % 256)) (f (c / 256 % 256)) (f (d % 256)) ⊞ four_bytes k) 0
  unfolding by_matrix ◌⊞◌
  column_keyed a b c d k ha hk =
      let h = (matrix_bytes m0 m1 m2 m3 (f (a / 16777216 % 256)) (f (b / 65536 % 256)) (f (c / 256 % 256)) (f (d % 256))
      (small _) (small _) (small _) (small _)).small in
      ap (λ v. v ⊕ k) (column_is a b c d ha) ∙ word_keyed _ _ _ _ k (h 1) (h 2) (h 3) hk

-- the same of a substitution alone
module _ (box : List ℕ) (f : ℕ → ℕ) (small : (x : ℕ) → f x < 256) (entry : (x : ℕ) → x < 256 → f x ≡ get_or box x 0) where
  pub substituted_is : (a b c d : ℕ) → a < 4294967296
      → substituted_of box a b c d ≡ word4 (f (a / 16777216 % 256)) (f (b / 65536 % 256)) (f (c / 256 % 256)) (f (d % 256))
  unfolding substituted_of
  substituted_is a b c d ha =
      let e : a / 16777216 ≡ a / 16777216 % 256 = omega arith in
      let x : get_or box (a / 16777216) 0 ≡ f (a / 16777216 % 256) = ap (λ n. get_or box n 0) e ∙ sym (entry (a / 16777216 % 256) (omega arith)) in
      let y = sym (entry (b / 65536 % 256) (omega arith)) in
      let z = sym (entry (c / 256 % 256) (omega arith)) in
      let t = sym (entry (d % 256) (omega arith)) in
      λ i. word4 (x i) (y i) (z i) (t i)

  substituted : (a b c d k : ℕ) → a < 4294967296 → k < 4294967296
      → substituted_of box a b c d ⊕ k
      ≡ keyed (f (a / 16777216 % 256)) (f (b / 65536 % 256)) (f (c / 256 % 256)) (f (d % 256)) k
  substituted a b c d k ha hk = ap (λ v. v ⊕ k) (substituted_is a b c d ha) ∙ word_keyed _ _ _ _ k (small _) (small _) (small _) hk

-- ------------------------------------------------------------------------
-- A round

module _ (s k : Block) (hs : Fit s) (hk : Fit k) where
  column : (a b c d k : ℕ) → a < 4294967296 → k < 4294967296
      → column_of mix_table a b c d ⊕ k
      ≡ word_at (by_matrix 0x02 0x01 0x01 0x03 (sub_byte (a / 16777216 % 256)) (sub_byte (b / 65536 % 256)) (sub_byte (c / 256 % 256)) (sub_byte (d % 256))
      ⊞ four_bytes k) 0
  column = column_keyed mix_table sub_byte 0x02 0x01 0x01 0x03 sub_byte_lem mix_entry

  pub round_is : round_of mix_table s k ≡ block_of (add_round_key (bytes_of k) (mix_columns (shift_rows (sub_bytes (bytes_of s)))))
  unfolding by_matrix columns mix_columns state shift_rows sub_bytes add_round_key ◌⊞◌
  round_is = λ i. record {
    a = column s.a s.b s.c s.d k.a hs.a hk.a i;
    b = column s.b s.c s.d s.a k.b hs.b hk.b i;
    c = column s.c s.d s.a s.b k.c hs.c hk.c i;
    d = column s.d s.a s.b s.c k.d hs.d hk.d i;
  }

  -- the last round: the bytes alone
  pub last_is : last_of sbox s k ≡ block_of (add_round_key (bytes_of k) (shift_rows (sub_bytes (bytes_of s))))
  unfolding state shift_rows sub_bytes add_round_key ◌⊞◌
  last_is = λ i. record {
    a = substituted sbox sub_byte sub_byte_lem sbox_rule s.a s.b s.c s.d k.a hs.a hk.a i;
    b = substituted sbox sub_byte sub_byte_lem sbox_rule s.b s.c s.d s.a k.b hs.b hk.b i;
    c = substituted sbox sub_byte sub_byte_lem sbox_rule s.c s.d s.a s.b k.c hs.c hk.c i;
    d = substituted sbox sub_byte sub_byte_lem sbox_rule s.d s.a s.b s.c k.d hs.d hk.d i;
  }

  -- the last round of the inverse, mirrored
  pub inv_last_is : last_of inv_sbox (mirrored s) (mirrored k)
      ≡ mirrored (block_of (add_round_key (bytes_of k) (inv_sub_bytes (inv_shift_rows (bytes_of s)))))
  unfolding state inv_shift_rows inv_sub_bytes add_round_key ◌⊞◌
  inv_last_is = λ i. record {
    a = substituted inv_sbox inv_sub_byte inv_sub_byte_lem inv_sbox_rule s.a s.d s.c s.b k.a hs.a hk.a i;
    b = substituted inv_sbox inv_sub_byte inv_sub_byte_lem inv_sbox_rule s.d s.c s.b s.a k.d hs.d hk.d i;
    c = substituted inv_sbox inv_sub_byte inv_sub_byte_lem inv_sbox_rule s.c s.b s.a s.d k.c hs.c hk.c i;
    d = substituted inv_sbox inv_sub_byte inv_sub_byte_lem inv_sbox_rule s.b s.a s.d s.c k.b hs.b hk.b i;
  }

  -- a round of the inverse, mirrored, with a round key that is mixed back
  inv_column : (a b c d k : ℕ) → a < 4294967296 → k < 4294967296
      → column_of inv_mix_table a b c d ⊕ k
      ≡ word_at (by_matrix 0x0E 0x09 0x0D 0x0B (inv_sub_byte (a / 16777216 % 256)) (inv_sub_byte (b / 65536 % 256)) (inv_sub_byte (c / 256 % 256))
      (inv_sub_byte (d % 256)) ⊞ four_bytes k) 0
  inv_column = column_keyed inv_mix_table inv_sub_byte 0x0E 0x09 0x0D 0x0B inv_sub_byte_lem inv_mix_entry

  pub inv_round_is : round_of inv_mix_table (mirrored s) (mirrored k)
      ≡ mirrored (block_of (add_round_key (bytes_of k) (inv_mix_columns (inv_sub_bytes (inv_shift_rows (bytes_of s))))))
  unfolding by_matrix columns inv_mix_columns state inv_shift_rows inv_sub_bytes add_round_key ◌⊞◌
  inv_round_is = λ i. record {
    a = inv_column s.a s.d s.c s.b k.a hs.a hk.a i;
    b = inv_column s.d s.c s.b s.a k.d hs.d hk.d i;
    c = inv_column s.c s.b s.a s.d k.c hs.c hk.c i;
    d = inv_column s.b s.a s.d s.c k.b hs.b hk.b i;
  }

-- ------------------------------------------------------------------------
-- A word of a round key, mixed back

module _ (w : ℕ) (hw : w < 4294967296) where
  sub_word_is : sub_word_by sbox w
      ≡ word4 (sub_byte (w / 16777216 % 256)) (sub_byte (w / 65536 % 256)) (sub_byte (w / 256 % 256)) (sub_byte (w % 256))
  sub_word_is = substituted_is sbox sub_byte sub_byte_lem sbox_rule w w w w hw

  pub unmixed_is : unmixed_word inv_mix_table sbox w
      ≡ word_at (by_matrix 0x0E 0x09 0x0D 0x0B (w / 16777216 % 256) (w / 65536 % 256) (w / 256 % 256) (w % 256)) 0
  unmixed_is =
      let A = sub_byte (w / 16777216 % 256) in
      let B = sub_byte (w / 65536 % 256) in
      let C = sub_byte (w / 256 % 256) in
      let D = sub_byte (w % 256) in
      let hA : A < 256 = sub_byte_lem _ in
      let hB : B < 256 = sub_byte_lem _ in
      let hC : C < 256 = sub_byte_lem _ in
      let hD : D < 256 = sub_byte_lem _ in
      let a = ap inv_sub_byte (first_byte A B C D hA hB hC hD) ∙ sub_back (w / 16777216 % 256) (omega arith) in
      let b = ap inv_sub_byte (second_byte A B C D hA hB hC hD) ∙ sub_back (w / 65536 % 256) (omega arith) in
      let c = ap inv_sub_byte (third_byte A B C D hA hB hC hD) ∙ sub_back (w / 256 % 256) (omega arith) in
      let d = ap inv_sub_byte (last_byte A B C D hA hB hC hD) ∙ sub_back (w % 256) (omega arith) in
      ap (λ v. column_of inv_mix_table v v v v) sub_word_is
      ∙ column_is inv_mix_table inv_sub_byte 0x0E 0x09 0x0D 0x0B inv_sub_byte_lem inv_mix_entry _ _ _ _ (word_fits A B C D hA hB hC hD)
      ∙ (λ i. word_at (by_matrix 0x0E 0x09 0x0D 0x0B (a i) (b i) (c i) (d i)) 0)
