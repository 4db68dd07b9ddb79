-- The cipher by the right tables is FIPS 197's, and so is its inverse.
-- Assumes nothing.
use mathlib.Core.Path.{◌≡◌, refl, sym, ap, ap₂, ◌∙◌}
use mathlib.Core.List.{List}
use mathlib.Core.Bool.{cond}
use mathlib.Core.Logic.{by_cases}
use Prim.Native.Nat.{ℕ, zero, suc, ◌≤◌}
use native.Mathlib.Omega.{arith}
use native.Mathlib.Decide.{ℕ_discrete}
use lib.ListN.{length, get_or}
use lib.Dec.{eqb}
use borrow.Author.Tests.{eq-eqb, ne_eqb}
use Rattle.rules.specs.Aes.{◌⊞◌, sub_bytes, inv_sub_bytes, shift_rows, inv_shift_rows, mix_columns, inv_mix_columns, add_round_key, key_expansion}
use Rattle.rules.specs.Aes.{round_key}
use Rattle.rules.specs.Aes.{rounds, cipher_with, inv_rounds, inv_cipher_with, cipher, inv_cipher}
use Rattle.rules.specs.AesPromises.{Small, Bytes}
use Rattle.fips197.specs.Boxes.{sbox, inv_sbox}
use Rattle.fips197.proofs.BytesLaws.{listed, from}
use Rattle.fips197.proofs.RoundLaws.{inv_mix-⊞, inv_mix_bytes, key_bytes}
use Rattle.fips197.proofs.KeyLaws.{expansion_bytes, round_key_lem}
use Rattle.fips197.proofs.CipherLaws.{inv_inner_bytes, rounds_bytes, inv_round_bytes, inv_rounds_bytes}
use Rattle.aes.specs.Words.{block_of, bytes_of, Fit}
use Rattle.aes.specs.Tables.{mix_table, inv_mix_table}
use Rattle.aes.specs.ByTables.{added, mirrored, round_of, last_of, rounds_by, back_by, cipher_by, inv_cipher_by, words_of, expanded_by, unmixed_by}
use Rattle.aes.specs.declared.Block.{Block}
use Rattle.aes.proofs.WordsLaws.{xor_word, block_bytes, block_whole, bytes_whole, block_fits}
use Rattle.aes.proofs.ColumnsLaws.{round_is, last_is, inv_last_is, inv_round_is}
use Rattle.aes.proofs.ExpandingLaws.{schedule_is, key_at_lem, first_key, mid_key, last_key}

added_listed : (s k : List ℕ) → Bytes 16 s → Bytes 16 k → added (block_of s) (block_of k) ≡ block_of (add_round_key (listed k 0 16) (listed s 0 16))
unfolding add_round_key ◌⊞◌
added_listed s k hs hk =
    let p = hs.small in
    let q = hk.small in
    let a = xor_word (get_or s 0 0) _ _ _ (get_or k 0 0) _ _ _ (p 1) (p 2) (p 3) (q 1) (q 2) (q 3) in
    let b = xor_word (get_or s 4 0) _ _ _ (get_or k 4 0) _ _ _ (p 5) (p 6) (p 7) (q 5) (q 6) (q 7) in
    let c = xor_word (get_or s 8 0) _ _ _ (get_or k 8 0) _ _ _ (p 9) (p 10) (p 11) (q 9) (q 10) (q 11) in
    let d = xor_word (get_or s 12 0) _ _ _ (get_or k 12 0) _ _ _ (p 13) (p 14) (p 15) (q 13) (q 14) (q 15) in
    λ i. record { a = a i; b = b i; c = c i; d = d i }

added_is : (s k : List ℕ) → Bytes 16 s → Bytes 16 k → added (block_of s) (block_of k) ≡ block_of (add_round_key k s)
added_is s k hs hk =
    added_listed s k hs hk ∙ sym (ap₂ (λ x y. block_of (add_round_key x y)) (from k 0 16 hk.long) (from s 0 16 hs.long))

module _ (s k : List ℕ) (hs : Bytes 16 s) (hk : Bytes 16 k) where
  round_of_lem : round_of mix_table (block_of s) (block_of k) ≡ block_of (add_round_key k (mix_columns (shift_rows (sub_bytes s))))
  round_of_lem =
      round_is (block_of s) (block_of k) (block_fits s hs) (block_fits k hk)
      ∙ ap₂ (λ x y. block_of (add_round_key x (mix_columns (shift_rows (sub_bytes y))))) (bytes_whole k hk) (bytes_whole s hs)

  last_of_lem : last_of sbox (block_of s) (block_of k) ≡ block_of (add_round_key k (shift_rows (sub_bytes s)))
  last_of_lem =
      last_is (block_of s) (block_of k) (block_fits s hs) (block_fits k hk)
      ∙ ap₂ (λ x y. block_of (add_round_key x (shift_rows (sub_bytes y)))) (bytes_whole k hk) (bytes_whole s hs)

  inv_last_of : last_of inv_sbox (mirrored (block_of s)) (mirrored (block_of k)) ≡ mirrored (block_of (add_round_key k (inv_sub_bytes (inv_shift_rows s))))
  inv_last_of =
      inv_last_is (block_of s) (block_of k) (block_fits s hs) (block_fits k hk)
      ∙ ap₂ (λ x y. mirrored (block_of (add_round_key x (inv_sub_bytes (inv_shift_rows y))))) (bytes_whole k hk) (bytes_whole s hs)

  -- 5.3.5: the round key, mixed back, is added behind the mixing
  inv_round_of : round_of inv_mix_table (mirrored (block_of s)) (mirrored (block_of (inv_mix_columns k)))
      ≡ mirrored (block_of (inv_mix_columns (add_round_key k (inv_sub_bytes (inv_shift_rows s)))))
  unfolding add_round_key
  inv_round_of =
      let m : Bytes 16 (inv_mix_columns k) = inv_mix_bytes k hk.small in
      inv_round_is (block_of s) (block_of (inv_mix_columns k)) (block_fits s hs) (block_fits (inv_mix_columns k) m)
      ∙ ap₂ (λ x y. mirrored (block_of (add_round_key x (inv_mix_columns (inv_sub_bytes (inv_shift_rows y))))))
      (bytes_whole (inv_mix_columns k) m) (bytes_whole s hs)
      ∙ ap (λ x. mirrored (block_of x)) (sym (inv_mix-⊞ (inv_sub_bytes (inv_shift_rows s)) k (inv_inner_bytes s hs) hk))

module _ (w : List ℕ) (hw : Bytes 240 w) where
  key : (r : ℕ) → r ≤ 14 → Bytes 16 (round_key w r)
  key r h = round_key_lem w r hw h

  rounds_is : (r : ℕ) → r ≤ 13 → (s : List ℕ) → Bytes 16 s → rounds_by mix_table (words_of w 60) r (block_of s) ≡ block_of (rounds w r s)
  unfolding rounds_by rounds
  rounds_is zero h s hs = refl
  rounds_is (suc r) h s hs =
      ap₂ (round_of mix_table) (rounds_is r (omega arith) s hs) (key_at_lem w (suc r) (omega arith))
      ∙ round_of_lem (rounds w r s) (round_key w (suc r)) (rounds_bytes w hw r (omega arith) s hs) (key (suc r) (omega arith))

  back_is : (r : ℕ) → r ≤ 13 → (s : List ℕ) → Bytes 16 s
      → back_by inv_mix_table (unmixed_by inv_mix_table sbox (words_of w 60)) r (mirrored (block_of s)) ≡ mirrored (block_of (inv_rounds w r s))
  unfolding back_by inv_rounds
  back_is zero h s hs = refl
  back_is (suc r) h s hs =
      let u : List ℕ = unmixed_by inv_mix_table sbox (words_of w 60) in
      ap (λ k. back_by inv_mix_table u r (round_of inv_mix_table (mirrored (block_of s)) (mirrored k))) (mid_key w hw r h)
      ∙ ap (back_by inv_mix_table u r) (inv_round_of s (round_key w (suc r)) hs (key (suc r) (omega arith)))
      ∙ back_is r (omega arith) _ (inv_round_bytes w hw (suc r) (omega arith) s hs)

  module _ (s : List ℕ) (hs : Bytes 16 s) where
    start : Bytes 16 (add_round_key (round_key w 0) s)
    start = key_bytes 16 (round_key w 0) s (key 0 (omega arith)) hs

    pub cipher_by_is : cipher_by mix_table sbox (words_of w 60) (block_of s) ≡ block_of (cipher_with w s)
    unfolding cipher_by cipher_with
    cipher_by_is =
        let first = ap (added (block_of s)) (key_at_lem w 0 (omega arith)) ∙ added_is s (round_key w 0) hs (key 0 (omega arith)) in
        ap₂ (λ x k. last_of sbox (rounds_by mix_table (words_of w 60) 13 x) k) first (key_at_lem w 14 (omega arith))
        ∙ ap (λ x. last_of sbox x (block_of (round_key w 14))) (rounds_is 13 (omega arith) _ start)
        ∙ last_of_lem _ (round_key w 14) (rounds_bytes w hw 13 (omega arith) _ start) (key 14 (omega arith))

    end : Bytes 16 (add_round_key (round_key w 14) s)
    end = key_bytes 16 (round_key w 14) s (key 14 (omega arith)) hs

    pub inv_cipher_by_is : inv_cipher_by inv_mix_table inv_sbox (unmixed_by inv_mix_table sbox (words_of w 60)) (block_of s) ≡ block_of (inv_cipher_with w s)
    unfolding inv_cipher_by inv_cipher_with
    inv_cipher_by_is =
        let u : List ℕ = unmixed_by inv_mix_table sbox (words_of w 60) in
        let first = ap (added (block_of s)) (last_key w hw) ∙ added_is s (round_key w 14) hs (key 14 (omega arith)) in
        ap₂ (λ x k. mirrored (last_of inv_sbox (back_by inv_mix_table u 13 (mirrored x)) (mirrored k))) first (first_key w hw)
        ∙ ap (λ x. mirrored (last_of inv_sbox x (mirrored (block_of (round_key w 0))))) (back_is 13 (omega arith) _ end)
        ∙ ap mirrored (inv_last_of _ (round_key w 0) (inv_rounds_bytes w hw 13 (omega arith) _ end) (key 0 (omega arith)))

-- ------------------------------------------------------------------------
-- Under a key of 32 bytes

module _ (k : List ℕ) (hk : Bytes 32 k) (s : Block) (hs : Fit s) where
  pub cipher_is : cipher_by mix_table sbox (expanded_by sbox (words_of k 8) 52) s ≡ block_of (cipher k (bytes_of s))
  unfolding cipher
  cipher_is =
      ap₂ (cipher_by mix_table sbox) (schedule_is k hk) (sym (block_whole s hs))
      ∙ cipher_by_is (key_expansion k) (expansion_bytes k hk) (bytes_of s) (block_bytes s)

  pub inv_cipher_is : inv_cipher_by inv_mix_table inv_sbox (unmixed_by inv_mix_table sbox (expanded_by sbox (words_of k 8) 52)) s
      ≡ block_of (inv_cipher k (bytes_of s))
  unfolding inv_cipher
  inv_cipher_is =
      ap₂ (λ w x. inv_cipher_by inv_mix_table inv_sbox (unmixed_by inv_mix_table sbox w) x) (schedule_is k hk) (sym (block_whole s hs))
      ∙ inv_cipher_by_is (key_expansion k) (expansion_bytes k hk) (bytes_of s) (block_bytes s)

-- as the code has it: under any key
module _ (k : List ℕ) (small : Small k) (s : Block) (hs : Fit s) (r : Block) (other : (length k ≡ 32 → ⊥) → r ≡ s) where
  under : (t : Block) → (Bytes 32 k → r ≡ t) → r ≡ cond (eqb (length k) 32) t s
  under t told =
      by_cases (ℕ_discrete (length k) 32)
      (λ e. told (record { long = e; small = small }) ∙ (rw (eq-eqb (length k) 32 e)))
      (λ n. other n ∙ (rw (ne_eqb (length k) 32 n)))

  pub coded : (length k ≡ 32 → r ≡ cipher_by mix_table sbox (expanded_by sbox (words_of k 8) 52) s)
      → r ≡ cond (eqb (length k) 32) (block_of (cipher k (bytes_of s))) s
  coded told = under _ (λ hk. told hk.long ∙ cipher_is k hk s hs)

  pub decoded : (length k ≡ 32 → r ≡ inv_cipher_by inv_mix_table inv_sbox (unmixed_by inv_mix_table sbox (expanded_by sbox (words_of k 8) 52)) s)
      → r ≡ cond (eqb (length k) 32) (block_of (inv_cipher k (bytes_of s))) s
  decoded told = under _ (λ hk. told hk.long ∙ inv_cipher_is k hk s hs)
