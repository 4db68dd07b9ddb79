-- The steps over words are RFC 3394's over bytes.
-- Assumes nothing.
use mathlib.Core.Path.{◌≡◌, refl, sym, ap, ap₂, ◌∙◌}
use mathlib.Core.Bool.{cond}
use mathlib.Core.List.{List, ◌++◌, append_assoc}
use Prim.Native.Nat.{ℕ, zero, suc, ◌+◌, ◌-◌, ◌*◌, ◌≤◌, ◌<◌}
use native.Mathlib.Nat.{add-zero}
use native.Mathlib.Omega.{arith}
use lib.ListN.{length, get_or, take, drop}
use lib.Seq.{get_or-append-add, drop-drop}
use lib.Dec.{eqb, lit<}
use borrow.Author.Tests.{eq-eqb}
use Rattle.cells.specs.Cells.{part, write, within, zeros, cell, put}
use Rattle.cells.proofs.CellsLaws.{within_yes, length_write, length_put, write_end, drop_write}
use Rattle.rules.specs.Fields.{four_bytes}
use Rattle.rules.specs.AesBytes.{◌⊕◌}
use Rattle.rules.specs.Aes.{◌⊞◌, key_expansion, cipher_with, inv_cipher_with}
use Rattle.rules.specs.KeyWrap.{counter, block_of_step, wrap_step, wrap_steps, unwrap_step, unwrap_steps}
use Rattle.rules.specs.AesPromises.{Small, Bytes}
use Rattle.fips197.specs.Boxes.{sbox, inv_sbox}
use Rattle.fips197.proofs.XorLaws.{⊕-zero}
use Rattle.fips197.proofs.BytesLaws.{listed, from, small_append, small_take, small_drop, append_bytes, part_bytes, take_bytes, drop_bytes, xor_bytes}
use Rattle.fips197.proofs.KeyLaws.{expansion_bytes}
use Rattle.fips197.proofs.CipherLaws.{cipher_with_bytes, inv_cipher_with_bytes}
use Rattle.aes.specs.Words.{word4, word_at, block_of}
use Rattle.aes.specs.Tables.{mix_table, inv_mix_table}
use Rattle.aes.specs.ByTables.{words_of, expanded_by, unmixed_by, cipher_by, inv_cipher_by}
use Rattle.aes.specs.declared.Block.{Block}
use Rattle.aes.proofs.WordsLaws.{xor_word, bytes_of_word, bytes_whole}
use Rattle.aes.proofs.ExpandingLaws.{front_word, part_word, schedule_is}
use Rattle.aes.proofs.CipherLaws.{cipher_by_is, inv_cipher_by_is}
use Rattle.wrap.specs.Steps.{block_at, put_block, counted, wrap_step_by, unwrap_step_by, wrap_steps_by, unwrap_steps_by}

-- ------------------------------------------------------------------------
-- Words of bytes

-- behind n bytes
behind_word : (xs ys : List ℕ) (n j m : ℕ) → length xs ≡ n → n + j ≡ m → word_at (xs ++ ys) m ≡ word_at ys j
behind_word xs ys n j m h e =
    let at : (k l : ℕ) → n + k ≡ l → get_or (xs ++ ys) l 0 ≡ get_or ys k 0 =
    λ k l f. ap (λ v. get_or (xs ++ ys) v 0) (sym f ∙ ap (λ v. v + k) (sym h)) ∙ get_or-append-add xs ys k 0 in
    let a = at j m e in
    let b = at (j + 1) (m + 1) (omega arith) in
    let c = at (j + 2) (m + 2) (omega arith) in
    let d = at (j + 3) (m + 3) (omega arith) in
    λ i. word4 (a i) (b i) (c i) (d i)

-- eight bytes are those of their two words
eight_whole : (c : List ℕ) → Bytes 8 c → four_bytes (word_at c 0) ++ four_bytes (word_at c 4) ≡ c
eight_whole c k =
    let h = k.small in
    ap₂ ◌++◌ (bytes_of_word _ _ _ _ (h 0) (h 1) (h 2) (h 3)) (bytes_of_word _ _ _ _ (h 4) (h 5) (h 6) (h 7)) ∙ sym (from c 0 8 k.long)

-- t is added to the second
module _ (c : List ℕ) (hc : Bytes 8 c) (t : ℕ) (ht : t < 256) where
  expanded : c ⊞ counter t ≡ listed c 0 8 ⊞ counter t
  expanded = ap (λ l. l ⊞ counter t) (from c 0 8 hc.long)

  counted_first : word_at (c ⊞ counter t) 0 ≡ word_at c 0
  unfolding ◌⊞◌ counter zeros
  counted_first =
      let p = ⊕-zero (get_or c 0 0) in
      let q = ⊕-zero (get_or c 1 0) in
      let r = ⊕-zero (get_or c 2 0) in
      let s = ⊕-zero (get_or c 3 0) in
      ap (λ l. word_at l 0) expanded ∙ (λ i. word4 (p i) (q i) (r i) (s i))

  counted_second : word_at (c ⊞ counter t) 4 ≡ word_at c 4 ⊕ t
  unfolding ◌⊞◌ counter zeros
  counted_second =
      let h = hc.small in
      let e : word4 0 0 0 t ≡ t = omega arith in
      ap (λ l. word_at l 4) expanded
      ∙ sym (xor_word (get_or c 4 0) (get_or c 5 0) (get_or c 6 0) (get_or c 7 0) 0 0 0 t (h 5) (h 6) (h 7) (lit< tt) (lit< tt) ht)
      ∙ ap (λ v. word_at c 4 ⊕ v) e

  pub counter_bytes : Bytes 8 (c ⊞ counter t)
  unfolding counter zeros
  counter_bytes = xor_bytes 8 c (counter t) hc small
    where
      small : Small (counter t)
      small zero = lit< tt
      small (suc zero) = lit< tt
      small (suc (suc zero)) = lit< tt
      small (suc (suc (suc zero))) = lit< tt
      small (suc (suc (suc (suc zero)))) = lit< tt
      small (suc (suc (suc (suc (suc zero))))) = lit< tt
      small (suc (suc (suc (suc (suc (suc zero)))))) = lit< tt
      small (suc (suc (suc (suc (suc (suc (suc zero))))))) = ht
      small (suc (suc (suc (suc (suc (suc (suc (suc i)))))))) = lit< tt

-- ------------------------------------------------------------------------
-- Words stored where there are 40 bytes

abbrev StoredAt : ℕ → ℕ → List ℕ → List ℕ → Type 0
StoredAt at v s new = new ≡ cond (within at 4 s) (write at 4 (four_bytes v) s) s

module _ (s new : List ℕ) (at v : ℕ) (long : length s ≡ 40) (room : at + 4 ≤ 40) (e : StoredAt at v s new) where
  stored : new ≡ write at 4 (four_bytes v) s
  stored = e ∙ ap (λ b. cond b (write at 4 (four_bytes v) s) s) (within_yes at 4 s (omega arith))

  stored_length : length new ≡ 40
  stored_length = ap length stored ∙ length_write at 4 (four_bytes v) s (omega arith) refl ∙ long

module _ (s s1 s2 s3 s4 : List ℕ) (at : ℕ) (x : Block) (long : length s ≡ 40) (room : at ≤ 32)
    (e1 : StoredAt at x.c s s1) (e2 : StoredAt (at + 4) x.d s1 s2) (e3 : StoredAt 0 x.a s2 s3) (e4 : StoredAt 4 x.b s3 s4) where
  l1 : length s1 ≡ 40
  l1 = stored_length s s1 at x.c long (omega arith) e1

  l2 : length s2 ≡ 40
  l2 = stored_length s1 s2 (at + 4) x.d l1 (omega arith) e2

  l3 : length s3 ≡ 40
  l3 = stored_length s2 s3 0 x.a l2 (omega arith) e3

  pub put_words : s4 ≡ put_block at x s
  unfolding put_block
  put_words =
      stored s3 s4 4 x.b l3 (omega arith) e4
      ∙ ap (write 4 4 (four_bytes x.b)) (stored s2 s3 0 x.a l2 (omega arith) e3
      ∙ ap (write 0 4 (four_bytes x.a)) (stored s1 s2 (at + 4) x.d l1 (omega arith) e2
      ∙ ap (write (at + 4) 4 (four_bytes x.d)) (stored s s1 at x.c long (omega arith) e1)))

-- ------------------------------------------------------------------------
-- Two writes side by side

write_join : (a m n : ℕ) (p q s : List ℕ) → length p ≡ m → a + (m + n) ≤ length s
    → write (a + m) n q (write a m p s) ≡ write a (m + n) (p ++ q) s
unfolding write
write_join a m n p q s e h =
    let first : List ℕ = take a s ++ (p ++ drop m (drop a s)) in
    let tail : drop n (drop (a + m) first) ≡ drop (m + n) (drop a s) =
    ap (drop n) (drop_write a m p s (omega arith) e (a + m) (omega arith)) ∙ drop-drop n (a + m) s
    ∙ (let k : a + m + n ≡ a + (m + n) = omega arith in ap (λ v. drop v s) k) ∙ sym (drop-drop (m + n) a s) in
    ap₂ (λ x y. x ++ (q ++ y)) (write_end a m p s (omega arith) e) tail
    ∙ append_assoc (take a s) p _ ∙ ap (λ l. take a s ++ l) (sym (append_assoc p q _))

module _ (s : List ℕ) (hs : Bytes 40 s) (i : ℕ) (from1 : 1 ≤ i) (to4 : i ≤ 4) where
  put_is : (x : Block) (p q : List ℕ) → four_bytes x.a ++ four_bytes x.b ≡ p → four_bytes x.c ++ four_bytes x.d ≡ q
      → put_block (i * 8) x s ≡ put 8 0 p (put 8 i q s)
  unfolding put_block put
  put_is x p q e f =
      let long = hs.long in
      let r : List ℕ = write (i * 8) 8 q s in
      let behind : write (i * 8 + 4) 4 (four_bytes x.d) (write (i * 8) 4 (four_bytes x.c) s) ≡ r =
      write_join (i * 8) 4 4 (four_bytes x.c) (four_bytes x.d) s refl (omega arith) ∙ ap (λ l. write (i * 8) 8 l s) f in
      let l : length q ≡ 8 = sym (ap length f) in
      let k : length r ≡ 40 = length_write (i * 8) 8 q s (omega arith) l ∙ long in
      ap (λ v. write 4 4 (four_bytes x.b) (write 0 4 (four_bytes x.a) v)) behind
      ∙ write_join 0 4 4 (four_bytes x.a) (four_bytes x.b) r refl (omega arith) ∙ ap (λ v. write 0 8 v r) e

  pub a_bytes : Bytes 8 (cell 8 0 s)
  unfolding cell
  a_bytes = part_bytes 0 8 s (omega (arith, hs.long)) hs.small

  pub r_bytes : Bytes 8 (cell 8 i s)
  unfolding cell
  r_bytes = part_bytes (i * 8) 8 s (omega (arith, hs.long)) hs.small

  -- some eight bytes, then R[i]
  behind_first : (c : List ℕ) → length c ≡ 8 → word_at (c ++ cell 8 i s) 8 ≡ word_at s (i * 8)
  unfolding cell
  behind_first c h = behind_word c (cell 8 i s) 8 0 8 h refl ∙ part_word (i * 8) 8 0 s (omega arith) ∙ ap (word_at s) (add-zero (i * 8))

  behind_second : (c : List ℕ) → length c ≡ 8 → word_at (c ++ cell 8 i s) 12 ≡ word_at s (i * 8 + 4)
  unfolding cell
  behind_second c h = behind_word c (cell 8 i s) 8 4 12 h refl ∙ part_word (i * 8) 8 4 s (omega arith)

  first_word : word_at (cell 8 0 s) 0 ≡ word_at s 0
  unfolding cell
  first_word = part_word 0 8 0 s (omega arith)

  second_word : word_at (cell 8 0 s) 4 ≡ word_at s 4
  unfolding cell
  second_word = part_word 0 8 4 s (omega arith)

  block_is : block_at (i * 8) s ≡ block_of (cell 8 0 s ++ cell 8 i s)
  block_is =
      let c = cell 8 0 s in
      let l = a_bytes.long in
      let p = front_word c (cell 8 i s) 0 (omega arith) ∙ first_word in
      let q = front_word c (cell 8 i s) 4 (omega arith) ∙ second_word in
      let r = behind_first c l in
      let d = behind_second c l in
      sym (λ k. record { a = p k; b = q k; c = r k; d = d k })

  counted_is : (t : ℕ) → t < 256 → counted t (block_at (i * 8) s) ≡ block_of ((cell 8 0 s ⊞ counter t) ++ cell 8 i s)
  counted_is t h =
      let c = cell 8 0 s in
      let k = counter_bytes c a_bytes t h in
      let l = k.long in
      let p = front_word (c ⊞ counter t) (cell 8 i s) 0 (omega arith) ∙ counted_first c a_bytes t h ∙ first_word in
      let q = front_word (c ⊞ counter t) (cell 8 i s) 4 (omega arith) ∙ counted_second c a_bytes t h ∙ ap (λ v. v ⊕ t) second_word in
      let r = behind_first (c ⊞ counter t) l in
      let d = behind_second (c ⊞ counter t) l in
      sym (λ k. record { a = p k; b = q k; c = r k; d = d k })

-- the two halves of a block's bytes
module _ (b : List ℕ) (hb : Bytes 16 b) where
  front_half : four_bytes (word_at b 0) ++ four_bytes (word_at b 4) ≡ take 8 b
  front_half = ap (take 8) (bytes_whole b hb)

  back_half : four_bytes (word_at b 8) ++ four_bytes (word_at b 12) ≡ drop 8 b
  back_half = ap (drop 8) (bytes_whole b hb)

  counted_half : (t : ℕ) → t < 256 → four_bytes (word_at b 0) ++ four_bytes (word_at b 4 ⊕ t) ≡ take 8 b ⊞ counter t
  unfolding part
  counted_half t h =
      let c : List ℕ = take 8 b in
      let k : Bytes 8 c = take_bytes 8 16 b (omega arith) hb in
      let p : word_at (c ⊞ counter t) 0 ≡ word_at b 0 = counted_first c k t h ∙ part_word 0 8 0 b (omega arith) in
      let q : word_at (c ⊞ counter t) 4 ≡ word_at b 4 ⊕ t = counted_second c k t h ∙ ap (λ v. v ⊕ t) (part_word 0 8 4 b (omega arith)) in
      sym (λ j. four_bytes (p j) ++ four_bytes (q j)) ∙ eight_whole (c ⊞ counter t) (counter_bytes c k t h)

-- ------------------------------------------------------------------------
-- The steps

-- a step more, and a step less to go back
pub wrap_more : (f : Block → Block) (t : ℕ) (s : List ℕ) → 0 < t → wrap_step_by f t (wrap_steps_by f (t - 1) s) ≡ wrap_steps_by f (t + 1 - 1) s
unfolding wrap_steps_by
wrap_more f zero s h = absurd (omega arith)
wrap_more f (suc t) s h =
    let e : suc t - 1 ≡ t = omega arith in
    let k : suc t ≡ suc t + 1 - 1 = omega arith in
    ap (λ n. wrap_step_by f (suc t) (wrap_steps_by f n s)) e ∙ ap (λ n. wrap_steps_by f n s) k

pub unwrap_more : (f : Block → Block) (t : ℕ) (s : List ℕ) → 0 < t → unwrap_steps_by f (t - 1) (unwrap_step_by f t s) ≡ unwrap_steps_by f t s
unfolding unwrap_steps_by
unwrap_more f zero s h = absurd (omega arith)
unwrap_more f (suc t) s h =
    let e : suc t - 1 ≡ t = omega arith in
    ap (λ n. unwrap_steps_by f n (unwrap_step_by f (suc t) s)) e

put_bytes : (w i n : ℕ) (v s : List ℕ) → i * w + w ≤ n → Bytes w v → Bytes n s → Bytes n (put w i v s)
unfolding put write
put_bytes w i n v s h hv hs =
    let rest : List ℕ = drop (i * w) s in
    let tail : Small (v ++ drop w rest) = small_append v (drop w rest) hv.small (small_drop w rest (small_drop (i * w) s hs.small)) in
    record {
      long = length_put w i v s (omega (arith, hs.long)) hv.long ∙ hs.long;
      small = small_append (take (i * w) s) (v ++ drop w rest) (small_take (i * w) s hs.small) tail;
    }

module _ (w : List ℕ) (hw : Bytes 240 w) where
  module _ (t : ℕ) (from1 : 1 ≤ t) (to24 : t ≤ 24) (s : List ℕ) (hs : Bytes 40 s) where
    abbrev i : ℕ
    i = block_of_step t

    joined : (c : List ℕ) → Bytes 8 c → Bytes 16 (c ++ cell 8 i s)
    joined c h = append_bytes 8 8 c (cell 8 i s) h (r_bytes s hs i (omega arith) (omega arith))

    a : Bytes 8 (cell 8 0 s)
    a = a_bytes s hs i (omega arith) (omega arith)

    counted_a : Bytes 8 (cell 8 0 s ⊞ counter t)
    counted_a = counter_bytes (cell 8 0 s) a t (omega arith)

    abbrev coded : List ℕ
    coded = cipher_with w (cell 8 0 s ++ cell 8 i s)

    pub coded_bytes : Bytes 16 coded
    coded_bytes = cipher_with_bytes w hw _ (joined _ a)

    abbrev clear : List ℕ
    clear = inv_cipher_with w ((cell 8 0 s ⊞ counter t) ++ cell 8 i s)

    clear_bytes : Bytes 16 clear
    clear_bytes = inv_cipher_with_bytes w hw _ (joined _ counted_a)

    pub wrap_step_bytes : Bytes 40 (wrap_step w t s)
    unfolding wrap_step
    wrap_step_bytes =
        let k = take_bytes 8 16 coded (omega arith) coded_bytes in
        put_bytes 8 0 40 _ _ (omega arith) (counter_bytes (take 8 coded) k t (omega arith))
        (put_bytes 8 i 40 _ s (omega arith) (drop_bytes 8 8 16 coded refl coded_bytes) hs)

    pub unwrap_step_bytes : Bytes 40 (unwrap_step w t s)
    unfolding unwrap_step
    unwrap_step_bytes =
        put_bytes 8 0 40 _ _ (omega arith) (take_bytes 8 16 clear (omega arith) clear_bytes)
        (put_bytes 8 i 40 _ s (omega arith) (drop_bytes 8 8 16 clear refl clear_bytes) hs)

    wrap_step_is : wrap_step_by (cipher_by mix_table sbox (words_of w 60)) t s ≡ wrap_step w t s
    unfolding wrap_step
    wrap_step_is =
        let f = cipher_by mix_table sbox (words_of w 60) in
        let x : f (block_at (i * 8) s) ≡ block_of coded = ap f (block_is s hs i (omega arith) (omega arith)) ∙ cipher_by_is w hw _ (joined _ a) in
        ap (λ b. put_block (i * 8) (counted t b) s) x
        ∙ put_is s hs i (omega arith) (omega arith) (counted t (block_of coded)) _ _ (counted_half coded coded_bytes t (omega arith))
        (back_half coded coded_bytes)

    unwrap_step_is : unwrap_step_by (inv_cipher_by inv_mix_table inv_sbox (unmixed_by inv_mix_table sbox (words_of w 60))) t s ≡ unwrap_step w t s
    unfolding unwrap_step
    unwrap_step_is =
        let f = inv_cipher_by inv_mix_table inv_sbox (unmixed_by inv_mix_table sbox (words_of w 60)) in
        let x : f (counted t (block_at (i * 8) s)) ≡ block_of clear =
        ap f (counted_is s hs i (omega arith) (omega arith) t (omega arith)) ∙ inv_cipher_by_is w hw _ (joined _ counted_a) in
        ap (λ b. put_block (i * 8) b s) x
        ∙ put_is s hs i (omega arith) (omega arith) (block_of clear) _ _ (front_half clear clear_bytes) (back_half clear clear_bytes)

  pub wrap_steps_bytes : (t : ℕ) → t ≤ 24 → (s : List ℕ) → Bytes 40 s → Bytes 40 (wrap_steps w t s)
  unfolding wrap_steps
  wrap_steps_bytes zero h s hs = hs
  wrap_steps_bytes (suc t) h s hs = wrap_step_bytes (suc t) (omega arith) h (wrap_steps w t s) (wrap_steps_bytes t (omega arith) s hs)

  pub wrap_steps_is : (t : ℕ) → t ≤ 24 → (s : List ℕ) → Bytes 40 s
      → wrap_steps_by (cipher_by mix_table sbox (words_of w 60)) t s ≡ wrap_steps w t s
  unfolding wrap_steps_by wrap_steps
  wrap_steps_is zero h s hs = refl
  wrap_steps_is (suc t) h s hs =
      ap (wrap_step_by (cipher_by mix_table sbox (words_of w 60)) (suc t)) (wrap_steps_is t (omega arith) s hs)
      ∙ wrap_step_is (suc t) (omega arith) h (wrap_steps w t s) (wrap_steps_bytes t (omega arith) s hs)

  pub unwrap_steps_is : (t : ℕ) → t ≤ 24 → (s : List ℕ) → Bytes 40 s
      → unwrap_steps_by (inv_cipher_by inv_mix_table inv_sbox (unmixed_by inv_mix_table sbox (words_of w 60))) t s ≡ unwrap_steps w t s
  unfolding unwrap_steps_by unwrap_steps
  unwrap_steps_is zero h s hs = refl
  unwrap_steps_is (suc t) h s hs =
      ap (unwrap_steps_by (inv_cipher_by inv_mix_table inv_sbox (unmixed_by inv_mix_table sbox (words_of w 60))) t)
      (unwrap_step_is (suc t) (omega arith) h s hs)
      ∙ unwrap_steps_is t (omega arith) (unwrap_step w (suc t) s) (unwrap_step_bytes (suc t) (omega arith) h s hs)

-- as the code has it: over the words that it expanded
module _ (kek s : List ℕ) (hk : Bytes 32 kek) (hs : Bytes 40 s) (before w : List ℕ)
    (e : w ≡ cond (eqb (length kek) 32) (expanded_by sbox (words_of kek 8) 52) before) where
  words : w ≡ words_of (key_expansion kek) 60
  words = e ∙ ap (λ b. cond b (expanded_by sbox (words_of kek 8) 52) before) (eq-eqb (length kek) 32 hk.long) ∙ schedule_is kek hk

  pub sealed : wrap_steps_by (cipher_by mix_table sbox w) 24 s ≡ wrap_steps (key_expansion kek) 24 s
  sealed =
      ap (λ l. wrap_steps_by (cipher_by mix_table sbox l) 24 s) words ∙ wrap_steps_is (key_expansion kek) (expansion_bytes kek hk) 24 (omega arith) s hs

  pub unsealed : (u : List ℕ) → u ≡ unmixed_by inv_mix_table sbox w
      → unwrap_steps_by (inv_cipher_by inv_mix_table inv_sbox u) 24 s ≡ unwrap_steps (key_expansion kek) 24 s
  unsealed u h =
      ap (λ l. unwrap_steps_by (inv_cipher_by inv_mix_table inv_sbox l) 24 s) (h ∙ ap (unmixed_by inv_mix_table sbox) words)
      ∙ unwrap_steps_is (key_expansion kek) (expansion_bytes kek hk) 24 (omega arith) s hs
