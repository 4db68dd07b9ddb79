-- The round keys as words are those of FIPS 197's bytes.
-- Assumes nothing.
use mathlib.Core.Path.{◌≡◌, refl, sym, ap, ap₂, ◌∙◌}
use mathlib.Core.Bool.{Bool, true, false, cond}
use mathlib.Core.List.{List, [], ◌∷◌, ◌++◌, map}
use mathlib.Core.Logic.{by_cases}
use Prim.Native.Nat.{ℕ, zero, suc, ◌+◌, ◌-◌, ◌*◌, ◌/◌, ◌%◌, ◌≤◌, ◌<◌}
use native.Mathlib.Nat.{add-zero, add_assoc}
use native.Mathlib.Omega.{arith}
use native.Mathlib.Decide.{dec_lt}
use lib.ListN.{length, get_or, take, drop, length-append, length-map, get_or-append}
use lib.Seq.{get_or-append-add, get_or_at, get_or-take, get_or-drop, length-take-le}
use lib.Dec.{eqb, lit<}
use Rattle.std.proofs.lemmas.List.{get_or-map}
use Rattle.cells.specs.Cells.{part}
use Rattle.cells.proofs.CellsLaws.{get_d_part, length_part, part_four}
use Rattle.rules.specs.AesBytes.{◌⊕◌, sub_byte}
use Rattle.rules.specs.Aes.{◌⊞◌, sub_bytes, by_matrix, columns, inv_mix_columns, word_of, rot_word, round_constants, rcon, turned, expanded}
use Rattle.rules.specs.Aes.{key_expansion, round_key}
use Rattle.rules.specs.AesPromises.{Bytes}
use Rattle.fips197.specs.Boxes.{sbox}
use Rattle.fips197.proofs.BytesLaws.{from, part_bytes}
use Rattle.fips197.proofs.BoxLaws.{sub_byte_lem, sbox_rule}
use Rattle.fips197.proofs.KeyLaws.{expanded_bytes, turned_bytes, round_key_lem}
use Rattle.aes.specs.Words.{word4, word_at, block_of}
use Rattle.aes.specs.Tables.{inv_mix_table}
use Rattle.aes.specs.ByTables.{turned3, sub_word_by, words_of, turned_by, expanded_by, unmixed_word, unmixed_by, key_at}
use Rattle.aes.proofs.WordsLaws.{first_byte, second_byte, third_byte, last_byte, word_fits, turned3_word, xor_word}
use Rattle.aes.proofs.ColumnsLaws.{substituted_is, unmixed_is}

-- ------------------------------------------------------------------------
-- The words of some bytes

pub words_length : (xs : List ℕ) (n : ℕ) → length (words_of xs n) ≡ n
unfolding words_of
words_length xs zero = refl
words_length xs (suc n) = length-append (words_of xs n) _ ∙ omega (arith, words_length xs n)

-- each word
pub word_at_lem : (xs : List ℕ) (n i : ℕ) → i < n → get_or (words_of xs n) i 0 ≡ word_at xs (4 * i)
unfolding words_of
word_at_lem xs zero i h = absurd (omega arith)
word_at_lem xs (suc n) i h =
    by_cases (dec_lt i n)
    (λ l. get_or-append (words_of xs n) _ 0 i (omega (arith, words_length xs n)) ∙ word_at_lem xs n i l)
    (λ g. let e : i ≡ n = omega arith in
    ap (λ k. get_or (words_of xs n ++ (word_at xs (4 * n) ∷ [])) k 0) e
    ∙ get_or_at (words_of xs n) (word_at xs (4 * n)) [] 0 n (words_length xs n) ∙ ap (λ k. word_at xs (4 * k)) (sym e))

-- four bytes of a list that goes on
pub front_word : (xs ys : List ℕ) (i : ℕ) → i + 4 ≤ length xs → word_at (xs ++ ys) i ≡ word_at xs i
front_word xs ys i h =
    let a = get_or-append xs ys 0 i (omega arith) in
    let b = get_or-append xs ys 0 (i + 1) (omega arith) in
    let c = get_or-append xs ys 0 (i + 2) (omega arith) in
    let d = get_or-append xs ys 0 (i + 3) (omega arith) in
    λ k. word4 (a k) (b k) (c k) (d k)

-- and of what is behind it
behind_word : (xs ys : List ℕ) (n : ℕ) → length xs ≡ n → word_at (xs ++ ys) n ≡ word_at ys 0
behind_word xs ys n h =
    let at : (k : ℕ) → get_or (xs ++ ys) (n + k) 0 ≡ get_or ys k 0 = λ k. ap (λ m. get_or (xs ++ ys) (m + k) 0) (sym h)
    ∙ get_or-append-add xs ys k 0 in
    let z : get_or (xs ++ ys) n 0 ≡ get_or ys 0 0 = ap (λ m. get_or (xs ++ ys) m 0) (sym (add-zero n)) ∙ at 0 in
    λ k. word4 (z k) (at 1 k) (at 2 k) (at 3 k)

-- bytes behind those that are read do not count
words_front : (xs ys : List ℕ) (n : ℕ) → 4 * n ≤ length xs → words_of (xs ++ ys) n ≡ words_of xs n
unfolding words_of
words_front xs ys zero h = refl
words_front xs ys (suc n) h =
    ap₂ (λ l x. l ++ (x ∷ [])) (words_front xs ys n (omega arith)) (front_word xs ys (4 * n) (omega arith))

-- ------------------------------------------------------------------------
-- One word more

sub_word_is : (a b c d : ℕ) → a < 256 → b < 256 → c < 256 → d < 256
    → sub_word_by sbox (word4 a b c d) ≡ word4 (sub_byte a) (sub_byte b) (sub_byte c) (sub_byte d)
sub_word_is a b c d ha hb hc hd =
    let w = word4 a b c d in
    let e = ap sub_byte (first_byte a b c d ha hb hc hd) in
    let f = ap sub_byte (second_byte a b c d ha hb hc hd) in
    let g = ap sub_byte (third_byte a b c d ha hb hc hd) in
    let h = ap sub_byte (last_byte a b c d ha hb hc hd) in
    substituted_is sbox sub_byte sub_byte_lem sbox_rule w w w w (word_fits a b c d ha hb hc hd) ∙ (λ i. word4 (e i) (f i) (g i) (h i))

module _ (a b c d : ℕ) (ha : a < 256) (hb : b < 256) (hc : c < 256) (hd : d < 256) where
  constant : (j : ℕ) → get_or round_constants j 0 * 16777216 ≡ word4 (get_or round_constants j 0) 0 0 0
  constant j = omega arith

  -- a turned word, substituted, and the round constant
  first : (j : ℕ) → sub_word_by sbox (turned3 (word4 a b c d)) ⊕ get_or round_constants j 0 * 16777216
      ≡ word_at (sub_bytes (rot_word (a ∷ b ∷ c ∷ d ∷ [])) ⊞ (get_or round_constants j 0 ∷ 0 ∷ 0 ∷ 0 ∷ [])) 0
  unfolding sub_bytes rot_word ◌⊞◌
  first j =
      ap₂ ◌⊕◌ (ap (sub_word_by sbox) (turned3_word a b c d ha hb hc hd) ∙ sub_word_is b c d a hb hc hd ha) (constant j)
      ∙ xor_word (sub_byte b) (sub_byte c) (sub_byte d) (sub_byte a) (get_or round_constants j 0) 0 0 0
      (sub_byte_lem c) (sub_byte_lem d) (sub_byte_lem a) (lit< tt) (lit< tt) (lit< tt)

  fourth : sub_word_by sbox (word4 a b c d) ≡ word_at (sub_bytes (a ∷ b ∷ c ∷ d ∷ [])) 0
  unfolding sub_bytes
  fourth = sub_word_is a b c d ha hb hc hd

  pub turned_is : (i : ℕ) → turned_by sbox i (word4 a b c d) ≡ word_at (turned i (a ∷ b ∷ c ∷ d ∷ [])) 0
  unfolding turned_by turned rcon
  turned_is i = by (eqb (i % 8) 0) (eqb (i % 8) 4)
    where
      by : (p q : Bool)
          → cond p (sub_word_by sbox (turned3 (word4 a b c d)) ⊕ get_or round_constants (i / 8 - 1) 0 * 16777216)
          (cond q (sub_word_by sbox (word4 a b c d)) (word4 a b c d))
          ≡ word_at (cond p (sub_bytes (rot_word (a ∷ b ∷ c ∷ d ∷ [])) ⊞ (get_or round_constants (i / 8 - 1) 0 ∷ 0 ∷ 0 ∷ 0 ∷ []))
          (cond q (sub_bytes (a ∷ b ∷ c ∷ d ∷ [])) (a ∷ b ∷ c ∷ d ∷ []))) 0
      by true q = first (i / 8 - 1)
      by false true = fourth
      by false false = refl

four_of : (xs : List ℕ) (i : ℕ) → i + 4 ≤ length xs
    → part i 4 xs ≡ get_or xs i 0 ∷ get_or xs (i + 1) 0 ∷ get_or xs (i + 2) 0 ∷ get_or xs (i + 3) 0 ∷ []
four_of xs i h = part_four i (i + 1) (i + 2) xs (omega arith) (omega arith) (i + 3) (omega arith) (omega arith)

module _ (w : List ℕ) (n : ℕ) (hw : Bytes (32 + 4 * n) w) where
  abbrev temp : List ℕ
  temp = word_of w (n + 7)

  temp_bytes : Bytes 4 temp
  temp_bytes = part_bytes (4 * (n + 7)) 4 w (omega (arith, hw.long)) hw.small

  abbrev new : List ℕ
  new = turned (n + 8) temp

  new_bytes : Bytes 4 new
  new_bytes = turned_bytes (n + 8) temp temp_bytes

  new_is : word_at new 0 ≡ turned_by sbox (n + 8) (word_at w (4 * (n + 7)))
  new_is =
      ap (λ l. word_at (turned (n + 8) l) 0) (four_of w (4 * (n + 7)) (omega (arith, hw.long)))
      ∙ sym (turned_is _ _ _ _ (hw.small _) (hw.small _) (hw.small _) (hw.small _) (n + 8))

  -- the word that the expansion adds
  next_is : word_at (word_of w n ⊞ new) 0 ≡ word_at w (4 * n) ⊕ turned_by sbox (n + 8) (word_at w (4 * (n + 7)))
  unfolding ◌⊞◌
  next_is =
      let h = hw.small in
      let k = new_bytes.small in
      ap₂ (λ p l. word_at (p ⊞ l) 0) (four_of w (4 * n) (omega (arith, hw.long))) (from new 0 4 new_bytes.long)
      ∙ sym (xor_word _ _ _ _ (get_or new 0 0) (get_or new 1 0) (get_or new 2 0) (get_or new 3 0) (h _) (h _) (h _) (k 1) (k 2) (k 3))
      ∙ ap (λ v. word_at w (4 * n) ⊕ v) new_is

pub words_more : (xs : List ℕ) (n : ℕ) → words_of xs (suc n) ≡ words_of xs n ++ (word_at xs (4 * n) ∷ [])
unfolding words_of
words_more xs n = refl

pub expanded_is : (key : List ℕ) → Bytes 32 key → (n : ℕ) → expanded_by sbox (words_of key 8) n ≡ words_of (expanded key n) (8 + n)
unfolding expanded_by expanded
expanded_is key h zero = refl
expanded_is key h (suc n) =
    let w : List ℕ = expanded key n in
    let hw : Bytes (32 + 4 * n) w = expanded_bytes key h n in
    let v : List ℕ = word_of w n ⊞ turned (n + 8) (word_of w (n + 7)) in
    let e : 8 + suc n ≡ suc (8 + n) = omega arith in
    let word : get_or (words_of w (8 + n)) n 0 ⊕ turned_by sbox (n + 8) (get_or (words_of w (8 + n)) (n + 7) 0) ≡ word_at (w ++ v) (4 * (8 + n)) =
    ap₂ (λ x y. x ⊕ turned_by sbox (n + 8) y) (word_at_lem w (8 + n) n (omega arith)) (word_at_lem w (8 + n) (n + 7) (omega arith))
    ∙ sym (next_is w n hw) ∙ sym (behind_word w v (4 * (8 + n)) (omega (arith, hw.long))) in
    ap (λ l. l ++ (get_or l n 0 ⊕ turned_by sbox (n + 8) (get_or l (n + 7) 0) ∷ [])) (expanded_is key h n)
    ∙ ap₂ (λ l x. l ++ (x ∷ [])) (sym (words_front w v (8 + n) (omega (arith, hw.long)))) word
    ∙ sym (words_more (w ++ v) (8 + n)) ∙ sym (ap (words_of (w ++ v)) e)

pub schedule_is : (key : List ℕ) → Bytes 32 key → expanded_by sbox (words_of key 8) 52 ≡ words_of (key_expansion key) 60
unfolding key_expansion
schedule_is key h = expanded_is key h 52

-- ------------------------------------------------------------------------
-- A round key

pub part_word : (a n j : ℕ) (xs : List ℕ) → j + 4 ≤ n → word_at (part a n xs) j ≡ word_at xs (a + j)
part_word a n j xs h =
    let p = get_d_part a n j xs (omega arith) in
    let at : (k : ℕ) → k < 4 → get_or (part a n xs) (j + k) 0 ≡ get_or xs (a + j + k) 0 =
    λ k l. get_d_part a n (j + k) xs (omega arith) ∙ ap (λ m. get_or xs m 0) (sym (add_assoc a j k)) in
    let q = at 1 (lit< tt) in
    let r = at 2 (lit< tt) in
    let s = at 3 (lit< tt) in
    λ i. word4 (p i) (q i) (r i) (s i)

pub key_at_lem : (w : List ℕ) (r : ℕ) → r ≤ 14 → key_at (words_of w 60) r ≡ block_of (round_key w r)
unfolding round_key
key_at_lem w r h =
    let at : (i j : ℕ) → i < 60 → 4 * i ≡ 16 * r + j → j + 4 ≤ 16 → get_or (words_of w 60) i 0 ≡ word_at (part (16 * r) 16 w) j =
    λ i j l e k. word_at_lem w 60 i l ∙ ap (word_at w) e ∙ sym (part_word (16 * r) 16 j w k) in
    let a = at (4 * r) 0 (omega arith) (omega arith) (omega arith) in
    let b = at (4 * r + 1) 4 (omega arith) (omega arith) (omega arith) in
    let c = at (4 * r + 2) 8 (omega arith) (omega arith) (omega arith) in
    let d = at (4 * r + 3) 12 (omega arith) (omega arith) (omega arith) in
    λ i. record { a = a i; b = b i; c = c i; d = d i }

-- ------------------------------------------------------------------------
-- The round keys mixed back

module _ (table box w : List ℕ) (long : length w ≡ 60) where
  front_size : length (take 4 w) ≡ 4
  front_size = length-take-le 4 w (omega arith)

  mid_size : length (map (unmixed_word table box) (part 4 52 w)) ≡ 52
  mid_size = length-map (part 4 52 w) (unmixed_word table box) ∙ length_part 4 52 w (omega arith)

  unmixed_first : (i : ℕ) → i < 4 → get_or (unmixed_by table box w) i 0 ≡ get_or w i 0
  unfolding unmixed_by
  unmixed_first i h = get_or-append (take 4 w) _ 0 i (omega (arith, front_size)) ∙ get_or-take 4 w i 0 h

  behind : (i : ℕ) → get_or (unmixed_by table box w) (4 + i) 0 ≡ get_or (map (unmixed_word table box) (part 4 52 w) ++ drop 56 w) i 0
  unfolding unmixed_by
  behind i =
      let r : List ℕ = map (unmixed_word table box) (part 4 52 w) ++ drop 56 w in
      ap (λ m. get_or (take 4 w ++ r) (m + i) 0) (sym front_size) ∙ get_or-append-add (take 4 w) r i 0

  unmixed_mid : (i : ℕ) → i < 52 → get_or (unmixed_by table box w) (4 + i) 0 ≡ unmixed_word table box (get_or w (4 + i) 0)
  unmixed_mid i h =
      behind i ∙ get_or-append (map (unmixed_word table box) (part 4 52 w)) _ 0 i (omega (arith, mid_size))
      ∙ get_or-map (unmixed_word table box) (part 4 52 w) i 0 0 (omega (arith, length_part 4 52 w (omega arith)))
      ∙ ap (unmixed_word table box) (get_d_part 4 52 i w h)

  unmixed_last : (i : ℕ) → get_or (unmixed_by table box w) (4 + (52 + i)) 0 ≡ get_or w (56 + i) 0
  unmixed_last i =
      behind (52 + i)
      ∙ ap (λ m. get_or (map (unmixed_word table box) (part 4 52 w) ++ drop 56 w) (m + i) 0) (sym mid_size)
      ∙ get_or-append-add (map (unmixed_word table box) (part 4 52 w)) (drop 56 w) i 0 ∙ get_or-drop 56 w i 0

-- a word of bytes
unmix_word : (a b c d : ℕ) → a < 256 → b < 256 → c < 256 → d < 256
    → unmixed_word inv_mix_table sbox (word4 a b c d) ≡ word_at (by_matrix 0x0E 0x09 0x0D 0x0B a b c d) 0
unmix_word a b c d ha hb hc hd =
    let e = first_byte a b c d ha hb hc hd in
    let f = second_byte a b c d ha hb hc hd in
    let g = third_byte a b c d ha hb hc hd in
    let h = last_byte a b c d ha hb hc hd in
    unmixed_is (word4 a b c d) (word_fits a b c d ha hb hc hd) ∙ (λ i. word_at (by_matrix 0x0E 0x09 0x0D 0x0B (e i) (f i) (g i) (h i)) 0)

abbrev unmixed : List ℕ → List ℕ
unmixed w = unmixed_by inv_mix_table sbox (words_of w 60)

module _ (w : List ℕ) (hw : Bytes 240 w) where
  pub first_key : key_at (unmixed w) 0 ≡ block_of (round_key w 0)
  first_key =
      let at : (i : ℕ) → i < 4 → get_or (unmixed w) i 0 ≡ get_or (words_of w 60) i 0 =
      unmixed_first inv_mix_table sbox (words_of w 60) (words_length w 60) in
      let a = at 0 (lit< tt) in
      let b = at 1 (lit< tt) in
      let c = at 2 (lit< tt) in
      let d = at 3 (lit< tt) in
      (λ i. record { a = a i; b = b i; c = c i; d = d i }) ∙ key_at_lem w 0 (omega arith)

  pub last_key : key_at (unmixed w) 14 ≡ block_of (round_key w 14)
  last_key =
      let at = unmixed_last inv_mix_table sbox (words_of w 60) (words_length w 60) in
      let a = at 0 in
      let b = at 1 in
      let c = at 2 in
      let d = at 3 in
      (λ i. record { a = a i; b = b i; c = c i; d = d i }) ∙ key_at_lem w 14 (omega arith)

  pub mid_key : (r : ℕ) → suc r ≤ 13 → key_at (unmixed w) (suc r) ≡ block_of (inv_mix_columns (round_key w (suc r)))
  unfolding by_matrix columns inv_mix_columns
  mid_key r h =
      let s = (round_key_lem w (suc r) hw (omega arith)).small in
      let e = key_at_lem w (suc r) (omega arith) in
      let at : (i m : ℕ) → m ≡ 4 + i → i < 52 → get_or (unmixed w) m 0 ≡ unmixed_word inv_mix_table sbox (get_or (words_of w 60) m 0) =
      λ i m p q. ap (λ n. get_or (unmixed w) n 0) p ∙ unmixed_mid inv_mix_table sbox (words_of w 60) (words_length w 60) i q
      ∙ ap (λ n. unmixed_word inv_mix_table sbox (get_or (words_of w 60) n 0)) (sym p) in
      let a = at (4 * r) (4 * suc r) (omega arith) (omega arith)
      ∙ ap (λ k. unmixed_word inv_mix_table sbox k.a) e ∙ unmix_word _ _ _ _ (s 0) (s 1) (s 2) (s 3) in
      let b = at (4 * r + 1) (4 * suc r + 1) (omega arith) (omega arith)
      ∙ ap (λ k. unmixed_word inv_mix_table sbox k.b) e ∙ unmix_word _ _ _ _ (s 4) (s 5) (s 6) (s 7) in
      let c = at (4 * r + 2) (4 * suc r + 2) (omega arith) (omega arith)
      ∙ ap (λ k. unmixed_word inv_mix_table sbox k.c) e ∙ unmix_word _ _ _ _ (s 8) (s 9) (s 10) (s 11) in
      let d = at (4 * r + 3) (4 * suc r + 3) (omega arith) (omega arith)
      ∙ ap (λ k. unmixed_word inv_mix_table sbox k.d) e ∙ unmix_word _ _ _ _ (s 12) (s 13) (s 14) (s 15) in
      λ i. record { a = a i; b = b i; c = c i; d = d i }
