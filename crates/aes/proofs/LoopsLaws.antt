-- Chunks of words; the rounds over the round keys, forward and back; and what the loops over the words keep.
-- Assumes nothing.
use mathlib.Core.Path.{◌≡◌, refl, sym, ap, ap₂, ◌∙◌}
use mathlib.Core.List.{List, [], ◌∷◌, ◌++◌, map}
use Prim.Native.Nat.{ℕ, zero, suc, ◌+◌, ◌-◌, ◌*◌, ◌≤◌, ◌<◌}
use native.Mathlib.Nat.{add-zero}
use native.Mathlib.Numerals.{add-one}
use native.Mathlib.Omega.{arith}
use lib.ListN.{length, get_or, take, drop, set}
use lib.Seq.{get_or-take, get_or-drop, take-suc-set, drop-drop}
use lib.Dec.{lit<}
use Rattle.std.specs.Int.{w32, from_be_bytes}
use Rattle.std.specs.Simd.{first_chunks}
use borrow.Rule.Slice.PartMut.{put_mid, mid_of}
use Rattle.cells.specs.Cells.{part}
use Rattle.cells.proofs.CellsLaws.{grow}
use Rattle.rules.specs.AesBytes.{◌⊕◌}
use Rattle.aes.specs.Words.{word4, word_at}
use Rattle.aes.specs.ByTables.{mirrored, key_at, round_of, last_of, rounds_with, ciphered, rounds_by, back_by, cipher_by, inv_cipher_by}
use Rattle.aes.specs.ByTables.{words_of, turned_by, expanded_by, unmixed_word, unmixed_by}
use Rattle.aes.specs.declared.Block.{Block}
use Rattle.aes.proofs.WordsLaws.{from_bytes}
use Rattle.aes.proofs.ExpandingLaws.{words_length, words_more}

-- word j of chunk r
pub chunk_word : (w : List ℕ) (k r : ℕ) → r < k → (j : ℕ) → j < 4 → get_or (get_or (first_chunks 4 k w) r []) j 0 ≡ get_or w (4 * r + j) 0
chunk_word w zero r h j l = absurd (omega arith)
chunk_word w (suc k) zero h j l = get_or-take 4 w j 0 l ∙ (let e : j ≡ 4 * 0 + j = omega arith in ap (λ n. get_or w n 0) e)
chunk_word w (suc k) (suc r) h j l =
    chunk_word (drop 4 w) k r (omega arith) j l ∙ get_or-drop 4 w (4 * r + j) 0
    ∙ (let e : 4 + (4 * r + j) ≡ 4 * suc r + j = omega arith in ap (λ n. get_or w n 0) e)

-- and its four bytes as a word
pub chunk_as_word : (xs : List ℕ) (k r : ℕ) → r < k → from_be_bytes w32 (get_or (first_chunks 4 k xs) r []) ≡ word_at xs (4 * r)
chunk_as_word xs k r h =
    let at : (j : ℕ) → j < 4 → get_or (get_or (first_chunks 4 k xs) r []) j 0 ≡ get_or xs (4 * r + j) 0 = chunk_word xs k r h in
    let a = at 0 (lit< tt) ∙ ap (λ n. get_or xs n 0) (add-zero (4 * r)) in
    let b = at 1 (lit< tt) in
    let c = at 2 (lit< tt) in
    let d = at 3 (lit< tt) in
    from_bytes _ _ _ _ ∙ (λ i. word4 (a i) (b i) (c i) (d i))

-- a round more
pub rounds_more : (table : List ℕ) (key : ℕ → Block) (r : ℕ) (s : Block) → 0 < r
    → round_of table (rounds_with table key (r - 1) s) (key r) ≡ rounds_with table key (r + 1 - 1) s
unfolding rounds_with
rounds_more table key zero s h = absurd (omega arith)
rounds_more table key (suc r) s h =
    let e : suc r - 1 ≡ r = omega arith in
    let f : suc r + 1 - 1 ≡ suc r = omega arith in
    ap (λ n. round_of table (rounds_with table key n s) (key (suc r))) e ∙ ap (λ n. rounds_with table key n s) (sym f)

-- the rounds over the round keys of some words; and back, over them from the last
rounds_forward : (table w : List ℕ) (n : ℕ) (s : Block) → rounds_with table (key_at w) n s ≡ rounds_by table w n s
unfolding rounds_with rounds_by
rounds_forward table w zero s = refl
rounds_forward table w (suc n) s = ap (λ x. round_of table x (key_at w (suc n))) (rounds_forward table w n s)

-- the first round key taken off
first_round : (table : List ℕ) (key : ℕ → Block) (n : ℕ) (s : Block)
    → rounds_with table key (suc n) s ≡ rounds_with table (λ r. key (suc r)) n (round_of table s (key 1))
unfolding rounds_with
first_round table key zero s = refl
first_round table key (suc n) s = ap (λ x. round_of table x (key (suc (suc n)))) (first_round table key n s)

rounds_backward : (table w : List ℕ) (n : ℕ) (s : Block)
    → rounds_with table (λ r. mirrored (key_at w (suc n - r))) n s ≡ back_by table w n s
unfolding rounds_with back_by
rounds_backward table w zero s = refl
rounds_backward table w (suc n) s =
    let less : (r : ℕ) → suc (suc n) - suc r ≡ suc n - r = λ r. omega arith in
    let front : suc (suc n) - 1 ≡ suc n = omega arith in
    first_round table (λ r. mirrored (key_at w (suc (suc n) - r))) n s
    ∙ (λ i. rounds_with table (λ r. mirrored (key_at w (less r i))) n (round_of table s (mirrored (key_at w (front i)))))
    ∙ rounds_backward table w n _

pub cipher_forward : (table box w : List ℕ) (s : Block) → ciphered table box (key_at w) s ≡ cipher_by table box w s
unfolding cipher_by
cipher_forward table box w s = ap (λ x. last_of box x (key_at w 14)) (rounds_forward table w 13 _)

pub cipher_backward : (table box w : List ℕ) (s : Block)
    → mirrored (ciphered table box (λ r. mirrored (key_at w (14 - r))) (mirrored s)) ≡ inv_cipher_by table box w s
unfolding inv_cipher_by
cipher_backward table box w s = ap (λ x. mirrored (last_of box x (mirrored (key_at w 0)))) (rounds_backward table w 13 _)

-- the key's own words
pub first_more : (key w : List ℕ) (i v : ℕ) → v ≡ word_at key (4 * i) → i < length w
    → set (words_of key i ++ drop i w) i v ≡ words_of key (i + 1) ++ drop (i + 1) w
first_more key w i v e h =
    grow (words_of key i) w i v (words_length key i) h
    ∙ ap (λ l. l ++ drop (i + 1) w) (ap (λ x. words_of key i ++ (x ∷ [])) e ∙ sym (words_more key i) ∙ ap (words_of key) (sym (add-one i)))

-- the words behind them
pub next_more : (box first w : List ℕ) (i v : ℕ) → 8 ≤ i → i < length w → take i w ≡ expanded_by box first (i - 8)
    → v ≡ get_or w (i - 8) 0 ⊕ turned_by box i (get_or w (i - 1) 0) → take (i + 1) (set w i v) ≡ expanded_by box first (i + 1 - 8)
unfolding expanded_by
next_more box first w i v from h e is =
    let n = i - 8 in
    let old : (j k : ℕ) → j ≡ k → k < i → get_or w j 0 ≡ get_or (expanded_by box first n) k 0 =
    λ j k f l. ap (λ x. get_or w x 0) f ∙ sym (get_or-take i w k 0 l) ∙ ap (λ x. get_or x k 0) e in
    let place : i ≡ n + 8 = omega arith in
    let before = old (i - 1) (n + 7) (omega arith) (omega arith) in
    let all : suc n ≡ i + 1 - 8 = omega arith in
    ap (λ m. take m (set w i v)) (add-one i) ∙ take-suc-set w i v h
    ∙ ap₂ (λ l x. l ++ (x ∷ [])) e (is ∙ (λ k. old n n refl (omega arith) k ⊕ turned_by box (place k) (before k)))
    ∙ ap (expanded_by box first) all

-- the words mixed back
pub unmix_end : (table box w : List ℕ) → put_mid 4 52 w (map (unmixed_word table box) (mid_of 4 52 w)) ≡ unmixed_by table box w
unfolding unmixed_by part
unmix_end table box w = ap (λ l. take 4 w ++ (map (unmixed_word table box) (take 52 (drop 4 w)) ++ l)) (drop-drop 52 4 w)
