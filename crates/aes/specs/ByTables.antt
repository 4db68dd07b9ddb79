-- The cipher by look-ups, over any tables: what the code does with those that it
-- is lent. With the right ones it is FIPS 197's (proofs/CipherLaws.antt).
-- Assumes nothing.
use Rattle.std.specs.Prelude.{cond, List, [], ◌∷◌, ◌++◌, map, ℕ, zero, suc, ◌+◌, ◌-◌, ◌*◌, ◌/◌, ◌%◌, get_or, take, drop, eqb}
use Rattle.std.specs.Prelude.{◌≡◌, ◌≤◌}
use Rattle.cells.specs.Cells.{part}
use Rattle.rules.specs.AesBytes.{◌⊕◌}
use Rattle.rules.specs.Aes.{round_constants}
use Rattle.aes.specs.Words.{word4, word_at}
use Rattle.aes.specs.declared.Block.{Block}

-- a word turned right by one, two and three bytes
abbrev pub turned1 : ℕ → ℕ
turned1 w = w / 256 + w % 256 * 16777216

abbrev pub turned2 : ℕ → ℕ
turned2 w = w / 65536 + w % 65536 * 65536

abbrev pub turned3 : ℕ → ℕ
turned3 w = w / 16777216 + w % 16777216 * 256

-- the first byte of a, the second of b, the third of c and the last of d
abbrev pub diagonal : ℕ → ℕ → ℕ → ℕ → List ℕ
diagonal a b c d = a / 16777216 ∷ b / 65536 % 256 ∷ c / 256 % 256 ∷ d % 256 ∷ []

-- a mixed column: the first byte of a, the second of b, the third of c and the last of d, each looked up
unfoldable pub column_of : List ℕ → ℕ → ℕ → ℕ → ℕ → ℕ
column_of table a b c d =
    (get_or table (a / 16777216) 0 ⊕ turned1 (get_or table (b / 65536 % 256) 0))
    ⊕ (turned2 (get_or table (c / 256 % 256) 0) ⊕ turned3 (get_or table (d % 256) 0))

-- the same bytes substituted, and not mixed
unfoldable pub substituted_of : List ℕ → ℕ → ℕ → ℕ → ℕ → ℕ
substituted_of box a b c d =
    word4 (get_or box (a / 16777216) 0) (get_or box (b / 65536 % 256) 0) (get_or box (c / 256 % 256) 0) (get_or box (d % 256) 0)

abbrev pub added : Block → Block → Block
added s k = record { a = s.a ⊕ k.a; b = s.b ⊕ k.b; c = s.c ⊕ k.c; d = s.d ⊕ k.d }

-- the second and the last column change places: then a round back is a round
abbrev pub mirrored : Block → Block
mirrored s = record { a = s.a; b = s.d; c = s.c; d = s.b }

-- a round, and the last one
abbrev pub round_of : List ℕ → Block → Block → Block
round_of table s k =
    added (record {
      a = column_of table s.a s.b s.c s.d;
      b = column_of table s.b s.c s.d s.a;
      c = column_of table s.c s.d s.a s.b;
      d = column_of table s.d s.a s.b s.c;
    }) k

abbrev pub last_of : List ℕ → Block → Block → Block
last_of box s k =
    added (record {
      a = substituted_of box s.a s.b s.c s.d;
      b = substituted_of box s.b s.c s.d s.a;
      c = substituted_of box s.c s.d s.a s.b;
      d = substituted_of box s.d s.a s.b s.c;
    }) k

-- the round key of four words
abbrev pub key_at : List ℕ → ℕ → Block
key_at w r = record { a = get_or w (4 * r) 0; b = get_or w (4 * r + 1) 0; c = get_or w (4 * r + 2) 0; d = get_or w (4 * r + 3) 0 }

-- rounds 1 to r; and r to 1, back
unfoldable pub rounds_by : List ℕ → List ℕ → ℕ → Block → Block
rounds_by table w zero s = s
rounds_by table w (suc r) s = round_of table (rounds_by table w r s) (key_at w (suc r))

unfoldable pub back_by : List ℕ → List ℕ → ℕ → Block → Block
back_by table w zero s = s
back_by table w (suc r) s = back_by table w r (round_of table s (mirrored (key_at w (suc r))))

-- the round keys that a function gives, and the same over them
abbrev pub Gives : (ℕ → Block → Type 0) → (ℕ → Block) → Type 0
Gives post key = (r : ℕ) (k : Block) → r ≤ 14 → post r k → k ≡ key r

unfoldable pub rounds_with : List ℕ → (ℕ → Block) → ℕ → Block → Block
rounds_with table key zero s = s
rounds_with table key (suc r) s = round_of table (rounds_with table key r s) (key (suc r))

abbrev pub ciphered : List ℕ → List ℕ → (ℕ → Block) → Block → Block
ciphered table box key s = last_of box (rounds_with table key 13 (added s (key 0))) (key 14)

unfoldable pub cipher_by : List ℕ → List ℕ → List ℕ → Block → Block
cipher_by table box w s = last_of box (rounds_by table w 13 (added s (key_at w 0))) (key_at w 14)

unfoldable pub inv_cipher_by : List ℕ → List ℕ → List ℕ → Block → Block
inv_cipher_by table box w s = mirrored (last_of box (back_by table w 13 (mirrored (added s (key_at w 14)))) (mirrored (key_at w 0)))

-- ------------------------------------------------------------------------
-- The round keys as words

-- the first n words of some bytes
unfoldable pub words_of : List ℕ → ℕ → List ℕ
words_of xs zero = []
words_of xs (suc n) = words_of xs n ++ (word_at xs (4 * n) ∷ [])

abbrev pub sub_word_by : List ℕ → ℕ → ℕ
sub_word_by box w = substituted_of box w w w w

-- what word i - 8 is added to, made of word i - 1
unfoldable pub turned_by : List ℕ → ℕ → ℕ → ℕ
turned_by box i temp =
    cond (eqb (i % 8) 0)
    (sub_word_by box (turned3 temp) ⊕ get_or round_constants (i / 8 - 1) 0 * 16777216)
    (cond (eqb (i % 8) 4) (sub_word_by box temp) temp)

unfoldable pub expanded_by : List ℕ → List ℕ → ℕ → List ℕ
expanded_by box first zero = first
expanded_by box first (suc n) =
    let w = expanded_by box first n in
    w ++ (get_or w n 0 ⊕ turned_by box (n + 8) (get_or w (n + 7) 0) ∷ [])

-- a word mixed: a substitution before the look-up undoes the one in the table
abbrev pub unmixed_word : List ℕ → List ℕ → ℕ → ℕ
unmixed_word table box w = column_of table (sub_word_by box w) (sub_word_by box w) (sub_word_by box w) (sub_word_by box w)

-- 5.3.5: the round keys but the first and the last mixed back
unfoldable pub unmixed_by : List ℕ → List ℕ → List ℕ → List ℕ
unmixed_by table box w = take 4 w ++ (map (unmixed_word table box) (part 4 52 w) ++ drop 56 w)
