-- The inverse of MixColumns undoes it, and both go through sums. A column at a time:
-- the product goes through the sum, the sixteen products are sorted by the byte they
-- came from, and each byte then has one of the four entries of `MixEntries`.
-- Assumes nothing.
use mathlib.Core.Path.{◌≡◌, sym, ap, ap₂, ◌∙◌}
use mathlib.Core.List.{[], ◌∷◌}
use Prim.Native.Nat.{ℕ, ◌<◌}
use Rattle.rules.specs.AesBytes.{◌⊕◌, ◌•◌}
use Rattle.rules.specs.Aes.{◌⊞◌, by_matrix}
use Rattle.rules.specs.AesPromises.{Bytes}
use Rattle.fips197.proofs.XorLaws.{⊕-pairs, ⊕-byte, ⊕-zero, ⊕-comm, ⊕-assoc}
use Rattle.fips197.proofs.BytesLaws.{four_bytes_lem}
use Rattle.fips197.proofs.ProductLaws.{•-byte, •-⊕}
use Rattle.fips197.proofs.MixEntries.{one_at, zero_at, zero_at_2, zero_at_3}

-- a row of a matrix by a column
abbrev pub dot : ℕ → ℕ → ℕ → ℕ → ℕ → ℕ → ℕ → ℕ → ℕ
dot p q r s a b c d = (p • a ⊕ q • b) ⊕ (r • c ⊕ s • d)

dot_byte : (p q r s a b c d : ℕ) → a < 256 → b < 256 → c < 256 → d < 256 → dot p q r s a b c d < 256
dot_byte p q r s a b c d ha hb hc hd =
    ⊕-byte (p • a ⊕ q • b) (r • c ⊕ s • d)
    (⊕-byte (p • a) (q • b) (•-byte p a ha) (•-byte q b hb))
    (⊕-byte (r • c) (s • d) (•-byte r c hc) (•-byte s d hd))

pub matrix_bytes : (a0 a1 a2 a3 a b c d : ℕ) → a < 256 → b < 256 → c < 256 → d < 256 → Bytes 4 (by_matrix a0 a1 a2 a3 a b c d)
unfolding by_matrix
matrix_bytes a0 a1 a2 a3 a b c d ha hb hc hd =
    four_bytes_lem _ _ _ _ (dot_byte a0 a3 a2 a1 a b c d ha hb hc hd) (dot_byte a1 a0 a3 a2 a b c d ha hb hc hd)
    (dot_byte a2 a1 a0 a3 a b c d ha hb hc hd) (dot_byte a3 a2 a1 a0 a b c d ha hb hc hd)

-- ------------------------------------------------------------------------
-- Through sums

module _ (a b c d x y z t : ℕ) (ha : a < 256) (hb : b < 256) (hc : c < 256) (hd : d < 256)
    (hx : x < 256) (hy : y < 256) (hz : z < 256) (ht : t < 256) where
  dot-⊕ : (p q r s : ℕ) → dot p q r s (a ⊕ x) (b ⊕ y) (c ⊕ z) (d ⊕ t) ≡ dot p q r s a b c d ⊕ dot p q r s x y z t
  dot-⊕ p q r s =
      ap₂ ◌⊕◌ (ap₂ ◌⊕◌ (•-⊕ p a x ha hx) (•-⊕ q b y hb hy)) (ap₂ ◌⊕◌ (•-⊕ r c z hc hz) (•-⊕ s d t hd ht))
      ∙ sym (⊕-pairs (p • a) (q • b) (r • c) (s • d) (p • x) (q • y) (r • z) (s • t))

  pub matrix-⊕ : (a0 a1 a2 a3 : ℕ)
      → by_matrix a0 a1 a2 a3 (a ⊕ x) (b ⊕ y) (c ⊕ z) (d ⊕ t) ≡ by_matrix a0 a1 a2 a3 a b c d ⊞ by_matrix a0 a1 a2 a3 x y z t
  unfolding by_matrix ◌⊞◌
  matrix-⊕ a0 a1 a2 a3 = λ i. dot-⊕ a0 a3 a2 a1 i ∷ dot-⊕ a1 a0 a3 a2 i ∷ dot-⊕ a2 a1 a0 a3 i ∷ dot-⊕ a3 a2 a1 a0 i ∷ []

-- ------------------------------------------------------------------------
-- A column that is turned

turn : (a b c d : ℕ) → (d ⊕ a) ⊕ (b ⊕ c) ≡ (a ⊕ b) ⊕ (c ⊕ d)
turn a b c d =
    ⊕-assoc d a (b ⊕ c) ∙ ⊕-comm d (a ⊕ (b ⊕ c)) ∙ ap (λ x. x ⊕ d) (sym (⊕-assoc a b c)) ∙ ⊕-assoc (a ⊕ b) c d

dot_turn : (p q r s a b c d : ℕ) → dot s p q r d a b c ≡ dot p q r s a b c d
dot_turn p q r s a b c d = turn (p • a) (q • b) (r • c) (s • d)

-- a row of the inverse by the mixed column
abbrev undo : ℕ → ℕ → ℕ → ℕ → ℕ → ℕ → ℕ → ℕ → ℕ
undo p q r s a b c d =
    dot p q r s (dot 0x02 0x03 0x01 0x01 a b c d) (dot 0x01 0x02 0x03 0x01 a b c d) (dot 0x01 0x01 0x02 0x03 a b c d) (dot 0x03 0x01 0x01 0x02 a b c d)

undo_turn : (p q r s a b c d : ℕ) → undo s p q r a b c d ≡ undo p q r s b c d a
undo_turn p q r s a b c d =
    dot_turn p q r s (dot 0x01 0x02 0x03 0x01 a b c d) (dot 0x01 0x01 0x02 0x03 a b c d) (dot 0x03 0x01 0x01 0x02 a b c d) (dot 0x02 0x03 0x01 0x01 a b c d)
    ∙ ap₂ ◌⊕◌
    (ap₂ ◌⊕◌ (ap (λ x. p • x) (dot_turn 0x02 0x03 0x01 0x01 b c d a)) (ap (λ x. q • x) (dot_turn 0x01 0x02 0x03 0x01 b c d a)))
    (ap₂ ◌⊕◌ (ap (λ x. r • x) (dot_turn 0x01 0x01 0x02 0x03 b c d a)) (ap (λ x. s • x) (dot_turn 0x03 0x01 0x01 0x02 b c d a)))

-- ------------------------------------------------------------------------
-- The first row, and by it the others

-- a factor goes through a sum of four
spread : (k x y z t : ℕ) → x < 256 → y < 256 → z < 256 → t < 256
    → k • ((x ⊕ y) ⊕ (z ⊕ t)) ≡ (k • x ⊕ k • y) ⊕ (k • z ⊕ k • t)
spread k x y z t hx hy hz ht =
    •-⊕ k (x ⊕ y) (z ⊕ t) (⊕-byte x y hx hy) (⊕-byte z t hz ht) ∙ ap₂ ◌⊕◌ (•-⊕ k x y hx hy) (•-⊕ k z t hz ht)

module _ (a b c d : ℕ) (ha : a < 256) (hb : b < 256) (hc : c < 256) (hd : d < 256) where
  through : (k p q r s : ℕ) → k • dot p q r s a b c d ≡ (k • (p • a) ⊕ k • (q • b)) ⊕ (k • (r • c) ⊕ k • (s • d))
  through k p q r s = spread k (p • a) (q • b) (r • c) (s • d) (•-byte p a ha) (•-byte q b hb) (•-byte r c hc) (•-byte s d hd)

  undo_first : undo 0x0E 0x0B 0x0D 0x09 a b c d ≡ a
  undo_first =
      ap₂ ◌⊕◌
      (ap₂ ◌⊕◌ (through 0x0E 0x02 0x03 0x01 0x01) (through 0x0B 0x01 0x02 0x03 0x01) ∙ ⊕-pairs _ _ _ _ _ _ _ _)
      (ap₂ ◌⊕◌ (through 0x0D 0x01 0x01 0x02 0x03) (through 0x09 0x03 0x01 0x01 0x02) ∙ ⊕-pairs _ _ _ _ _ _ _ _)
      ∙ ⊕-pairs _ _ _ _ _ _ _ _
      ∙ ap₂ ◌⊕◌ (ap₂ ◌⊕◌ (one_at a ha) (zero_at b hb)) (ap₂ ◌⊕◌ (zero_at_2 c hc) (zero_at_3 d hd))
      ∙ ap₂ ◌⊕◌ (⊕-zero a) (⊕-zero 0) ∙ ⊕-zero a

pub column_back : (a b c d : ℕ) → a < 256 → b < 256 → c < 256 → d < 256
    → undo 0x0E 0x0B 0x0D 0x09 a b c d ∷ undo 0x09 0x0E 0x0B 0x0D a b c d ∷ undo 0x0D 0x09 0x0E 0x0B a b c d ∷ undo 0x0B 0x0D 0x09 0x0E a b c d ∷ []
    ≡ a ∷ b ∷ c ∷ d ∷ []
column_back a b c d ha hb hc hd =
    let e0 : undo 0x0E 0x0B 0x0D 0x09 a b c d ≡ a = undo_first a b c d ha hb hc hd in
    let e1 : undo 0x09 0x0E 0x0B 0x0D a b c d ≡ b = undo_turn 0x0E 0x0B 0x0D 0x09 a b c d ∙ undo_first b c d a hb hc hd ha in
    let e2 : undo 0x0D 0x09 0x0E 0x0B a b c d ≡ c =
    undo_turn 0x09 0x0E 0x0B 0x0D a b c d ∙ undo_turn 0x0E 0x0B 0x0D 0x09 b c d a ∙ undo_first c d a b hc hd ha hb in
    let e3 : undo 0x0B 0x0D 0x09 0x0E a b c d ≡ d =
    undo_turn 0x0D 0x09 0x0E 0x0B a b c d ∙ undo_turn 0x09 0x0E 0x0B 0x0D b c d a ∙ undo_turn 0x0E 0x0B 0x0D 0x09 c d a b
    ∙ undo_first d a b c hd ha hb hc in
    λ i. e0 i ∷ e1 i ∷ e2 i ∷ e3 i ∷ []
