-- A little-endian number by its bytes, as the library reads it.
-- Assumes nothing.
use Rattle.std.proofs.Common.{◌≡◌, ℕ, suc, ◌+◌, ◌*◌, ◌<◌, List, [], ◌∷◌, length, get_or, ap, ◌∙◌, sym, arith}
use Rattle.cells.specs.Cells.{part}
use Rattle.cells.proofs.CellsLaws.{part_next, part_byte}
use Rattle.rules.specs.Fields.{little}

-- the byte at a, and those from b on behind it
pub little_next : (a b n : ℕ) (f : List ℕ) → a < length f → suc a ≡ b → little (part a (suc n) f) ≡ get_or f a 0 + 256 * little (part b n f)
unfolding little
little_next a b n f h e = ap little (part_next a b n f h e)

pub little_last : (a : ℕ) (f : List ℕ) → a < length f → little (part a 1 f) ≡ get_or f a 0
unfolding little
little_last a f h = ap little (part_byte a f h) ∙ omega arith

pub little_two : (a b : ℕ) → a + b * 256 ≡ little (a ∷ b ∷ [])
unfolding little
little_two a b = omega arith

module _ (a b : ℕ) (f : List ℕ) (second : suc a ≡ b) where
  pub pair_at : b < length f → part a 2 f ≡ get_or f a 0 ∷ get_or f b 0 ∷ []
  pair_at h = part_next a b 1 f (omega arith) second ∙ ap (λ x. get_or f a 0 ∷ x) (part_byte b f h)

  pub two_at : b < length f → get_or f a 0 + get_or f b 0 * 256 ≡ little (part a 2 f)
  two_at h = little_two (get_or f a 0) (get_or f b 0) ∙ ap little (sym (pair_at h))

  pub four_at : (c d : ℕ) → suc b ≡ c → suc c ≡ d → d < length f
      → get_or f a 0 + get_or f b 0 * 256 + get_or f c 0 * 65536 + get_or f d 0 * 16777216 ≡ little (part a 4 f)
  four_at c d third fourth h =
      let p = little_next a b 3 f (omega arith) second in
      let q = little_next b c 2 f (omega arith) third in
      let r = little_next c d 1 f (omega arith) fourth in
      let s = little_last d f h in
      omega arith
