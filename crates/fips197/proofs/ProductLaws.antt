-- The product of bytes goes through their sum, and is a byte.
-- Assumes nothing.
use mathlib.Core.Path.{◌≡◌, refl, sym, ap, ap₂, ◌∙◌}
use Prim.Native.Nat.{ℕ, zero, suc, ◌*◌, ◌/◌, ◌%◌, ◌<◌}
use native.Mathlib.Nat.{add-zero}
use native.Mathlib.Omega.{arith}
use lib.Dec.{lit<}
use lib.Bits.{bit_xor, xor_block, xor_shr, xor_mod}
use Rattle.rules.specs.AesBytes.{◌⊕◌, if_set, x_times, product_below, ◌•◌, squares, inverse}
use Rattle.fips197.proofs.XorLaws.{⊕-swap, ⊕-byte, ⊕-zero, ⊕-self}

if_byte : (p b : ℕ) → b < 256 → if_set p b < 256
unfolding if_set
if_byte zero b h = lit< tt
if_byte (suc p) b h = h

if-⊕ : (p a b : ℕ) → if_set p (a ⊕ b) ≡ if_set p a ⊕ if_set p b
unfolding if_set
if-⊕ zero a b = sym (⊕-zero 0)
if-⊕ (suc p) a b = refl

bit-⊕ : (p q b : ℕ) → p < 2 → q < 2 → if_set (p ⊕ q) b ≡ if_set p b ⊕ if_set q b
unfolding if_set ◌⊕◌
bit-⊕ zero q b hp hq = refl
bit-⊕ (suc zero) zero b hp hq = sym (⊕-zero b)
bit-⊕ (suc zero) (suc zero) b hp hq = sym (⊕-self b)
bit-⊕ (suc zero) (suc (suc q)) b hp hq = absurd (omega arith)
bit-⊕ (suc (suc p)) q b hp hq = absurd (omega arith)

twice-⊕ : (a b : ℕ) → (a ⊕ b) * 2 ≡ a * 2 ⊕ b * 2
unfolding ◌⊕◌
twice-⊕ a b =
    sym (add-zero (bit_xor a b * 2))
    ∙ sym (xor_block 1 a b 0 0 (lit< tt) (lit< tt))
    ∙ ap₂ bit_xor (add-zero (a * 2)) (add-zero (b * 2))

mod-⊕ : (a b : ℕ) → (a ⊕ b) % 256 ≡ (a % 256) ⊕ (b % 256)
unfolding ◌⊕◌
mod-⊕ a b = xor_mod a b 8

top-⊕ : (a b : ℕ) → (a ⊕ b) / 128 ≡ (a / 128) ⊕ (b / 128)
unfolding ◌⊕◌
top-⊕ a b = xor_shr a b 7

x_times_byte : (b : ℕ) → x_times b < 256
unfolding x_times
x_times_byte b = ⊕-byte (if_set (b / 128) 0x1B) (b * 2 % 256) (if_byte (b / 128) 0x1B (lit< tt)) (omega arith)

x_times-⊕ : (a b : ℕ) → a < 256 → b < 256 → x_times (a ⊕ b) ≡ x_times a ⊕ x_times b
unfolding x_times
x_times-⊕ a b ha hb =
    ap₂ (λ x y. if_set x 0x1B ⊕ y) (top-⊕ a b) (ap (λ x. x % 256) (twice-⊕ a b) ∙ mod-⊕ (a * 2) (b * 2))
    ∙ ap (λ x. x ⊕ ((a * 2 % 256) ⊕ (b * 2 % 256))) (bit-⊕ (a / 128) (b / 128) 0x1B (omega arith) (omega arith))
    ∙ ⊕-swap (if_set (a / 128) 0x1B) (if_set (b / 128) 0x1B) (a * 2 % 256) (b * 2 % 256)

product_byte : (n c b : ℕ) → b < 256 → product_below n c b < 256
unfolding product_below
product_byte zero c b h = lit< tt
product_byte (suc n) zero b h = lit< tt
product_byte (suc n) (suc c) b h =
    ⊕-byte (if_set (suc c % 2) b) (product_below n (suc c / 2) (x_times b)) (if_byte (suc c % 2) b h)
    (product_byte n (suc c / 2) (x_times b) (x_times_byte b))

product-⊕ : (n c a b : ℕ) → a < 256 → b < 256 → product_below n c (a ⊕ b) ≡ product_below n c a ⊕ product_below n c b
unfolding product_below
product-⊕ zero c a b ha hb = sym (⊕-zero 0)
product-⊕ (suc n) zero a b ha hb = sym (⊕-zero 0)
product-⊕ (suc n) (suc c) a b ha hb =
    ap₂ (λ x y. x ⊕ y) (if-⊕ (suc c % 2) a b)
    (ap (product_below n (suc c / 2)) (x_times-⊕ a b ha hb) ∙ product-⊕ n (suc c / 2) (x_times a) (x_times b) (x_times_byte a) (x_times_byte b))
    ∙ ⊕-swap (if_set (suc c % 2) a) (if_set (suc c % 2) b) (product_below n (suc c / 2) (x_times a)) (product_below n (suc c / 2) (x_times b))

pub •-byte : (c b : ℕ) → b < 256 → c • b < 256
unfolding ◌•◌
•-byte c b h = product_byte 8 c b h

pub •-⊕ : (c a b : ℕ) → a < 256 → b < 256 → c • (a ⊕ b) ≡ c • a ⊕ c • b
unfolding ◌•◌
•-⊕ c a b ha hb = product-⊕ 8 c a b ha hb

squares_byte : (n b : ℕ) → b < 256 → squares n b < 256
unfolding squares
squares_byte zero b h = lit< tt
squares_byte (suc n) b h = •-byte b (squares n (b • b)) (squares_byte n (b • b) (•-byte b b h))

pub inverse_byte : (b : ℕ) → b < 256 → inverse b < 256
unfolding inverse
inverse_byte b h = squares_byte 7 (b • b) (•-byte b b h)
