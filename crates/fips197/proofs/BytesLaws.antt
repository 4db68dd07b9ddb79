-- Runs of bytes: their parts, joins and sums are runs of bytes; a run as the list
-- of its elements; and what holds of every byte, by a test that the checker computes.
-- Assumes nothing.
use mathlib.Core.Path.{◌≡◌, refl, ap, ap₂, ◌∙◌}
use mathlib.Core.Bool.{Bool, true, ◌&&◌}
use mathlib.Core.List.{List, [], ◌∷◌, ◌++◌, map}
use Prim.Native.Nat.{ℕ, zero, suc, ◌+◌, ◌≤◌, ◌<◌}
use native.Mathlib.Nat.{not-suc-le-zero}
use native.Mathlib.Omega.{arith}
use native.Mathlib.Decide.{ℕ_discrete}
use lib.ListN.{length, get_or, take, drop, length-append, length-drop, length-map, drop_of_length-le}
use lib.Seq.{length-take-le, drop-cons}
use lib.Dec.{eqb, lit<}
use borrow.Author.Tests.{eqb-true}
use Rattle.cells.specs.Cells.{part}
use Rattle.cells.proofs.CellsLaws.{length_part}
use Rattle.cells.proofs.PredicatesLaws.{and_left, and_right}
use Rattle.rules.specs.Aes.{◌⊞◌}
use Rattle.rules.specs.AesPromises.{Small, Bytes}
use Rattle.rules.proofs.AesLaws.{length-⊞}
use Rattle.fips197.proofs.XorLaws.{⊕-byte}

pub small_append : (s t : List ℕ) → Small s → Small t → Small (s ++ t)
small_append [] t hs ht i = ht i
small_append (x ∷ s) t hs ht zero = hs 0
small_append (x ∷ s) t hs ht (suc i) = small_append s t (λ j. hs (suc j)) ht i

pub small_take : (n : ℕ) (s : List ℕ) → Small s → Small (take n s)
small_take zero s h i = lit< tt
small_take (suc n) [] h i = lit< tt
small_take (suc n) (x ∷ s) h zero = h 0
small_take (suc n) (x ∷ s) h (suc i) = small_take n s (λ j. h (suc j)) i

pub small_drop : (n : ℕ) (s : List ℕ) → Small s → Small (drop n s)
small_drop zero s h i = h i
small_drop (suc n) [] h i = lit< tt
small_drop (suc n) (x ∷ s) h i = small_drop n s (λ j. h (suc j)) i

small_map : (f : ℕ → ℕ) → ((b : ℕ) → f b < 256) → (s : List ℕ) → Small (map f s)
small_map f h [] i = lit< tt
small_map f h (x ∷ s) zero = h x
small_map f h (x ∷ s) (suc i) = small_map f h s i

small-⊞ : (s k : List ℕ) → Small s → Small k → Small (s ⊞ k)
unfolding ◌⊞◌
small-⊞ [] k hs hk i = lit< tt
small-⊞ (x ∷ s) [] hs hk i = hs i
small-⊞ (x ∷ s) (y ∷ k) hs hk zero = ⊕-byte x y (hs 0) (hk 0)
small-⊞ (x ∷ s) (y ∷ k) hs hk (suc i) = small-⊞ s k (λ j. hs (suc j)) (λ j. hk (suc j)) i

-- ------------------------------------------------------------------------
-- n bytes

pub append_bytes : (m n : ℕ) (s t : List ℕ) → Bytes m s → Bytes n t → Bytes (m + n) (s ++ t)
append_bytes m n s t hs ht = record {
  long = length-append s t ∙ ap₂ ◌+◌ hs.long ht.long;
  small = small_append s t hs.small ht.small;
}

pub part_bytes : (a n : ℕ) (s : List ℕ) → a + n ≤ length s → Small s → Bytes n (part a n s)
unfolding part
part_bytes a n s h b = record { long = length_part a n s h; small = small_take n (drop a s) (small_drop a s b) }

pub take_bytes : (n m : ℕ) (s : List ℕ) → n ≤ m → Bytes m s → Bytes n (take n s)
take_bytes n m s h b = record { long = length-take-le n s (omega arith); small = small_take n s b.small }

pub drop_bytes : (n k m : ℕ) (s : List ℕ) → k + n ≡ m → Bytes m s → Bytes n (drop k s)
drop_bytes n k m s h b = record { long = simp length-drop (omega arith); small = small_drop k s b.small }

pub xor_bytes : (n : ℕ) (s t : List ℕ) → Bytes n s → Small t → Bytes n (s ⊞ t)
xor_bytes n s t hs ht = record { long = length-⊞ s t ∙ hs.long; small = small-⊞ s t hs.small ht }

pub map_bytes : (n : ℕ) (f : ℕ → ℕ) (s : List ℕ) → ((b : ℕ) → f b < 256) → length s ≡ n → Bytes n (map f s)
map_bytes n f s h e = record { long = length-map s f ∙ e; small = small_map f h s }

four : (a b c d : ℕ) → a < 256 → b < 256 → c < 256 → d < 256 → Small (a ∷ b ∷ c ∷ d ∷ [])
four a b c d ha hb hc hd zero = ha
four a b c d ha hb hc hd (suc zero) = hb
four a b c d ha hb hc hd (suc (suc zero)) = hc
four a b c d ha hb hc hd (suc (suc (suc zero))) = hd
four a b c d ha hb hc hd (suc (suc (suc (suc i)))) = lit< tt

pub four_bytes_lem : (a b c d : ℕ) → a < 256 → b < 256 → c < 256 → d < 256 → Bytes 4 (a ∷ b ∷ c ∷ d ∷ [])
four_bytes_lem a b c d ha hb hc hd = record { long = refl; small = four a b c d ha hb hc hd }

-- ------------------------------------------------------------------------
-- The n elements from k on, one by one: with these in its place a list of known length computes

abbrev pub listed : List ℕ → ℕ → ℕ → List ℕ
listed s k zero = []
listed s k (suc n) = get_or s k 0 ∷ listed s (suc k) n

pub from : (s : List ℕ) (k n : ℕ) → length s ≡ k + n → drop k s ≡ listed s k n
from s k zero h = let e : length s ≤ k = omega arith in drop_of_length-le s e
from s k (suc n) h = drop-cons s k 0 (omega arith) ∙ ap (λ l. get_or s k 0 ∷ l) (from s (suc k) n (omega arith))

pub parted : (s : List ℕ) (k n : ℕ) → k + n ≤ length s → part k n s ≡ listed s k n
unfolding part
parted s k zero h = refl
parted s k (suc n) h = ap (take (suc n)) (drop-cons s k 0 (omega arith)) ∙ ap (λ l. get_or s k 0 ∷ l) (parted s (suc k) n (omega arith))

-- ------------------------------------------------------------------------
-- What holds of each number below n

unfoldable pub all_below : ℕ → (ℕ → Bool) → Bool
all_below zero f = true
all_below (suc n) f = f n && all_below n f

at_each : (f : ℕ → Bool) (n : ℕ) → all_below n f ≡ true → (k : ℕ) → k < n → f k ≡ true
unfolding all_below
at_each f zero e k h = absurd (not-suc-le-zero h)
at_each f (suc n) e k h =
    elim (ℕ_discrete k n) [
      | yes p ↦ rw p (and_left (f n) (all_below n f) e)
      | no p ↦ at_each f n (and_right (f n) (all_below n f) e) k (omega arith)
    ]

-- two functions that agree there, by a test
pub agree : (n : ℕ) (f g : ℕ → ℕ) → all_below n (λ k. eqb (f k) (g k)) ≡ true → (k : ℕ) → k < n → f k ≡ g k
agree n f g e k h = eqb-true (f k) (g k) (at_each (λ k. eqb (f k) (g k)) n e k h)
