-- What the library's own functions answer, in the rules' words: arrays that were made of values, numbers of four bytes, equal bytes.
-- Assumes nothing.
use mathlib.Core.Path.{◌≡◌, refl, sym, ap, ◌∙◌}
use mathlib.Core.Bool.{or-false, true, ◌&&◌}
use mathlib.Core.List.{List, [], ◌∷◌}
use Prim.Native.Nat.{ℕ}
use native.Mathlib.Omega.{arith}
use lib.ListN.{length}
use lib.Dec.{eqb, leb, ltb}
use lib.Pointwise.{pointwise}
use borrow.Author.Tests.{eqb-true, eq-eqb, ne_eqb}
use Rattle.std.proofs.lemmas.Bool.Decides.{nat_tests}
use Rattle.std.specs.Prelude.{Some, None, Result, Ok, Err}
use Rattle.std.specs.Int.{w32, from_be_bytes}
use Rattle.std.specs.Array.{IsWholeChunk}
use Rattle.std.specs.Borrow.{Bor}
use Rattle.std.specs.Ordering.{nat_cmp, is_le, is_lt}
use Rattle.cells.specs.Predicates.{same}
use Rattle.std.specs.Result.{MatchResult, IsOk, result_ok}
use Rattle.rules.specs.Fields.{big_endian}
use Rattle.rules.specs.Ttlv.{is_value}
use Rattle.kmip.specs.declared.rows.NumberType.{NumberType}
use Rattle.kmip.specs.declared.rows.NumberType.TheVariants.{Integer, Enumeration}
use Rattle.kmip.specs.Runs.{type_of, GivesIf}

-- what was told of a result by its variant, at what `ok` leaves of it
pub ok_told : {A E : Type 0} (P : A → Type 0) (Q : E → Type 0) (r : Result A E) (y : A) → MatchResult r P Q → Some y ≡ result_ok r → P y
ok_told P Q (Ok x) y told e = let same : x ≡ y = cc in rw same at told
ok_told P Q (Err x) y told e = cc

-- an array that was made of a slice
pub chunk_given : {E : Type 0} (n : ℕ) (bytes : List ℕ) (r : Result (Bor (List ℕ)) E)
    → MatchResult r (λ y. IsWholeChunk bytes y.now n) (λ _. length bytes ≡ n → ⊥) → GivesIf (eqb (length bytes) n) (λ y. y.now) bytes (result_ok r)
chunk_given n bytes (Ok y) told = (eq-eqb (length bytes) n told.long, told.same)
chunk_given n bytes (Err e) told = ne_eqb (length bytes) n told

pub not_ok : {A E : Type 0} (r : Result A E) → IsOk r → None ≡ result_ok r → ⊥
not_ok (Ok x) ok e = cc
not_ok (Err x) ok e = cc

pub four_long : (kind : NumberType) (n : ℕ) → is_value (type_of kind) n ≡ true → n ≡ 4
unfolding is_value
four_long Integer n h = eqb-true n 4 (sym (or-false (eqb n 4)) ∙ h)
four_long Enumeration n h = eqb-true n 4 (sym (or-false (eqb n 4)) ∙ h)

pub of_four : (bytes : List ℕ) → length bytes ≡ 4 → from_be_bytes w32 bytes ≡ big_endian bytes
unfolding big_endian
of_four [] h = absurd (omega (arith, h))
of_four (a ∷ []) h = absurd (omega (arith, h))
of_four (a ∷ b ∷ []) h = absurd (omega (arith, h))
of_four (a ∷ b ∷ c ∷ []) h = absurd (omega (arith, h))
of_four (a ∷ b ∷ c ∷ d ∷ []) h = omega arith
of_four (a ∷ b ∷ c ∷ d ∷ e ∷ rest) h = absurd (omega (arith, h))

pub in_range : (a b n : ℕ) → is_le (nat_cmp a n) && is_lt (nat_cmp n b) ≡ leb a n && ltb n b
in_range a b n = grind (arith, nat_tests)

pub same_bytes : (xs ys : List ℕ) → pointwise eqb xs ys ≡ same xs ys
unfolding same
same_bytes [] [] = refl
same_bytes [] (y ∷ ys) = refl
same_bytes (x ∷ xs) [] = refl
same_bytes (x ∷ xs) (y ∷ ys) = ap (λ b. eqb x y && b) (same_bytes xs ys)
