-- The digits of bytes are a frame line, and it stands for these bytes.
-- Assumes nothing.
use mathlib.Core.Path.{◌≡◌, refl, ap, ◌∙◌}
use mathlib.Core.Bool.{Bool, true, false, cond}
use mathlib.Core.List.{List, [], ◌∷◌}
use Prim.Native.Nat.{ℕ, suc, ◌+◌, ◌*◌, ◌/◌, ◌%◌, ◌≤◌, ◌<◌}
use native.Mathlib.Omega.{arith}
use lib.ListN.{length}
use lib.Dec.{ltb}
use borrow.Author.Tests.{ltb-true, ltb-false, le-ltb, le-leb, lt-leb, ne_eqb}
use Rattle.rules.specs.Numbers.{digits_most}
use Rattle.rules.specs.Checks.{AllPass}
use Rattle.rules.specs.Answers.{digit_of, digits_of}
use Rattle.rules.specs.Ttlv.{AreBytes}
use Rattle.rules.proofs.AnswersLaws.{length_digits}
use Rattle.rules.specs.FrameLine.{is_digit, value_of, first_bad, decoded, line_checks}

digit_is : (n : ℕ) → n < 16 → (is_digit (digit_of n) ≡ true) × (value_of (digit_of n) ≡ n)
digit_is n h = by (ltb n 10) refl
  where
    low : n < 10 → (is_digit (48 + n) ≡ true) × (value_of (48 + n) ≡ n)
    low l = rw (le-leb 48 (48 + n) (omega arith), le-leb (48 + n) 57 (omega arith)) (refl, omega arith)

    high : 10 ≤ n → (is_digit (55 + n) ≡ true) × (value_of (55 + n) ≡ n)
    high l =
        rw (le-leb 48 (55 + n) (omega arith), lt-leb (55 + n) 57 (omega arith), le-leb 65 (55 + n) (omega arith), le-leb (55 + n) 70 (omega arith))
        (refl, omega arith)

    by : (b : Bool) → ltb n 10 ≡ b → (is_digit (cond b (48 + n) (55 + n)) ≡ true) × (value_of (cond b (48 + n) (55 + n)) ≡ n)
    by true e = low (ltb-true n 10 e)
    by false e = high (ltb-false n 10 e)

pub digits_decoded : (bs : List ℕ) → AreBytes bs → decoded (digits_of bs) ≡ bs
unfolding decoded digits_of AreBytes
digits_decoded [] p = refl
digits_decoded (b ∷ bs) p =
    let small = p.0 in
    let hi = (digit_is (b / 16) (omega arith)).1 in
    let lo = (digit_is (b % 16) (omega arith)).1 in
    let back : b / 16 * 16 + b % 16 ≡ b = omega arith in
    ap (λ l. l ∷ decoded (digits_of bs)) (ap (λ v. v * 16 + value_of (digit_of (b % 16))) hi ∙ ap (λ v. b / 16 * 16 + v) lo ∙ back)
    ∙ ap (λ l. b ∷ l) (digits_decoded bs p.1)

digits_good : (bs : List ℕ) → AreBytes bs → first_bad (digits_of bs) ≡ length (digits_of bs)
unfolding first_bad digits_of AreBytes
digits_good [] p = refl
digits_good (b ∷ bs) p =
    let small = p.0 in
    rw ((digit_is (b / 16) (omega arith)).0, (digit_is (b % 16) (omega arith)).0) (ap (λ n. suc (suc n)) (digits_good bs p.1))

pub digits_pass : (bs : List ℕ) → AreBytes bs → 1 ≤ length bs → length bs * 2 ≤ digits_most → AllPass (line_checks (digits_of bs))
unfolding line_checks
digits_pass bs p some few =
    let l = length_digits bs in
    let g = digits_good bs p in (
      ne_eqb (length (digits_of bs)) 0 (omega arith),
      (
        le-ltb digits_most (length (digits_of bs)) (omega arith),
        (le-ltb (first_bad (digits_of bs)) (length (digits_of bs)) (omega arith), (ne_eqb (length (digits_of bs) % 2) 1 (omega arith), tt)),
      ),
    )
