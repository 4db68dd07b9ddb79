-- Bytes as digits, written one byte after the other, and the line of an answer
-- that has these bytes.
-- Assumes nothing.
use Rattle.std.proofs.Common.{◌≡◌, ℕ, ◌+◌, ◌*◌, ◌/◌, ◌%◌, ◌^◌, ◌<◌, ◌≤◌}
use Rattle.std.proofs.Common.{Bool, true, false, cond, leb, List, [], ◌∷◌}
use Rattle.std.proofs.Common.{◌++◌, length, get_or, take, drop, set, refl, ap, ◌∙◌, append_assoc, add-one, arith, length-append}
use Rattle.std.proofs.Common.{length-take-le, take-suc, le-leb}
use Rattle.std.specs.Prelude.{Ok, Err}
use Rattle.std.specs.Int.{w16, w64, to_be_bytes, to_le_bytes}
use mathlib.Core.Option.{none}
use borrow.Author.Tests.{lt-leb}
use Rattle.cells.proofs.CellsLaws.{grow}
use Rattle.cells.specs.Cells.{zeros}
use Rattle.rules.specs.Answer.{Answer}
use Rattle.rules.specs.declared.Granted.TheVariants.{Discovery}
use Rattle.rules.specs.declared.Refusal.{Refusal}
use Rattle.rules.specs.declared.BadLine.{BadLine}
use Rattle.rules.specs.declared.Refusal.TheVariants.{NotAFrameLine}
use Rattle.rules.specs.declared.DiscoveryFields.{DiscoveryFields}
use Rattle.rules.specs.Numbers.{discovery_size}
use Rattle.rules.specs.Discovery.{header_bytes, tper_bytes, key_per_io_bytes, response, own_header, own_tper, own_key_per_io, own_fields}
use Rattle.rules.specs.Discovering.{respond}
use Rattle.rules.specs.Answers.{refusal_number, reason, place_in, fault_of, answer_bytes, answer_line, digit_of, digits_of, line_feed}
use Rattle.digits.specs.Digits.{Wrote, wrote}

length_digits : (bs : List ℕ) → length (digits_of bs) ≡ length bs * 2
unfolding digits_of
length_digits [] = refl
length_digits (b ∷ bs) = omega (arith, length_digits bs)

digits_append : (p q : List ℕ) → digits_of (p ++ q) ≡ digits_of p ++ digits_of q
unfolding digits_of
digits_append [] q = refl
digits_append (b ∷ p) q = ap (λ l. digit_of (b / 16) ∷ digit_of (b % 16) ∷ l) (digits_append p q)

next_byte : (bs : List ℕ) (i : ℕ) → i < length bs
    → digits_of (take (i + 1) bs) ≡ (digits_of (take i bs) ++ (digit_of (get_or bs i 0 / 16) ∷ [])) ++ (digit_of (get_or bs i 0 % 16) ∷ [])
unfolding digits_of
next_byte bs i h = rw (add-one i, take-suc bs i 0 h, append_assoc) (digits_append (take i bs) (get_or bs i 0 ∷ []))

-- a turn: i bytes are done, and the next one's digits go to places i * 2 and i * 2 + 1
pub digits_turn : (bs out : List ℕ) (i : ℕ) → i < length bs → length bs * 2 ≤ length out
    → set (set (digits_of (take i bs) ++ drop (i * 2) out) (i * 2) (digit_of (get_or bs i 0 / 16))) (i * 2 + 1) (digit_of (get_or bs i 0 % 16))
    ≡ digits_of (take (i + 1) bs) ++ drop ((i + 1) * 2) out
digits_turn bs out i h k =
    let x : ℕ = digit_of (get_or bs i 0 / 16) in
    let y : ℕ = digit_of (get_or bs i 0 % 16) in
    let p : List ℕ = digits_of (take i bs) in
    let l : length p ≡ i * 2 = length_digits (take i bs) ∙ ap (λ n. n * 2) (length-take-le i bs (omega arith)) in
    let e : (i + 1) * 2 ≡ i * 2 + 1 + 1 = omega arith in
    ap (λ d. set d (i * 2 + 1) y) (grow p out (i * 2) x l (omega arith))
    ∙ grow (p ++ (x ∷ [])) out (i * 2 + 1) y (simp length-append (omega arith)) (omega arith)
    ∙ (rw (e, next_byte bs i h))

module _ (a : Answer) (bs out : List ℕ) (has : answer_bytes a ≡ bs) where
  line_is : answer_line a ≡ digits_of bs ++ (line_feed ∷ [])
  unfolding answer_line
  line_is = ap (λ l. digits_of l ++ (line_feed ∷ [])) has

  length_line : length (answer_line a) ≡ length bs * 2 + 1
  length_line = ap length line_is ∙ simp length-append (omega (arith, length_digits bs))

  pub wrote_not : length out ≤ length bs * 2 → ◌≡◌ {A = Wrote} (record { bytes = 0; out = out }) (wrote a out)
  unfolding wrote
  wrote_not h = rw (length_line, lt-leb (length bs * 2 + 1) (length out) (omega arith))

  -- the digits stand, and the line feed goes behind them
  pub wrote_all : length bs * 2 < length out
      → ◌≡◌ {A = Wrote} (record { bytes = length bs * 2 + 1; out = set (digits_of bs ++ drop (length bs * 2) out) (length bs * 2) line_feed })
      (wrote a out)
  unfolding wrote
  wrote_all h =
      rw (length_line, le-leb (length bs * 2 + 1) (length out) (omega arith), line_is, grow (digits_of bs) out (length bs * 2) line_feed (length_digits bs) h)

-- what was written stands in the output
fits_either : (b : Bool) (x y : Wrote) → x.bytes ≤ length x.out → y.bytes ≤ length y.out → (cond b x y).bytes ≤ length (cond b x y).out
fits_either true x y p q = p
fits_either false x y p q = q

pub wrote_fits : (a : Answer) (out : List ℕ) → (wrote a out).bytes ≤ length (wrote a out).out
unfolding wrote
wrote_fits a out =
    let size = length-append (answer_line a) (drop (length (answer_line a)) out) in
    fits_either (leb (length (answer_line a)) (length out)) _ _ (omega arith) (omega arith)

-- ------------------------------------------------------------------------
-- Discovery: 0000, and the response behind it

pub discovery_bytes : (f : DiscoveryFields) (x : List ℕ) → f ≡ own_fields → x ≡ (respond f (zeros discovery_size)).out
    → answer_bytes (Ok Discovery) ≡ 0 ∷ 0 ∷ (x ++ [])
unfolding respond response header_bytes tper_bytes key_per_io_bytes own_fields own_header own_tper own_key_per_io zeros
discovery_bytes f x is e = rw (e, is)

pub discovery_length : length (answer_bytes (Ok Discovery)) ≡ 2 + discovery_size
unfolding response header_bytes tper_bytes key_per_io_bytes own_fields own_header zeros
discovery_length = refl

-- ------------------------------------------------------------------------
-- A refusal's bytes: its number, and what it tells of a line

tells_nothing : (r : Refusal) → ((why : BadLine) → r ≡ NotAFrameLine why → ⊥) → fault_of r ≡ none
unfolding fault_of
tells_nothing r other = grind (arith)

module _ (r : Refusal) {n : ℕ} {number : List ℕ} (is : n ≡ refusal_number r) (fits : n < 2 ^ 16) (bytes : number ≡ to_be_bytes w16 n) where
  high_byte : refusal_number r / 256 ≡ get_or number 0 0
  high_byte = rw (bytes, ← is) (omega arith)

  low_byte : refusal_number r % 256 ≡ get_or number 1 0
  low_byte = rw (bytes, ← is) (omega arith)

  pub number_alone : ((why : BadLine) → r ≡ NotAFrameLine why → ⊥) → answer_bytes (Err r) ≡ get_or number 0 0 ∷ get_or number 1 0 ∷ []
  number_alone other = rw (high_byte, low_byte, tells_nothing r other)

  pub number_told : (why : BadLine) {told : ℕ × ℕ} {place : List ℕ} → r ≡ NotAFrameLine why
      → (told.0 ≡ reason why) × (told.1 ≡ place_in why) → place ≡ to_le_bytes w64 told.1
      → answer_bytes (Err r) ≡ get_or number 0 0 ∷ get_or number 1 0 ∷ told.0 ∷ get_or place 0 0 ∷ get_or place 1 0 ∷ []
  unfolding fault_of
  number_told why line tells low_first =
      rw (high_byte, low_byte, line, low_first, tells.0, tells.1)
