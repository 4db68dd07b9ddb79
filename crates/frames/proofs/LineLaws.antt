-- What a line that was read leaves in the frame, and how a line goes on as its
-- frame.
-- Assumes nothing.
use mathlib.Core.Path.{◌≡◌, refl, sym, ap, ◌∙◌}
use mathlib.Core.Bool.{Bool, true, false, true≢false}
use mathlib.Core.List.{List, [], ◌∷◌, ◌++◌}
use Prim.Native.Nat.{ℕ, ◌/◌, ◌%◌, ◌≤◌, ◌<◌}
use native.Mathlib.Omega.{arith}
use lib.ListN.{length, take, drop}
use lib.Seq.{take_at}
use lib.Dec.{eqb, ltb}
use borrow.Author.Tests.{eqb-false, ltb-false, le-leb, ne_eqb}
use Rattle.std.specs.Prelude.{Result, Ok, Err}
use Rattle.rules.specs.declared.BadLine.{BadLine}
use Rattle.rules.specs.declared.BadLine.TheVariants.{Empty, TooLong, BadDigit, Odd}
use Rattle.rules.specs.Numbers.{digits_most}
use Rattle.rules.specs.Answers.{07·01}
use Rattle.rules.specs.Checks.{Check, ◌when◌, Verdict, passed, refused, first_refusal, settle, judged, AllPass}
use Rattle.rules.specs.FrameLine.{first_bad, decoded, line_checks, read_line}
use Rattle.rules.specs.Frames.{read_frame}
use Rattle.rules.specs.Order.{frame_of, reading_checks}
use Rattle.rules.proofs.ChecksLaws.{judged_pass, judged_refusing}
use Rattle.rules.proofs.FrameLineLaws.{is_bytes, is_frame_line}
use Rattle.digits.specs.Digits.{ReadInto, read_into}
use Rattle.digits.proofs.ReadingLaws.{length_decoded}
use Rattle.frames.specs.Reading.{numbers_of, placed, numbered, ReadFrom, read_as, read_from}

-- ------------------------------------------------------------------------
-- A frame line: all of it is digits, and its bytes go to the front

record Whole (line : List ℕ) : Type 0 where
  pub some : 2 ≤ length line
  pub short : length line ≤ digits_most
  pub read : read_line line ≡ Ok (length line / 2)
  pub passes : AllPass (line_checks line)

abbrev tests : Bool → Bool → Bool → Bool → ℕ → List (Check BadLine)
tests none long bad odd at = Empty when none ∷ TooLong when long ∷ BadDigit at when bad ∷ Odd when odd ∷ []

all_pass : (none long bad odd : Bool) (at n : ℕ) → is_bytes (judged (tests none long bad odd at) Err (Ok n)) ≡ true
    → AllPass (tests none long bad odd at)
all_pass true long bad odd at n e = absurd (true≢false (sym e))
all_pass false true bad odd at n e = absurd (true≢false (sym e))
all_pass false false true odd at n e = absurd (true≢false (sym e))
all_pass false false false true at n e = absurd (true≢false (sym e))
all_pass false false false false at n e = (refl, (refl, (refl, (refl, tt))))

whole_line : (line : List ℕ) → is_frame_line line ≡ true → Whole line
unfolding read_line line_checks
whole_line line e =
    let n : ℕ = length line in
    let p = all_pass (eqb n 0) (ltb digits_most n) (ltb (first_bad line) n) (eqb (n % 2) 1) (first_bad line) (n / 2) e in
    let some : n ≡ 0 → ⊥ = eqb-false n 0 p.0 in
    let even : n % 2 ≡ 1 → ⊥ = eqb-false (n % 2) 1 p.1.1.1.0 in
    record {
      some = omega arith;
      short = ltb-false digits_most n p.1.0;
      read = judged_pass (line_checks line) Err (Ok (n / 2)) p;
      passes = p;
    }

pub frame_of_lem : (line frame : List ℕ) → is_frame_line line ≡ true → (read_into line frame).frame ≡ decoded line ++ drop (length line / 2) frame
unfolding read_into
frame_of_lem line frame e =
    let w = whole_line line e in
    let some : length line ≡ 0 → ⊥ = omega (arith, w.some) in
    rw (ne_eqb (length line) 0 some, le-leb (length line) digits_most w.short)

-- ------------------------------------------------------------------------
-- By what was read

-- the checks of the line have passed, and those of its frame decide
as_frame : (line f : List ℕ) → AllPass (line_checks line)
    → read_as (record { checks = reading_checks line; frame = frame_of line }) f ≡ read_as (read_frame (decoded line)) f
unfolding read_as numbered
as_frame line f p =
    let rest = (read_frame (decoded line)).checks in
    let frame = (read_frame (decoded line)).frame in
    let read : judged (reading_checks line) Err (numbers_of frame) ≡ judged rest Err (numbers_of frame) =
    judged_refusing 07·01 (line_checks line) rest Err (numbers_of frame) ∙ judged_pass (line_checks line) _ _ p in
    let left : judged (reading_checks line) (λ why. f) (placed frame f) ≡ judged rest (λ why. f) (placed frame f) =
    judged_refusing 07·01 (line_checks line) rest (λ why. f) (placed frame f) ∙ judged_pass (line_checks line) _ _ p in
    rw (read, left)

bad_then : (v : Verdict BadLine) (n : ℕ) (why : BadLine) → settle v Err (Ok n) ≡ Err why → v ≡ refused why
bad_then passed n why e = cc
bad_then (refused w) n why e = cc

abbrev bytes_in : Result ℕ BadLine → ℕ
bytes_in (Ok n) = n
bytes_in (Err why) = 0

module _ (line f last : List ℕ) {r : Result ℕ BadLine} (became : record { read = r; frame = last } ≡ read_into line f) where
  read_is : r ≡ read_line line
  unfolding read_into
  read_is = ap (λ (x : ReadInto). x.read) became

  left : last ≡ (read_into line f).frame
  left = ap (λ (x : ReadInto). x.frame) became

  -- no frame line
  pub not_a_line : (why : BadLine) → r ≡ Err why → record { read = Err (07·01 why); frame = last } ≡ read_from line f
  unfolding read_from read_as numbered read_line
  not_a_line why e =
      let rest = (read_frame (decoded line)).checks in
      let came = (read_into line f).frame in
      let v : first_refusal (line_checks line) ≡ refused why =
      bad_then (first_refusal (line_checks line)) (length line / 2) why (sym read_is ∙ e) in
      let read : judged (reading_checks line) Err (numbers_of (frame_of line)) ≡ Err (07·01 why) =
      judged_refusing 07·01 (line_checks line) rest Err (numbers_of (frame_of line))
      ∙ ap (λ w. settle w (λ a. Err (07·01 a)) (judged rest Err (numbers_of (frame_of line)))) v in
      let stays : judged (reading_checks line) (λ why. came) (placed (frame_of line) came) ≡ came =
      judged_refusing 07·01 (line_checks line) rest (λ why. came) (placed (frame_of line) came)
      ∙ ap (λ w. settle w (λ a. came) (judged rest (λ why. came) (placed (frame_of line) came))) v in
      rw (read, stays, ← left)

  module _ (n : ℕ) (e : r ≡ Ok n) where
    whole : Whole line
    whole = whole_line line (ap is_bytes (sym read_is ∙ e))

    half : n ≡ length line / 2
    half = ap bytes_in (sym e ∙ read_is ∙ whole.read)

    pub fits : (0 < n) × (n ≤ digits_most / 2)
    fits = (omega (arith, half, whole.some), omega (arith, half, whole.short))

    came : last ≡ decoded line ++ drop (length line / 2) f
    came = left ∙ frame_of_lem line f (ap is_bytes (sym read_is ∙ e))

    front : take n last ≡ decoded line
    front = ap (take n) came ∙ take_at (decoded line) _ n (length_decoded line ∙ sym half)

    -- what the first n bytes are read as
    pub read_as_lem : (x : ReadFrom) → x ≡ read_as (read_frame (take n last)) last → x ≡ read_from line f
    unfolding read_from
    read_as_lem x g =
        g
        ∙ ap (λ d. read_as (read_frame d) last) front
        ∙ sym (as_frame line last whole.passes)
        ∙ ap (read_as (record { checks = reading_checks line; frame = frame_of line })) left
