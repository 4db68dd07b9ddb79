-- Reading a line leaves the frame as it was past the bytes that the line's digits
-- or a load may fill.
-- Assumes nothing.
use mathlib.Core.Path.{◌≡◌, refl, sym, ap, ◌∙◌}
use mathlib.Core.Bool.{Bool, true, false, not, cond}
use mathlib.Core.List.{List, ◌++◌}
use Prim.Native.Nat.{ℕ, ◌+◌, ◌-◌, ◌/◌, ◌≤◌}
use native.Mathlib.Omega.{arith}
use lib.ListN.{length, drop, length-append, length-drop}
use lib.Dec.{eqb}
use lib.Seq.{drop_at, drop-drop}
use borrow.Author.Tests.{leb-true}
use Rattle.cells.proofs.CellsLaws.{drop_write}
use Rattle.cells.proofs.PredicatesLaws.{and_right}
use Rattle.rules.specs.declared.Refusal.{Refusal}
use Rattle.rules.specs.Numbers.{uid_most, key_size, digits_most}
use Rattle.rules.specs.Checks.{Verdict, passed, refused, first_refusal, settle, AllPass}
use Rattle.rules.specs.FrameLine.{decoded}
use Rattle.rules.specs.Frames.{Frame, manage, release, load, load_wrapped, replace, clear_one, clear_all, io}
use Rattle.rules.specs.Frames.{set_features, get_features, boot_write, reset, discovery}
use Rattle.rules.specs.Frames.{unknown}
use Rattle.rules.specs.Order.{frame_of, reading_checks}
use Rattle.rules.proofs.ChecksLaws.{then_pass}
use Rattle.rules.proofs.FrameLineLaws.{line_passes}
use Rattle.rules.proofs.FramesLaws.{Fit, fits}
use Rattle.digits.specs.Digits.{line_length, read_into}
use Rattle.digits.proofs.ReadingLaws.{length_decoded}
use Rattle.frames.specs.Reading.{placed, read_as, read_from}

-- what is put before the rest of a list leaves the rest
rest_stays : (d xs : List ℕ) (k w : ℕ) → length d ≡ k → k ≤ w → drop w (d ++ drop k xs) ≡ drop w xs
rest_stays d xs k w l h =
    let m : ℕ = w - k in
    let e : k + m ≡ w = omega arith in
    ap (λ n. drop n (d ++ drop k xs)) (sym e)
    ∙ sym (drop-drop m k (d ++ drop k xs))
    ∙ ap (drop m) (drop_at d (drop k xs) k l)
    ∙ drop-drop m k xs
    ∙ ap (λ n. drop n xs) e

module _ (line bytes : List ℕ) (w : ℕ) (digits : length line ≤ digits_most → length line / 2 ≤ w) (loads : 5 + uid_most + key_size ≤ w)
    (room : w ≤ length bytes) where
  abbrev came : List ℕ
  came = (read_into line bytes).frame

  abbrev half : ℕ
  half = length line / 2

  few : line_length line ≡ true → half ≤ w
  few e = digits (leb-true (length line) digits_most (and_right (not (eqb (length line) 0)) _ e))

  came_by : (b : Bool) → line_length line ≡ b → drop w (cond b (decoded line ++ drop half bytes) bytes) ≡ drop w bytes
  came_by true e = rest_stays (decoded line) bytes half w (length_decoded line) (few e)
  came_by false e = refl

  came_stays : drop w came ≡ drop w bytes
  unfolding read_into
  came_stays = came_by (line_length line) refl

  long_by : (b : Bool) → line_length line ≡ b → length (cond b (decoded line ++ drop half bytes) bytes) ≡ length bytes
  long_by true e = length-append (decoded line) (drop half bytes) ∙ simp length-drop (omega (arith, length_decoded line, few e))
  long_by false e = refl

  came_long : length came ≡ length bytes
  unfolding read_into
  came_long = long_by (line_length line) refl

  placed_stays : (x : Frame) → Fit x → drop w (placed x came) ≡ drop w came
  placed_stays (load ns tag x) fit =
      let size : length (x.uid ++ x.key) ≡ length x.uid + key_size = length-append x.uid x.key ∙ ap (λ n. length x.uid + n) fit.whole in
      let short = fit.short in
      let there = came_long in
      drop_write 5 (length x.uid + key_size) (x.uid ++ x.key) came (omega arith) size w (omega arith)
  placed_stays (manage ns tags) fit = refl
  placed_stays (release ns) fit = refl
  placed_stays (load_wrapped ns tag x) fit = refl
  placed_stays (replace ns tag old x) fit = refl
  placed_stays (clear_one ns tag) fit = refl
  placed_stays (clear_all ns) fit = refl
  placed_stays (io c) fit = refl
  placed_stays (set_features dword11) fit = refl
  placed_stays get_features fit = refl
  placed_stays (boot_write partition) fit = refl
  placed_stays (reset level) fit = refl
  placed_stays discovery fit = refl
  placed_stays unknown fit = refl

  judged_stays : (v : Verdict Refusal) → first_refusal (reading_checks line) ≡ v
      → drop w (settle v (λ why. came) (placed (frame_of line) came)) ≡ drop w came
  judged_stays passed e =
      let p : AllPass (reading_checks line) = then_pass (reading_checks line) e in
      placed_stays (frame_of line) (fits (decoded line) (line_passes line p).1)
  judged_stays (refused q) e = refl

  pub reading_stays : drop w (read_from line bytes).frame ≡ drop w bytes
  unfolding read_from read_as
  reading_stays = judged_stays (first_refusal (reading_checks line)) refl ∙ came_stays
