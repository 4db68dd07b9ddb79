-- What was read, with the bytes that the reading left, stands for the rules'
-- reading of the line; and its KeyUIDs and keys lie in those bytes.
-- Assumes nothing.
use mathlib.Core.Path.{◌≡◌, refl, ap, ◌∙◌}
use mathlib.Core.Bool.{true≢false}
use mathlib.Core.List.{List, ◌++◌}
use Prim.Native.Nat.{ℕ, zero, suc, ◌+◌, ◌-◌, ◌/◌, ◌≤◌, ◌<◌}
use native.Mathlib.Nat.{min-le_left}
use native.Mathlib.Omega.{arith}
use lib.ListN.{length, get_or, take, drop, length-append, length-drop, length-take}
use lib.Seq.{take-length, drop_at}
use borrow.Author.Tests.{eqb-true, not-false}
use Rattle.cells.specs.Cells.{part, write}
use Rattle.cells.proofs.CellsLaws.{length_part, part_front_of, part_write_in, part_whole, length_write}
use Rattle.rules.specs.declared.Namespace.{Namespace}
use Rattle.rules.specs.declared.Tag.{Tag}
use Rattle.rules.specs.declared.Refusal.{Refusal}
use Rattle.rules.specs.Numbers.{uid_most, key_size, wrapped_size}
use Rattle.rules.specs.Checks.{Verdict, passed, refused, first_refusal, settle, judged, AllPass}
use Rattle.rules.specs.Fields.{byte}
use Rattle.rules.specs.FrameLine.{decoded}
use Rattle.rules.specs.Slots.{Contents, FitKey}
use Rattle.rules.specs.Frames.{Frame, load, read_load, read_wrapped, read_replace, read_message, unknown_kind, kinds, read_frame}
use Rattle.rules.specs.Order.{frame_of, reading_checks}
use Rattle.rules.proofs.ChecksLaws.{then_pass, judged_map}
use Rattle.rules.proofs.FrameLineLaws.{line_passes}
use Rattle.rules.proofs.FramesLaws.{Fit, fits}
use Rattle.digits.specs.Digits.{read_into}
use Rattle.frames.specs.declared.FrameRead.{FrameRead}
use Rattle.std.specs.Prelude.{Result, Err}
use Rattle.frames.specs.Reading.{numbers_of, Meant, frame, refusal, meant, placed, numbered, ReadFrom, read_as, read_from, Lies}
use Rattle.frames.proofs.LineLaws.{frame_of_lem}

-- ------------------------------------------------------------------------
-- Bytes at the front stay the same, whatever is behind them

part_behind : (u v : List ℕ) (n : ℕ) → length v ≡ n → part (length u) n (u ++ v) ≡ v
unfolding part
part_behind u v n e = ap (take n) (drop_at u v (length u) refl) ∙ rw (← e) (take-length v)

-- ------------------------------------------------------------------------
-- A frame that passed its checks: its numbers stand for it

record Kept (f : List ℕ) (x : Frame) : Type 0 where
  pub stands : meant f (numbers_of x) ≡ frame x
  pub lying : Lies f (numbers_of x)

-- a write past the end is no longer than what it writes
write_most : (a n : ℕ) (v xs : List ℕ) → length (write a n v xs) ≤ a + (length v + (length xs - a - n))
unfolding write
write_most a n v xs = simp (length-append, length-drop) (omega (arith, length-take a xs, min-le_left a (length xs)))

-- a load's KeyUID and key, wherever they came from, stand from byte 5 on
load_kept : (f : List ℕ) (ns : Namespace) (tag : Tag) (x : Contents) → FitKey x → 5 + uid_most + key_size < length (placed (load ns tag x) f)
    → Kept (placed (load ns tag x) f) (load ns tag x)
load_kept f ns tag x fit room =
    let l : ℕ = length x.uid in
    let both = x.uid ++ x.key in
    let short = fit.short in
    let full : length both ≡ l + key_size = length-append x.uid x.key ∙ ap (λ n. l + n) fit.whole in
    let most = write_most 5 (l + key_size) both f in
    let there : 5 + (l + key_size) ≤ length f = omega arith in
    let uid : part 5 l (write 5 (l + key_size) both f) ≡ x.uid =
    part_write_in 5 (l + key_size) both f there full 0 l (omega arith) ∙ part_front_of 0 l x.uid x.key (omega arith) ∙ part_whole l x.uid refl in
    let key : part (5 + l) key_size (write 5 (l + key_size) both f) ≡ x.key =
    part_write_in 5 (l + key_size) both f there full l key_size (omega arith) ∙ part_behind x.uid x.key key_size fit.whole in
    record { stands = rw (uid, key); lying = rw (uid, key) (fit, omega (arith, length_write 5 (l + key_size) both f there full)) }

module _ (d r : List ℕ) where
  replace_kept : AllPass (read_replace d).checks → Fit (read_replace d).frame → Kept (d ++ r) (read_replace d).frame
  unfolding read_replace
  replace_kept p fit =
      let o : ℕ = byte 4 d in
      let l : ℕ = byte (5 + o) d in
      let size : length d ≡ 6 + o + l + key_size = eqb-true _ _ (not-false _ p.1.1.1.1.0) in
      let counted : length (part 5 o d) ≡ o = length_part 5 o d (omega arith) in
      let again : length (part (6 + o) l d) ≡ l = length_part (6 + o) l d (omega arith) in
      let old : part 5 o (d ++ r) ≡ part 5 o d = part_front_of 5 o d r (omega arith) in
      let uid : part (6 + o) l (d ++ r) ≡ part (6 + o) l d = part_front_of (6 + o) l d r (omega arith) in
      let key : part (6 + o + l) key_size (d ++ r) ≡ part (6 + o + l) key_size d = part_front_of (6 + o + l) key_size d r (omega arith) in
      record {
        stands = rw (counted, again, old, uid, key);
        lying = rw (counted, again, uid, key) (fit, omega (arith, length-append d r));
      }

  wrapped_kept : AllPass (read_wrapped d).checks → Fit (read_wrapped d).frame → Kept (d ++ r) (read_wrapped d).frame
  unfolding read_wrapped
  wrapped_kept p fit =
      let l : ℕ = byte 4 d in
      let size : length d ≡ 5 + l + wrapped_size = eqb-true _ _ (not-false _ p.1.1.0) in
      let counted : length (part 5 l d) ≡ l = length_part 5 l d (omega arith) in
      let uid : part 5 l (d ++ r) ≡ part 5 l d = part_front_of 5 l d r (omega arith) in
      let key : part (5 + l) wrapped_size (d ++ r) ≡ part (5 + l) wrapped_size d = part_front_of (5 + l) wrapped_size d r (omega arith) in
      record { stands = rw (counted, uid, key); lying = rw (counted, uid, key) (fit, omega (arith, length-append d r)) }

  -- by the kind
  kind_kept : (k : ℕ) → AllPass (get_or (kinds d) k unknown_kind).checks → Fit (get_or (kinds d) k unknown_kind).frame
      → 5 + uid_most + key_size < length (placed (get_or (kinds d) k unknown_kind).frame (d ++ r))
      → Kept (placed (get_or (kinds d) k unknown_kind).frame (d ++ r)) (get_or (kinds d) k unknown_kind).frame
  unfolding kinds read_load read_replace read_message read_wrapped
  kind_kept zero p fit room = absurd (true≢false p.0)
  kind_kept (suc zero) p fit room = record { stands = refl; lying = tt }
  kind_kept (suc (suc zero)) p fit room = record { stands = refl; lying = tt }
  kind_kept (suc (suc (suc zero))) p fit room = load_kept (d ++ r) _ _ _ fit room
  kind_kept (suc (suc (suc (suc zero)))) p fit room = replace_kept p fit
  kind_kept (suc (suc (suc (suc (suc zero))))) p fit room = record { stands = refl; lying = tt }
  kind_kept (suc (suc (suc (suc (suc (suc zero)))))) p fit room = record { stands = refl; lying = tt }
  kind_kept (suc (suc (suc (suc (suc (suc (suc zero))))))) p fit room = record { stands = refl; lying = tt }
  kind_kept (suc (suc (suc (suc (suc (suc (suc (suc zero)))))))) p fit room = record { stands = refl; lying = tt }
  kind_kept (suc (suc (suc (suc (suc (suc (suc (suc (suc zero))))))))) p fit room = record { stands = refl; lying = tt }
  kind_kept (suc (suc (suc (suc (suc (suc (suc (suc (suc (suc zero)))))))))) p fit room = record { stands = refl; lying = tt }
  kind_kept (suc (suc (suc (suc (suc (suc (suc (suc (suc (suc (suc zero))))))))))) p fit room = record { stands = refl; lying = tt }
  kind_kept (suc (suc (suc (suc (suc (suc (suc (suc (suc (suc (suc (suc zero)))))))))))) p fit room = record { stands = refl; lying = tt }
  kind_kept (suc (suc (suc (suc (suc (suc (suc (suc (suc (suc (suc (suc (suc zero))))))))))))) p fit room = load_kept (d ++ r) _ _ _ fit room
  kind_kept (suc (suc (suc (suc (suc (suc (suc (suc (suc (suc (suc (suc (suc (suc zero)))))))))))))) p fit room = wrapped_kept p fit
  kind_kept (suc (suc (suc (suc (suc (suc (suc (suc (suc (suc (suc (suc (suc (suc (suc k))))))))))))))) p fit room = absurd (true≢false p.0)

  frame_kept : AllPass (read_frame d).checks → 5 + uid_most + key_size < length (placed (read_frame d).frame (d ++ r))
      → Kept (placed (read_frame d).frame (d ++ r)) (read_frame d).frame
  unfolding read_frame
  frame_kept p room = kind_kept (byte 0 d) p (fits d p) room

-- ------------------------------------------------------------------------
-- The line: only what passed every check matters

same_passed : (v : Verdict Refusal) (x y : Meant) → (v ≡ passed → x ≡ y) → settle v refusal x ≡ settle v refusal y
same_passed passed x y h = h refl
same_passed (refused q) x y h = refl

lies_passed : (f : List ℕ) (v : Verdict Refusal) (x : Result FrameRead Refusal) → (v ≡ passed → Lies f x) → Lies f (settle v Err x)
lies_passed f passed x h = h refl
lies_passed f (refused q) x h = tt

module _ (line bytes : List ℕ) (r : Result FrameRead Refusal) (f : List ℕ) (room : 5 + uid_most + key_size < length f)
    (e : ◌≡◌ {A = ReadFrom} (record { read = r; frame = f }) (read_from line bytes)) where
  abbrev came : List ℕ
  came = (read_into line bytes).frame

  numbers : r ≡ judged (reading_checks line) Err (numbers_of (frame_of line))
  unfolding read_from read_as numbered
  numbers = ap (λ (x : ReadFrom). x.read) e

  left : f ≡ judged (reading_checks line) (λ why. came) (placed (frame_of line) came)
  unfolding read_from read_as
  left = ap (λ (x : ReadFrom). x.frame) e

  kept : first_refusal (reading_checks line) ≡ passed → Kept f (frame_of line)
  kept v =
      let p : AllPass (reading_checks line) = then_pass (reading_checks line) v in
      let q = line_passes line p in
      let is = frame_of_lem line bytes q.0 in
      let same : f ≡ placed (frame_of line) (decoded line ++ drop (length line / 2) bytes) =
      left ∙ ap (λ (w : Verdict Refusal). settle w (λ why. came) (placed (frame_of line) came)) v ∙ ap (placed (frame_of line)) is in
      rw same (frame_kept (decoded line) _ q.1 (rw same at room))

  pub means : meant f r ≡ judged (reading_checks line) refusal (frame (frame_of line))
  means =
      ap (meant f) numbers
      ∙ judged_map (reading_checks line) (meant f) Err (numbers_of (frame_of line))
      ∙ same_passed (first_refusal (reading_checks line)) _ _ (λ v. (kept v).stands)

  pub lies : Lies f r
  lies = rw numbers (lies_passed f (first_refusal (reading_checks line)) (numbers_of (frame_of line)) (λ v. (kept v).lying))
