-- A message that was read stands for the rules' reading of its frame; and the
-- frames of the other kinds leave the bytes as they are.
-- Assumes nothing.
use mathlib.Core.Path.{◌≡◌, refl, sym, ap, ◌∙◌}
use mathlib.Core.Bool.{Bool, true, false, cond}
use mathlib.Core.List.{List, [], ◌∷◌, ◌++◌}
use mathlib.Core.Option.{Option, none, some}
use Prim.Native.Nat.{ℕ, zero, suc, ◌+◌, ◌≤◌, ◌<◌}
use native.Mathlib.Omega.{arith}
use lib.ListN.{length, take, drop, get_or, length-append, take-append-drop}
use lib.Seq.{take_at, length-take-le}
use borrow.Author.Tests.{lt-ltb, le-ltb, eqb-true, not-false}
use Rattle.cells.specs.Cells.{part, write}
use Rattle.cells.proofs.CellsLaws.{length_part, part_join, part_part}
use Rattle.rules.specs.declared.Namespace.{Namespace}
use Rattle.rules.specs.declared.Tag.{Tag}
use Rattle.rules.specs.declared.Refusal.{Refusal}
use Rattle.rules.specs.Numbers.{uid_most, key_size}
use Rattle.rules.specs.Answers.{07·03, 07·17, 07·18}
use Rattle.rules.specs.Checks.{Verdict, passed, refused, ◌when◌, first_refusal, settle, AllPass}
use Rattle.rules.specs.Fields.{byte, bytes}
use Rattle.rules.specs.State.{namespace, key_tag}
use Rattle.rules.specs.Slots.{Contents}
use Rattle.rules.specs.Kmip.{load_of}
use Rattle.rules.specs.Frames.{Reading, load, bad_uid_length, brings_nothing, brought, read_load, read_wrapped, read_replace, read_message}
use Rattle.rules.specs.Frames.{unknown_kind, kinds, read_frame}
use Rattle.rules.proofs.ChecksLaws.{then_pass}
use Rattle.rules.proofs.KmipLaws.{load_key}
use Rattle.std.specs.Prelude.{Result, Ok, Err}
use Rattle.kmip.specs.declared.ReadError.{ReadError}
use Rattle.kmip.specs.declared.ReadError.TheVariants.{BadKeyUid}
use Rattle.kmip.specs.Refusals.{read_refusal}
use Rattle.kmip.specs.Reading.{Told, told, read_message as read_by}
use Rattle.kmip.proofs.ReadingLaws.{few_bytes}
use Rattle.frames.specs.declared.FrameRead.{FrameRead}
use Rattle.frames.specs.declared.FrameRead.TheVariants.{Load}
use Rattle.frames.specs.Reading.{numbered, placed, ReadFrom, read_as}

-- ------------------------------------------------------------------------
-- A message, by what it brings

-- what reading it comes to, with the bytes that it left, as a load
abbrev pub as_load : Namespace → Tag → List ℕ → List ℕ → Result ℕ ReadError → ReadFrom
as_load ns tag bytes f (Err e) = record { read = Err (read_refusal e); frame = f }
as_load ns tag bytes f (Ok l) = record { read = Ok (Load ns tag l); frame = write 5 (l + key_size) (take (l + key_size) bytes) f }

-- a KeyUID that was brought fits a slot
abbrev pub Short : Result ℕ ReadError → Type 0
Short (Err e) = Unit {0}
Short (Ok l) = l ≤ uid_most

abbrev reading : Namespace → Tag → Option Contents → Reading
reading ns tag o = record {
  checks =
      07·03 when false
      ∷ 07·17 when brings_nothing o
      ∷ 07·18 when bad_uid_length (length (brought o).uid)
      ∷ [];
  frame = load ns tag (brought o);
}

abbrev loaded : Namespace → Tag → List ℕ → Told → ReadFrom
loaded ns tag f t = as_load ns tag t.out f t.result

module _ (ns : Namespace) (tag : Tag) (f out : List ℕ) (x : Contents) (whole : length x.key ≡ key_size) where
  abbrev l : ℕ
  l = length x.uid

  abbrev both : List ℕ
  both = (x.uid ++ x.key) ++ drop (l + key_size) out

  front : take (l + key_size) both ≡ x.uid ++ x.key
  front = take_at (x.uid ++ x.key) (drop (length x.uid + key_size) out) (length x.uid + key_size) (simp length-append (omega arith))

  by_length : (bad : Bool) → loaded ns tag f (cond bad (record { result = Err BadKeyUid; out = out }) (record { result = Ok l; out = both }))
      ≡ read_as (record { checks = 07·03 when false ∷ 07·17 when false ∷ 07·18 when bad ∷ []; frame = load ns tag x }) f
  unfolding read_as numbered
  by_length true = refl
  by_length false = rw front

as_told : (ns : Namespace) (tag : Tag) (f out : List ℕ) (o : Option Contents) → (brings_nothing o ≡ false → length (brought o).key ≡ key_size)
    → loaded ns tag f (told o out) ≡ read_as (reading ns tag o) f
unfolding read_as numbered
as_told ns tag f out none k = refl
as_told ns tag f out (some x) k = by_length ns tag f out x (k refl) (bad_uid_length (length x.uid))

module _ (x : Contents) (out : List ℕ) where
  short_by : (bad : Bool) → bad_uid_length (length x.uid) ≡ bad
      → Short (cond {A = Told} bad (record { result = Err BadKeyUid; out = out })
      (record { result = Ok (length x.uid); out = (x.uid ++ x.key) ++ drop (length x.uid + key_size) out })).result
  short_by true e = tt
  short_by false e = few_bytes (length x.uid) e

told_short : (o : Option Contents) (out : List ℕ) → Short (told o out).result
told_short none out = tt
told_short (some x) out = short_by x out (bad_uid_length (length x.uid)) refl

module _ (d f out : List ℕ) (head : 4 ≤ length d) (size : length out ≡ uid_most + key_size) where
  abbrev came : Told
  came = read_by (byte 1 d) (bytes 2 3 d) (drop 4 d) out

  came_is : came ≡ told (load_of (byte 1 d) (bytes 2 3 d) (drop 4 d)) out
  unfolding read_by
  came_is = rw (le-ltb (length out) (uid_most + key_size) (omega arith))

  pub came_short : Short came.result
  came_short = rw came_is (told_short (load_of (byte 1 d) (bytes 2 3 d) (drop 4 d)) out)

  pub message_read : loaded (namespace (byte 1 d)) (key_tag (bytes 2 3 d)) f came ≡ read_as (read_message d) f
  unfolding read_message
  message_read =
      let ns = byte 1 d in
      let tag = bytes 2 3 d in
      rw (came_is, le-ltb (length d) 4 head)
      (as_told (namespace ns) (key_tag tag) f out (load_of ns tag (drop 4 d)) (load_key ns tag (drop 4 d)))

  -- read by its fields as the code has them
  module _ {ns tag : ℕ} {m : List ℕ} (first : ns ≡ byte 1 d) (second : tag ≡ bytes 2 3 d) (third : m ≡ drop 4 d)
      {t : Result ℕ ReadError} {o : List ℕ} (e : ◌≡◌ {A = Told} (record { result = t; out = o }) (read_by ns tag m out)) where
    as_came : ◌≡◌ {A = Told} (record { result = t; out = o }) came
    as_came = rw (← first, ← second, ← third) e

    pub through_short : Short t
    through_short = rw (ap (λ (w : Told). w.result) as_came) came_short

    pub through_read : as_load (namespace ns) (key_tag tag) o f t ≡ read_as (read_message d) f
    through_read = rw (first, second) (ap (λ (w : Told). as_load (namespace (byte 1 d)) (key_tag (bytes 2 3 d)) w.out f w.result) as_came ∙ message_read)

pub message_short : (d f : List ℕ) → length d < 4 → record { read = Err 07·03; frame = f } ≡ read_as (read_message d) f
unfolding read_message read_as numbered
message_short d f h = rw (lt-ltb (length d) 4 h)

-- ------------------------------------------------------------------------
-- What lies there already

same_settled : (v : Verdict Refusal) (x y : List ℕ) → (v ≡ passed → y ≡ x) → settle v (λ why. x) y ≡ x
same_settled passed x y h = h refl
same_settled (refused q) x y h = refl

write_same : (a n : ℕ) (xs : List ℕ) → write a n (part a n xs) xs ≡ xs
unfolding write part
write_same a n xs =
    ap (λ z. take a xs ++ z) (take-append-drop n (drop a xs))
    ∙ take-append-drop a xs

pub message_kind : (d : List ℕ) → byte 0 d ≡ 13 → read_frame d ≡ read_message d
unfolding read_frame kinds
message_kind d e = rw e

-- a load's KeyUID and key, read from the front of the bytes
load_stays : (n : ℕ) (xs : List ℕ) → n ≤ length xs → AllPass (read_load (take n xs)).checks → placed (read_load (take n xs)).frame xs ≡ xs
unfolding read_load part
load_stays n xs h p =
    let d = take n xs in
    let l : ℕ = byte 4 d in
    let size : length d ≡ 5 + l + key_size = eqb-true _ _ (not-false _ p.1.1.0) in
    let whole : length d ≡ n = length-take-le n xs h in
    let counted : length (part 5 l d) ≡ l = length_part 5 l d (omega arith) in
    let joined : part 5 l d ++ part (5 + l) key_size d ≡ part 5 (l + key_size) xs =
    sym (part_join 5 l key_size d) ∙ part_part 0 n 5 (l + key_size) xs (omega arith) (omega arith) in
    rw (counted, joined) (write_same 5 (l + key_size) xs)

module _ (n : ℕ) (xs : List ℕ) (h : n ≤ length xs) where
  abbrev d : List ℕ
  d = take n xs

  -- by the kind
  kind_stays : (k : ℕ) → (k ≡ 13 → ⊥) → AllPass (get_or (kinds d) k unknown_kind).checks
      → placed (get_or (kinds d) k unknown_kind).frame xs ≡ xs
  unfolding kinds read_replace read_wrapped
  kind_stays zero m p = refl
  kind_stays (suc zero) m p = refl
  kind_stays (suc (suc zero)) m p = refl
  kind_stays (suc (suc (suc zero))) m p = load_stays n xs h p
  kind_stays (suc (suc (suc (suc zero)))) m p = refl
  kind_stays (suc (suc (suc (suc (suc zero))))) m p = refl
  kind_stays (suc (suc (suc (suc (suc (suc zero)))))) m p = refl
  kind_stays (suc (suc (suc (suc (suc (suc (suc zero))))))) m p = refl
  kind_stays (suc (suc (suc (suc (suc (suc (suc (suc zero)))))))) m p = refl
  kind_stays (suc (suc (suc (suc (suc (suc (suc (suc (suc zero))))))))) m p = refl
  kind_stays (suc (suc (suc (suc (suc (suc (suc (suc (suc (suc zero)))))))))) m p = refl
  kind_stays (suc (suc (suc (suc (suc (suc (suc (suc (suc (suc (suc zero))))))))))) m p = refl
  kind_stays (suc (suc (suc (suc (suc (suc (suc (suc (suc (suc (suc (suc zero)))))))))))) m p = refl
  kind_stays (suc (suc (suc (suc (suc (suc (suc (suc (suc (suc (suc (suc (suc zero))))))))))))) m p = absurd (m refl)
  kind_stays (suc (suc (suc (suc (suc (suc (suc (suc (suc (suc (suc (suc (suc (suc zero)))))))))))))) m p = refl
  kind_stays (suc (suc (suc (suc (suc (suc (suc (suc (suc (suc (suc (suc (suc (suc (suc k))))))))))))))) m p = refl

  -- the bytes of a frame of another kind than 0D stay
  pub others_stay : (r : Result FrameRead Refusal) → (byte 0 d ≡ 13 → ⊥) → r ≡ numbered (read_frame d)
      → record { read = r; frame = xs } ≡ read_as (read_frame d) xs
  unfolding read_as read_frame
  others_stay r m e =
      let reading = get_or (kinds d) (byte 0 d) unknown_kind in
      let same = same_settled (first_refusal reading.checks) xs _ (λ v. kind_stays (byte 0 d) m (then_pass reading.checks v)) in
      rw (e, same)
