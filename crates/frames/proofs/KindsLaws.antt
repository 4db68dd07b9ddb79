-- A reading's numbers by its tests: frames of one length, KeyUID lengths, and
-- kinds past the table.
-- Assumes nothing.
use mathlib.Core.Path.{◌≡◌, refl, ap, ◌∙◌}
use mathlib.Core.Bool.{Bool, true, false}
use mathlib.Core.List.{List, [], ◌∷◌}
use Prim.Native.Nat.{ℕ, zero, suc, ◌+◌, ◌<◌, ◌≤◌}
use native.Mathlib.Omega.{arith}
use lib.ListN.{length, get_or, get_or-eq_default}
use lib.Dec.{eqb, ltb}
use borrow.Author.Tests.{eq-eqb, ne_eqb, lt-ltb, le-ltb, eqb-true, not-false}
use Rattle.cells.proofs.CellsLaws.{length_part}
use Rattle.cells.proofs.PredicatesLaws.{neither}
use Rattle.rules.specs.Numbers.{uid_most, key_size}
use Rattle.rules.specs.Answers.{07·03, 07·04}
use Rattle.rules.specs.Fields.{byte, bytes, little}
use Rattle.rules.specs.Checks.{◌when◌, Verdict, passed, refused, first_refusal, settle, judged, AllPass}
use Rattle.rules.specs.declared.Namespace.{Namespace}
use Rattle.rules.specs.declared.Tag.{Tag}
use Rattle.rules.proofs.ChecksLaws.{then_pass}
use Rattle.cells.specs.Cells.{part}
use Rattle.rules.specs.State.{namespace, key_tag}
use Rattle.rules.specs.Frames.{Frame, Reading, exactly, bad_uid_length, load_checks, read_replace, unknown_kind, kinds}
use Rattle.frames.specs.declared.FrameRead.TheVariants.{Replace}
use Rattle.frames.specs.declared.FrameRead.{FrameRead}
use Rattle.std.specs.Prelude.{Result, Ok, Err, ◌≢◌}
use Rattle.rules.specs.declared.Refusal.{Refusal}
use Rattle.frames.specs.declared.ToSlot.{ToSlot}
use Rattle.frames.specs.Reading.{numbers_of, numbered, uid_length}
use Rattle.frames.proofs.FieldsLaws.{pair_at}

-- a refusal, as `?` hands it on
pub passed_on : {A : Type 0} {e : Refusal} {r : Result A Refusal} → (y : Refusal) × (r ≡ Err y) × (y ≡ e) → r ≡ Err e
passed_on p = p.1 ∙ ap Err p.2

-- ------------------------------------------------------------------------
-- Frames of one length

module _ (n : ℕ) (f : List ℕ) (frame : Frame) where
  pub wrong_length_lem : (length f ≡ n → ⊥) → Err 07·03 ≡ numbered (exactly n f frame)
  unfolding numbered
  wrong_length_lem h = rw (ne_eqb (length f) n h)

  pub right_length : length f ≡ n → numbers_of frame ≡ numbered (exactly n f frame)
  unfolding numbered
  right_length h = rw (eq-eqb (length f) n h)

  -- another length, as `?` hands it on
  pub short_of : {e : Refusal} {r : Result FrameRead Refusal} → (y : Refusal) × (r ≡ Err y) × (y ≡ e) → (e ≡ 07·03) × (length f ≢ n)
      → r ≡ numbered (exactly n f frame)
  short_of p w = passed_on p ∙ ap Err w.0 ∙ wrong_length_lem w.1

-- ------------------------------------------------------------------------
-- KeyUID lengths

module _ (l : ℕ) where
  pub no_uid : l ≡ 0 → bad_uid_length l ≡ true
  no_uid e = rw (eq-eqb l 0 e)

  pub good_uid : (l ≡ 0 → ⊥) → ltb uid_most l ≡ false → bad_uid_length l ≡ false
  good_uid n e = neither (eqb l 0) (ltb uid_most l) (ne_eqb l 0 n) e

-- what reading a KeyUID's length came to
pub uid_good : (b : ℕ) {l : ℕ} → Ok l ≡ uid_length b → (bad_uid_length b ≡ false) × (l ≡ b)
uid_good b {l} e = by (bad_uid_length b) refl e
  where
    by : (bad : Bool) → bad_uid_length b ≡ bad → ◌≡◌ {A = Result ℕ Refusal} (Ok l) (judged (07·04 when bad ∷ []) Err (Ok b))
        → (bad_uid_length b ≡ false) × (l ≡ b)
    by true is e = absurd (let z : ◌≡◌ {A = ℕ} 0 1 = cc in omega arith)
    by false is e = (is, cc)

pub uid_bad : (b : ℕ) {r : Refusal} → Err r ≡ uid_length b → (bad_uid_length b ≡ true) × (r ≡ 07·04)
uid_bad b {r} e = by (bad_uid_length b) refl e
  where
    by : (bad : Bool) → bad_uid_length b ≡ bad → ◌≡◌ {A = Result ℕ Refusal} (Err r) (judged (07·04 when bad ∷ []) Err (Ok b))
        → (bad_uid_length b ≡ true) × (r ≡ 07·04)
    by true is e = (is, cc)
    by false is e = absurd (let z : ◌≡◌ {A = ℕ} 0 1 = cc in omega arith)

-- ------------------------------------------------------------------------
-- A load, clear or wrapped, by the bytes behind the KeyUID: the slot that it names

module _ (size : ℕ) (f : List ℕ) where
  abbrev named : ToSlot
  named = record { ns = namespace (byte 1 f); tag = key_tag (bytes 2 3 f); l = byte 4 f }

  abbrev named_by : Result ToSlot Refusal
  named_by = judged (load_checks size f) Err (Ok named)

  pub slot_named : {ns : Namespace} {tag : Tag} {l : ℕ} → ns ≡ namespace (byte 1 f) → tag ≡ key_tag (little (byte 2 f ∷ byte 3 f ∷ []))
      → 5 ≤ length f → Ok l ≡ uid_length (byte 4 f) → length f ≡ 5 + l + size → Ok (record { ns = ns; tag = tag; l = l }) ≡ named_by
  slot_named n t h u e =
      let g = uid_good (byte 4 f) u in
      rw (n, t, ← pair_at 2 3 f refl (omega arith), g.1, le-ltb (length f) 5 h, g.0, eq-eqb (length f) (5 + byte 4 f + size) (omega (arith, g.1)))

  -- and the frame that it is
  module _ (kind : Namespace → Tag → ℕ → FrameRead) where
    abbrev as_kind : Result ToSlot Refusal → Result FrameRead Refusal
    as_kind (Ok t) = Ok (kind t.ns t.tag t.l)
    as_kind (Err r) = Err r

    pub read_by : (frame : Frame) → (AllPass (load_checks size f) → Ok (kind (namespace (byte 1 f)) (key_tag (bytes 2 3 f)) (byte 4 f))
        ≡ numbers_of frame)
        → {s : Result ToSlot Refusal} → s ≡ named_by → as_kind s ≡ numbered (record { checks = load_checks size f; frame = frame })
    unfolding numbered
    read_by frame h e = ap as_kind e ∙ by (first_refusal (load_checks size f)) refl
      where
        by : (v : Verdict Refusal) → first_refusal (load_checks size f) ≡ v → as_kind (settle v Err (Ok named)) ≡ settle v Err (numbers_of frame)
        by passed e = h (then_pass (load_checks size f) e)
        by (refused r) e = refl

  -- its KeyUID's bytes are as many as its length says
  pub counted : AllPass (load_checks size f) → length (part 5 (byte 4 f) f) ≡ byte 4 f
  counted p = let all : length f ≡ 5 + byte 4 f + size = eqb-true _ _ (not-false _ p.1.1.0) in length_part 5 (byte 4 f) f (omega arith)

-- ------------------------------------------------------------------------
-- Load and replace: each test that fails, with those before it passed, and the numbers where all pass

module _ (f : List ℕ) where
  -- a load, clear or wrapped, by the bytes behind the KeyUID
  module _ (size : ℕ) (frame : Frame) where
    abbrev loading : Reading
    loading = record { checks = load_checks size f; frame = frame }

    module _ (head : 5 ≤ length f) where
      pub load_bad : bad_uid_length (byte 4 f) ≡ true → Err 07·04 ≡ numbered loading
      unfolding numbered
      load_bad bad = rw (le-ltb (length f) 5 head, bad)

      module _ (good : bad_uid_length (byte 4 f) ≡ false) where
        pub load_wrong : (length f ≡ 5 + byte 4 f + size → ⊥) → Err 07·03 ≡ numbered loading
        unfolding numbered
        load_wrong h = rw (le-ltb (length f) 5 head, good, ne_eqb (length f) (5 + byte 4 f + size) h)

        pub load_right : length f ≡ 5 + byte 4 f + size → numbers_of frame ≡ numbered loading
        unfolding numbered
        load_right h = rw (le-ltb (length f) 5 head, good, eq-eqb (length f) (5 + byte 4 f + size) h)

  pub replace_short : length f < 5 → Err 07·03 ≡ numbered (read_replace f)
  unfolding numbered read_replace
  replace_short h = rw (lt-ltb (length f) 5 h)

  module _ (head : 5 ≤ length f) where
    abbrev first : ℕ
    first = byte 4 f

    pub replace_bad_old : bad_uid_length first ≡ true → Err 07·04 ≡ numbered (read_replace f)
    unfolding numbered read_replace
    replace_bad_old bad = rw (le-ltb (length f) 5 head, bad)

    module _ (good : bad_uid_length first ≡ false) where
      pub replace_no_new : length f < 6 + first → Err 07·03 ≡ numbered (read_replace f)
      unfolding numbered read_replace
      replace_no_new h = rw (le-ltb (length f) 5 head, good, lt-ltb (length f) (6 + first) h)

      module _ (new : 6 + first ≤ length f) where
        abbrev second : ℕ
        second = byte (5 + first) f

        pub replace_bad_new : bad_uid_length second ≡ true → Err 07·04 ≡ numbered (read_replace f)
        unfolding numbered read_replace
        replace_bad_new bad = rw (le-ltb (length f) 5 head, good, le-ltb (length f) (6 + first) new, bad)

        module _ (fine : bad_uid_length second ≡ false) where
          pub replace_wrong : (length f ≡ 6 + first + second + key_size → ⊥) → Err 07·03 ≡ numbered (read_replace f)
          unfolding numbered read_replace
          replace_wrong h =
              rw (le-ltb (length f) 5 head, good, le-ltb (length f) (6 + first) new, fine, ne_eqb (length f) (6 + first + second + key_size) h)

          pub replace_right : length f ≡ 6 + first + second + key_size
              → Ok (Replace (namespace (byte 1 f)) (key_tag (bytes 2 3 f)) first second) ≡ numbered (read_replace f)
          unfolding numbered read_replace
          replace_right h =
              rw (le-ltb (length f) 5 head, good, le-ltb (length f) (6 + first) new, fine, eq-eqb (length f) (6 + first + second + key_size) h)
              (rw (length_part 5 first f (omega arith), length_part (6 + first) second f (omega arith)))

-- ------------------------------------------------------------------------
-- Kinds past the table

-- k is none of 1 to n
abbrev pub NoneTo : ℕ → ℕ → Type 0
NoneTo k zero = Unit {0}
NoneTo k (suc n) = NoneTo k n × (k ≡ suc n → ⊥)

past : (k n : ℕ) → NoneTo k n → (k ≡ 0 → ⊥) → n < k
past k zero r z = omega arith
past k (suc n) r z = omega (arith, past k n r.0 z, r.1)

pub no_kind : (f : List ℕ) (k : ℕ) → NoneTo k 14 → (k ≡ 0 → ⊥) → get_or (kinds f) k unknown_kind ≡ unknown_kind
unfolding kinds
no_kind f k r z = get_or-eq_default (kinds f) unknown_kind (past k 14 r z)
