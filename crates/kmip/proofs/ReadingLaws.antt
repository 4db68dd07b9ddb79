-- What reading a message leaves, by what was found in it.
-- Assumes nothing.
use mathlib.Core.Path.{◌≡◌, refl, sym, ap, ◌∙◌}
use mathlib.Core.Bool.{Bool, true, false, cond}
use mathlib.Core.List.{List, ◌++◌}
use Prim.Native.Nat.{ℕ, ◌+◌, ◌<◌, ◌≤◌}
use native.Mathlib.Omega.{arith}
use lib.ListN.{length, drop}
use lib.Dec.{eqb, ltb}
use borrow.Author.Tests.{lt-ltb, le-ltb, ltb-false, eqb-false, ne_eqb}
use mathlib.Core.Logic.{◌⊎◌, inl, inr}
use Rattle.std.specs.Prelude.{Option, Some, None, Ok, Err, ok_or}
use Rattle.cells.proofs.PredicatesLaws.{or_right, or_left}
use Rattle.rules.specs.Numbers.{uid_most, key_size}
use Rattle.rules.specs.Frames.{bad_uid_length}
use Rattle.rules.specs.Kmip.{load_of}
use Rattle.kmip.specs.declared.message.Load.{Load}
use Rattle.kmip.specs.declared.ReadError.TheVariants.{NoRoom, NoLoad, BadKeyUid}
use Rattle.kmip.specs.Reading.{Told, told, read_message, loaded}

-- ------------------------------------------------------------------------
-- Lengths of a KeyUID

pub few_bytes : (n : ℕ) → bad_uid_length n ≡ false → n ≤ uid_most
few_bytes n good = ltb-false uid_most n (or_right (eqb n 0) (ltb uid_most n) good)

pub some_bytes : (n : ℕ) → bad_uid_length n ≡ false → 0 < n
some_bytes n good = let z : n ≡ 0 → ⊥ = eqb-false n 0 (or_left (eqb n 0) (ltb uid_most n) good) in omega arith

pub bad_length : (n : ℕ) → (n ≡ 0) ⊎ ((n ≡ 0 → ⊥) × (uid_most < n)) → bad_uid_length n ≡ true
bad_length n (inl e) = ap bad_uid_length e
bad_length n (inr h) = rw (ne_eqb n 0 h.0, lt-ltb uid_most n h.1)

pub good_length : (n : ℕ) → (n ≡ 0 → ⊥) → n ≤ uid_most → bad_uid_length n ≡ false
good_length n full few = rw (ne_eqb n 0 full, le-ltb uid_most n few)

-- ------------------------------------------------------------------------
-- What was found

pub nothing_found : {A E : Type 0} (o : Option A) (e f : E) → Err e ≡ ok_or o f → (o ≡ None) × (e ≡ f)
nothing_found None e f h = (refl, cc)
nothing_found (Some x) e f h = cc

module _ (ns tag : ℕ) (xs out : List ℕ) where
  pub no_room : length out < uid_most + key_size → record { result = Err NoRoom; out = out } ≡ read_message ns tag xs out
  unfolding read_message
  no_room short = rw (lt-ltb (length out) (uid_most + key_size) short)

  module _ (room : uid_most + key_size ≤ length out) (o : Option Load) (is : loaded o ≡ load_of ns tag xs) where
    with_room : told (loaded o) out ≡ read_message ns tag xs out
    unfolding read_message
    with_room = rw (le-ltb (length out) (uid_most + key_size) room, is)

    pub no_load : o ≡ None → record { result = Err NoLoad; out = out } ≡ read_message ns tag xs out
    no_load e = sym (ap (λ p. told (loaded p) out) e) ∙ with_room

    module _ (l : Load) (e : o ≡ Some l) where
      abbrev n : ℕ
      n = length l.uid.now

      abbrev refused : Told
      refused = record { result = Err BadKeyUid; out = out }

      abbrev brought : Told
      brought = record { result = Ok n; out = (l.uid.now ++ l.key.now) ++ drop (n + key_size) out }

      by_load : (b : Bool) → bad_uid_length (length l.uid.now) ≡ b → cond b refused brought ≡ read_message ns tag xs out
      by_load b h = sym (ap (λ p. told (loaded p) out) e ∙ ap (λ c. cond c refused brought) h) ∙ with_room

      pub bad_uid : bad_uid_length (length l.uid.now) ≡ true → refused ≡ read_message ns tag xs out
      bad_uid bad = by_load true bad

      pub brings : bad_uid_length (length l.uid.now) ≡ false → (copied : List ℕ) → copied ≡ (l.uid.now ++ l.key.now) ++ drop (n + key_size) out
          → record { result = Ok n; out = copied } ≡ read_message ns tag xs out
      brings good copied is_copied = ap (λ (c : List ℕ). (let t : Told = record { result = Ok n; out = c } in t)) is_copied ∙ by_load false good
