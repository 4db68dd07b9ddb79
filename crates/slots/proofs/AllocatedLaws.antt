-- In a sound state a slot at an unallocated tag is empty, and the head of a
-- loaded slot is that of its KeyUID: the search for a head among allocated
-- tags finds what the search for a KeyUID in the whole cache does.
-- Assumes nothing.
use mathlib.Core.Path.{◌≡◌, refl, sym, ap, ◌∙◌}
use mathlib.Core.Bool.{Bool, true, false, not, ◌&&◌, and-false}
use mathlib.Core.List.{List}
use Prim.Native.Nat.{ℕ, ◌+◌, ◌%◌, ◌≤◌, ◌<◌}
use native.Mathlib.Omega.{arith}
use native.Mathlib.Decide.{dec_lt}
use mathlib.Core.Logic.{by_cases}
use lib.ListN.{length}
use borrow.Author.Tests.{lt-leb, lt-ltb}
use Rattle.cells.specs.Cells.{cell}
use Rattle.cells.specs.Predicates.{same, some_cell}
use Rattle.cells.proofs.CellsLaws.{length_cell}
use Rattle.cells.proofs.PredicatesLaws.{some_same, then_none}
use Rattle.rules.specs.Numbers.{uid_most, tags_most, slot_width, slot_places, cache_size}
use Rattle.rules.specs.State.{State}
use Rattle.rules.specs.Slots.{Contents, empty, key_of}
use Rattle.rules.specs.Sound.{unsound}
use Rattle.rules.specs.View.{view_of, other_key}
use Rattle.rules.proofs.OtherKeyLaws.{other_key_in, other_key_lem, other_key_among, empty_other}
use Rattle.rules.proofs.SoundLaws.{sound_cache, counted, sound_at, unallocated_at}
use Rattle.slots.specs.Cache.{allocated, head_bytes, other_key_behind, other_key_allocated}
use Rattle.rules.proofs.StateLaws.{right_cache}
use Rattle.slots.proofs.SearchLaws.{other_at}
use Rattle.slots.proofs.HeadLaws.{long_head, empty_head, sound_behind}

long_behind : (x : Contents) (c : List ℕ) → uid_most < length x.uid → other_key_behind (head_bytes x.uid) x.key c ≡ false
unfolding other_key_behind
long_behind x c long = ap (λ b. b && not (same (key_of c) x.key)) (long_head x.uid c long)

-- the search in a cache of its length
module _ (counts keys : List ℕ) (size : length keys ≡ cache_size) (x : Contents) where
  pub other_key_is : other_key_allocated counts keys x ≡ some_cell slot_width 0 slot_places (other_at counts (head_bytes x.uid) x.key) keys
  unfolding other_key_allocated
  other_key_is = rw (right_cache keys size)

  -- a long KeyUID is at no tag
  pub long_none : uid_most < length x.uid → other_key_allocated counts keys x ≡ false
  long_none long =
      other_key_is
      ∙ then_none slot_width (other_at counts (head_bytes x.uid) x.key) slot_places 0 keys
      (λ k l. ap (λ b. allocated counts (0 + k) && b) (long_behind x (cell slot_width (0 + k) keys) long) ∙ and-false (allocated counts (0 + k)))

-- an empty slot has no head of a KeyUID
empty_behind : (x : Contents) (c : List ℕ) → empty c ≡ true → 1 ≤ length x.uid → other_key_behind (head_bytes x.uid) x.key c ≡ false
unfolding other_key_behind
empty_behind x c e some = ap (λ b. b && not (same (key_of c) x.key)) (empty_head x.uid c some e)

by_bool : (b : Bool) {T : Type 0} → (b ≡ true → T) → (b ≡ false → T) → T
by_bool true t f = t refl
by_bool false t f = f refl

module _ (s : State) (sound : unsound s ≡ false) where
  abbrev at : ℕ → List ℕ
  at i = cell slot_width i s.keys

  module _ (x : Contents) (some : 1 ≤ length x.uid) where
    abbrev other : ℕ → List ℕ → Bool
    other i c = other_at s.registers.counts (head_bytes x.uid) x.key i c

    empty_same : (i : ℕ) → empty (at i) ≡ true → other i (at i) ≡ other_key_in x (at i)
    empty_same i e =
        ap (λ b. allocated s.registers.counts i && b) (empty_behind x (at i) e some)
        ∙ and-false (allocated s.registers.counts i)
        ∙ sym (empty_other x (at i) e)

    allocated_same : (i : ℕ) → i < slot_places → i % tags_most < counted s sound i → empty (at i) ≡ false → other i (at i) ≡ other_key_in x (at i)
    allocated_same i l lt full =
        let size = sound_cache s sound in
        ap (λ b. b && other_key_behind (head_bytes x.uid) x.key (at i)) (lt-ltb _ _ lt)
        ∙ sound_behind (at i) (length_cell slot_width i s.keys (omega arith)) (sound_at s sound i false l (lt-leb _ _ lt)) full x

    same_at : (i : ℕ) → i < slot_places → other i (at i) ≡ other_key_in x (at i)
    same_at i l =
        by_cases (dec_lt (i % tags_most) (counted s sound i))
        (λ lt. by_bool (empty (at i)) (empty_same i) (allocated_same i l lt))
        (λ ge. empty_same i (unallocated_at s sound i l (omega arith)))

    pub sound_other_key : other_key_allocated s.registers.counts s.keys x ≡ other_key (view_of s).slots x
    unfolding other_key_among
    sound_other_key =
        other_key_is s.registers.counts s.keys (sound_cache s sound) x
        ∙ some_same slot_width other (λ i c. other_key_in x c) 0 slot_places s.keys (λ k l. same_at (0 + k) (omega arith))
        ∙ sym (other_key_lem s x)
