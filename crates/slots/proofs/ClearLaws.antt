-- Clearing up to the tag counts. In a sound state the slots behind a namespace's
-- count are emptied already: clearing up to it empties the namespace, and
-- clearing every namespace so empties the cache.
-- Assumes nothing.
use mathlib.Core.Path.{◌≡◌, refl, sym, ap, ◌∙◌}
use mathlib.Core.Bool.{Bool, true, false, not, ◌&&◌, cond}
use mathlib.Core.Logic.{inr}
use mathlib.Core.List.{List}
use Prim.Native.Nat.{ℕ, zero, suc, ◌+◌, ◌-◌, ◌*◌, ◌%◌, ◌≤◌, ◌<◌}
use native.Mathlib.Omega.{arith}
use native.Mathlib.Numerals.{add-one}
use lib.ListN.{length, get_or}
use borrow.Author.Tests.{le-leb, le-ltb, not-false}
use Rattle.cells.specs.Cells.{cell, fill}
use Rattle.cells.specs.Predicates.{all_zero}
use Rattle.cells.proofs.CellsLaws.{length_zeros, length_cell, length_fill, cell_fill_out, fill_none, fill_join, fill_enough}
use Rattle.cells.proofs.PredicatesLaws.{neither, all_zero_eq}
use Rattle.rules.specs.declared.Namespace.{Namespace}
use Rattle.rules.specs.Numbers.{namespaces, tags_most, slot_width, slot_places, cache_size}
use Rattle.rules.specs.State.{State, namespace, key_tag, no_namespace, wrong_cache, count}
use Rattle.rules.specs.Slots.{place_of, emptied}
use Rattle.rules.specs.Sound.{unsound}
use Rattle.rules.proofs.StateLaws.{is_namespace_lem}
use Rattle.rules.proofs.SoundLaws.{sound_cache, sound_counts, above_none, counted, sound_at}
use Rattle.slots.specs.Cache.{tags_up_to, cleared_up_to, cleared_first, cleared_allocated}
use Rattle.slots.proofs.CacheLaws.{cleared_up_to_is}
use Rattle.sound.proofs.ScanLaws.{unallocated_marked}

-- ------------------------------------------------------------------------
-- Namespace by namespace, in a cache of its length

-- the first n namespaces, and the next
first_next : (counts keys : List ℕ) (n : ℕ) → n < namespaces → length (cleared_first n counts keys) ≡ cache_size
    → fill slot_width (n * tags_most) (tags_up_to (get_or counts n 0)) emptied (cleared_first n counts keys) ≡ cleared_first (n + 1) counts keys
unfolding cleared_first
first_next counts keys n h size =
    let is : no_namespace (namespace (suc n)) ≡ false = neither _ _ (le-ltb (suc n) 1 (omega arith)) (le-ltb namespaces (suc n) (omega arith)) in
    let first : n * tags_most ≡ place_of (namespace (suc n)) (key_tag 0) = omega arith in
    ap (λ i. fill slot_width i (tags_up_to (get_or counts n 0)) emptied (cleared_first n counts keys)) first
    ∙ sym (cleared_up_to_is (cleared_first n counts keys) size (namespace (suc n)) (get_or counts n 0) is)
    ∙ ap (λ k. cleared_first k counts keys) (sym (add-one n))

pub cleared_next : (counts keys : List ℕ) (n : ℕ) {before after : List ℕ} → before ≡ cleared_first n counts keys
    → after ≡ cleared_up_to (namespace (n + 1)) (get_or counts n 0) before → after ≡ cleared_first (n + 1) counts keys
unfolding cleared_first
cleared_next counts keys n so is =
    is
    ∙ ap (cleared_up_to (namespace (n + 1)) (get_or counts n 0)) so
    ∙ ap (λ k. cleared_up_to (namespace k) (get_or counts n 0) (cleared_first n counts keys)) (add-one n)
    ∙ ap (λ k. cleared_first k counts keys) (sym (add-one n))

-- a namespace with no tags is left as it is, so that the code need not go there
up_to_none : (b : Bool) (i : ℕ) (keys : List ℕ) → cond b (fill slot_width i 0 emptied keys) keys ≡ keys
up_to_none false i keys = refl
up_to_none true i keys = fill_none slot_width i emptied keys

pub nothing_next : (counts keys : List ℕ) (n : ℕ) {before : List ℕ} → before ≡ cleared_first n counts keys → get_or counts n 0 ≡ 0
    → before ≡ cleared_first (n + 1) counts keys
unfolding cleared_up_to
nothing_next counts keys n {before} so none =
    cleared_next counts keys n so
    (sym (ap (λ k. cleared_up_to (namespace (n + 1)) k before) none
    ∙ up_to_none (not (wrong_cache before) && not (no_namespace (namespace (n + 1)))) (place_of (namespace (n + 1)) (key_tag 0)) before))

-- ------------------------------------------------------------------------
-- In a sound state

module _ (s : State) (sound : unsound s ≡ false) where
  -- a slot behind its namespace's count is emptied
  behind : (i : ℕ) → i < slot_places → counted s sound i ≤ i % tags_most → cell slot_width i s.keys ≡ emptied
  behind i l h =
      let size = sound_cache s sound in
      let c : List ℕ = cell slot_width i s.keys in
      all_zero_eq c slot_width (length_cell slot_width i s.keys (omega arith))
      (not-false (all_zero c) (sym (unallocated_marked c) ∙ sound_at s sound i true l (le-leb _ _ h)))

  -- a namespace, counted from 0, in a cache where its slots are still the state's
  up_to_all : (keys : List ℕ) → length keys ≡ cache_size → (ns : ℕ) → ns < namespaces
      → ((i : ℕ) → ns * tags_most ≤ i → cell slot_width i keys ≡ cell slot_width i s.keys)
      → fill slot_width (ns * tags_most) (tags_up_to (get_or s.registers.counts ns 0)) emptied keys
      ≡ fill slot_width (ns * tags_most) tags_most emptied keys
  up_to_all keys size ns h stays =
      let n : ℕ = get_or s.registers.counts ns 0 in
      let most : get_or s.registers.counts ns 0 ≤ tags_most = above_none tags_most s.registers.counts (sound_counts s sound) ns in
      let rest : n + (tags_most - n) ≡ tags_most = omega arith in
      let tag : (k : ℕ) → k < tags_most - n → counted s sound (ns * tags_most + (n + k)) ≡ n =
      (λ k l. ap (λ j. get_or s.registers.counts j 0) (omega arith)) in
      rw (le-ltb tags_most n most)
      (fill_enough slot_width (ns * tags_most) n (tags_most - n) emptied keys (omega arith) (length_zeros slot_width)
      (λ k l. stays (ns * tags_most + (n + k)) (omega arith) ∙ behind (ns * tags_most + (n + k)) (omega arith) (omega (arith, tag k l)))
      ∙ ap (λ k. fill slot_width (ns * tags_most) k emptied keys) rest)

  -- release and clear all
  pub sound_clear : (ns : Namespace) → no_namespace ns ≡ false
      → cleared_up_to ns (count s ns) s.keys ≡ fill slot_width (place_of ns (key_tag 0)) tags_most emptied s.keys
  sound_clear ns is =
      let size = sound_cache s sound in
      let in_range = is_namespace_lem ns is in
      let first : place_of ns (key_tag 0) ≡ (ns.0 - 1) * tags_most = omega arith in
      cleared_up_to_is s.keys size ns (count s ns) is
      ∙ (rw first (up_to_all s.keys size (ns.0 - 1) (omega (arith, in_range.0, in_range.1)) (λ i l. refl)))

  -- power cycle
  so_far : (n : ℕ) → n ≤ namespaces → cleared_first n s.registers.counts s.keys ≡ fill slot_width 0 (n * tags_most) emptied s.keys
  unfolding cleared_first
  so_far zero h = sym (fill_none slot_width 0 emptied s.keys)
  so_far (suc n) h =
      let size = sound_cache s sound in
      let before : List ℕ = fill slot_width 0 (n * tags_most) emptied s.keys in
      let whole : length (fill slot_width 0 (n * tags_most) emptied s.keys) ≡ cache_size =
      length_fill slot_width 0 (n * tags_most) emptied s.keys (omega arith) (length_zeros slot_width) ∙ size in
      let z : n * tags_most ≡ 0 + n * tags_most = omega arith in
      let e : n * tags_most + tags_most ≡ suc n * tags_most = omega arith in
      ap (λ k. cleared_first k s.registers.counts s.keys) (sym (add-one n))
      ∙ sym (first_next s.registers.counts s.keys n (omega arith) (ap length (so_far n (omega arith)) ∙ whole))
      ∙ ap (fill slot_width (n * tags_most) (tags_up_to (get_or s.registers.counts n 0)) emptied) (so_far n (omega arith))
      ∙ up_to_all before whole n (omega arith)
      (λ i l. cell_fill_out slot_width 0 (n * tags_most) emptied s.keys (omega arith) (length_zeros slot_width) i (inr (omega arith)))
      ∙ ap (λ k. fill slot_width k tags_most emptied before) z
      ∙ fill_join slot_width 0 (n * tags_most) tags_most emptied s.keys (omega arith) (length_zeros slot_width)
      ∙ ap (λ k. fill slot_width 0 k emptied s.keys) e

  pub sound_clear_allocated : cleared_allocated s.registers.counts s.keys ≡ fill slot_width 0 slot_places emptied s.keys
  sound_clear_allocated = so_far namespaces (omega arith)
