-- The key cache at its own length and at another, its slots, and a slot's parts.
-- Assumes nothing.
use mathlib.Core.Path.{◌≡◌, refl, sym, ap, ◌∙◌}
use mathlib.Core.Bool.{Bool, true, false, not, ◌&&◌, cond, and-false, and_comm}
use mathlib.Core.List.{List, [], ◌∷◌, ◌++◌, append-nil}
use mathlib.Core.Logic.{by_cases}
use Prim.Native.Nat.{ℕ, min, ◌+◌, ◌-◌, ◌*◌, ◌≤◌, ◌<◌}
use native.Mathlib.Decide.{ℕ_discrete, dec_lt}
use native.Mathlib.Omega.{arith}
use lib.ListN.{length, get_or, take, drop, length-append, length-drop, drop_of_length-le}
use lib.Dec.{eqb}
use lib.Seq.{take_at, drop_at, take_all}
use denote.Bor.{Bor}
use borrow.Author.Tests.{eq-eqb, lt-ltb, le-ltb, le-leb}
use Rattle.std.specs.Prelude.{Option, Some, None}
use Rattle.std.specs.Option.{MatchOption, IfSome}
use Rattle.std.specs.List.{HoldsAt}
use Rattle.std.specs.Simd.{first_chunks}
use Rattle.std.proofs.lemmas.List.{drop-replicate}
use Rattle.cells.specs.Cells.{part, cell, zeros, put, fill}
use Rattle.cells.specs.Predicates.{same}
use Rattle.cells.proofs.CellsLaws.{length_cell, part_cell, part_whole, fill_front, fill_one}
use Rattle.cells.proofs.ChunksLaws.{length_chunks, chunk_at}
use Rattle.cells.proofs.PredicatesLaws.{same_split, same_byte}
use Rattle.rules.specs.declared.Namespace.{Namespace}
use Rattle.rules.specs.Numbers.{namespaces, tags_most, uid_most, key_size, slot_width, slot_places, slots_size, cache_size}
use Rattle.rules.specs.State.{wrong_cache, key_tag, no_namespace}
use Rattle.rules.specs.Slots.{Contents, FitKey, place_of, padded, slot_bytes, emptied, uid_length, uid_of}
use Rattle.rules.proofs.StateLaws.{wrong_cache_lem, right_cache}
use Rattle.rules.proofs.SlotsLaws.{length_padded, length_at}
use Rattle.slots.specs.Cache.{slot_at, stored, cleared, cleared_all, tags_up_to, cleared_up_to, head_size, head_of, head_bytes}

-- ------------------------------------------------------------------------
-- The cache at its own length: what each definition is there

module _ (keys : List ℕ) (size : length keys ≡ cache_size) where
  pub slot_is : (place : ℕ) → place < slot_places → slot_at place keys ≡ cell slot_width place keys
  unfolding slot_at
  slot_is place h = rw (right_cache keys size, lt-ltb place slot_places h)

  -- `store` itself takes an empty KeyUID
  pub stored_short : (place : ℕ) (x : Contents) → place < slot_places → length x.uid ≤ uid_most → length x.key ≡ key_size
      → stored place x keys ≡ put slot_width place (slot_bytes x) keys
  unfolding stored
  stored_short place x inside short whole =
      rw (right_cache keys size, lt-ltb place slot_places inside, le-leb (length x.uid) uid_most short, eq-eqb (length x.key) key_size whole)

  pub stored_is : (place : ℕ) (x : Contents) → place < slot_places → FitKey x → stored place x keys ≡ put slot_width place (slot_bytes x) keys
  stored_is place x inside fit = stored_short place x inside fit.short fit.whole

  pub cleared_is : (place : ℕ) → place < slot_places → cleared place keys ≡ put slot_width place emptied keys
  unfolding cleared
  cleared_is place inside = rw (right_cache keys size, lt-ltb place slot_places inside)

  pub cleared_up_to_is : (ns : Namespace) (count : ℕ) → no_namespace ns ≡ false
      → cleared_up_to ns count keys ≡ fill slot_width (place_of ns (key_tag 0)) (tags_up_to count) emptied keys
  unfolding cleared_up_to
  cleared_up_to_is ns count is = rw (right_cache keys size, is)

pub cleared_all_zeros : (keys : List ℕ) → cleared_all keys ≡ cond (wrong_cache keys) keys (zeros slots_size ++ drop slots_size keys)
unfolding cleared_all
cleared_all_zeros keys =
    by_cases (ℕ_discrete (length keys) cache_size)
    (λ size. rw (right_cache keys size) (fill_front slot_width slot_places keys))
    (λ wrong. rw (wrong_cache_lem keys wrong))

-- ------------------------------------------------------------------------
-- What is cleared by one fill, in a cache of any length

by_length : (wrong : Bool) (keys new : List ℕ) → cond wrong keys new ≡ cond (not wrong && true) new keys
by_length true keys new = refl
by_length false keys new = refl

pub clear_one : (keys : List ℕ) (place : ℕ) → place < slot_places
    → cond (wrong_cache keys) keys (fill slot_width place 1 emptied keys) ≡ cleared place keys
unfolding cleared
clear_one keys place inside =
    rw (lt-ltb place slot_places inside, fill_one slot_width place emptied keys) (by_length (wrong_cache keys) keys (put slot_width place emptied keys))

pub clear_none : (keys : List ℕ) (place : ℕ) → slot_places ≤ place → keys ≡ cleared place keys
unfolding cleared
clear_none keys place past = rw (le-ltb place slot_places past, and-false (not (wrong_cache keys)))

module _ (ns : Namespace) (count : ℕ) (keys : List ℕ) where
  pub clear_namespace : {tags : ℕ} → 1 ≤ ns.0 → ns.0 ≤ namespaces → tags ≡ min count tags_most
      → cond (wrong_cache keys) keys (fill slot_width ((ns.0 - 1) * tags_most) tags emptied keys) ≡ cleared_up_to ns count keys
  unfolding cleared_up_to
  clear_namespace lo hi is =
      let first : place_of ns (key_tag 0) ≡ (ns.0 - 1) * tags_most = omega arith in
      let most : tags_up_to count ≡ min count tags_most =
      by_cases (dec_lt tags_most count)
      (λ more. rw (lt-ltb tags_most count more) (omega arith))
      (λ less. rw (le-ltb tags_most count (omega arith)) (omega arith)) in
      rw (is, first, most, le-ltb ns.0 1 lo, le-ltb namespaces ns.0 hi)
      (by_length (wrong_cache keys) keys (fill slot_width ((ns.0 - 1) * tags_most) (min count tags_most) emptied keys))

  pub clear_no_namespace : no_namespace ns ≡ true → keys ≡ cleared_up_to ns count keys
  unfolding cleared_up_to
  clear_no_namespace is = rw (is, and-false (not (wrong_cache keys)))

-- ------------------------------------------------------------------------
-- The slots of a cache

module _ (keys : List ℕ) (place : ℕ) where
  pub wrong_slot : (length keys ≡ cache_size → ⊥) → slot_at place keys ≡ []
  unfolding slot_at
  wrong_slot wrong = rw (wrong_cache_lem keys wrong)

  -- what `get` finds at a place
  pub slot_found : {slots : List (List ℕ)} → length keys ≡ cache_size → slots ≡ first_chunks slot_width slot_places keys
      → (found : Option (Bor (List ℕ))) → IfSome found (λ x. x.now ≡ get_or slots place x.now)
      → MatchOption found (length slots ≤ place) (λ x. (place < length slots) × HoldsAt (λ y. x.now ≡ y) slots place)
      → MatchOption found (slot_at place keys ≡ []) (λ slot. slot.now ≡ slot_at place keys)
  unfolding slot_at
  slot_found size is None some here =
      let n = ap length is ∙ length_chunks slot_width slot_places keys in
      rw (right_cache keys size, le-ltb place slot_places (omega (arith, n, here)))
  slot_found size is (Some x) some here =
      let n = ap length is ∙ length_chunks slot_width slot_places keys in
      let inside : place < slot_places = omega (arith, n, here.0) in
      rw (right_cache keys size, lt-ltb place slot_places inside)
      (some ∙ ap (λ cs. get_or cs place x.now) is ∙ chunk_at slot_width place slot_places keys x.now inside)

-- ------------------------------------------------------------------------
-- A slot's parts

module _ (c : List ℕ) (whole : length c ≡ slot_width) where
  -- a length byte past the slot: the rest of the slot
  pub uid_taken : {n : ℕ} → n ≡ min (uid_length c) (slot_width - 1) → take n (take (slot_width - 1) (drop 1 c)) ≡ uid_of c
  unfolding uid_of part
  uid_taken is =
      let l : length (drop 1 c) ≡ slot_width - 1 = simp length-drop (omega arith) in
      let behind : take (slot_width - 1) (drop 1 c) ≡ drop 1 c = take_all (slot_width - 1) (drop 1 c) (omega arith) in
      by_cases (dec_lt (uid_length c) slot_width)
      (λ less. let e : min (uid_length c) (slot_width - 1) ≡ uid_length c = omega arith in rw (is, e, behind))
      (λ more.
      let e : min (uid_length c) (slot_width - 1) ≡ slot_width - 1 = omega arith in
      let all : take (uid_length c) (drop 1 c) ≡ drop 1 c = take_all (uid_length c) (drop 1 c) (omega arith) in
      rw (is, e, behind, behind, all))

  -- the head against another: the length, then the other bytes behind the KeyUID's first n, then those
  pub slot_head_parts : (head : List ℕ) (n : ℕ) → length head ≡ head_size → n ≤ uid_most
      → same (head_of c) head
      ≡ eqb (get_or c 0 0) (get_or head 0 0)
      && (same (part (1 + n) (uid_most - n) c) (part (1 + n) (uid_most - n) head) && same (part 1 n c) (part 1 n head))
  slot_head_parts head n size h =
      let e : uid_most ≡ n + (uid_most - n) = omega (arith, h) in
      let rest = ap (λ k. same (part 1 k c) (part 1 k head)) e
      ∙ same_split 1 1 n (uid_most - n) c head (omega arith) (omega arith)
      ∙ and_comm (same (part 1 n c) (part 1 n head)) (same (part (1 + n) (uid_most - n) c) (part (1 + n) (uid_most - n) head)) in
      ap (same (head_of c)) (sym (part_whole head_size head size))
      ∙ same_split 0 0 1 uid_most c head (omega arith) (omega arith)
      ∙ ap (λ b. b && same (part 1 uid_most c) (part 1 uid_most head)) (same_byte 0 0 c head (omega arith) (omega arith))
      ∙ ap (λ b. eqb (get_or c 0 0) (get_or head 0 0) && b) rest

-- the same where a slot stands in the cache: the length, then the KeyUID's first n bytes, then the others
module _ (keys : List ℕ) (place : ℕ) (size : length keys ≡ cache_size) (inside : place < slot_places) where
  pub head_parts : (head : List ℕ) (n : ℕ) → length head ≡ head_size → n ≤ uid_most
      → same (head_of (cell slot_width place keys)) head
      ≡ eqb (get_or keys (place * slot_width) 0) (get_or head 0 0)
      && (same (part (place * slot_width + 1) n keys) (part 1 n head)
      && same (part (place * slot_width + (1 + n)) (uid_most - n) keys) (part (1 + n) (uid_most - n) head))
  head_parts head n whole h =
      let fits : place * slot_width + slot_width ≤ length keys = omega arith in
      let c : List ℕ = cell slot_width place keys in
      let first = part_cell slot_width place 1 n keys fits (omega arith) in
      let rest = part_cell slot_width place (1 + n) (uid_most - n) keys fits (omega arith) in
      slot_head_parts c (length_cell slot_width place keys fits) head n whole h
      ∙ ap (λ k. eqb k (get_or head 0 0) && (same (part (1 + n) (uid_most - n) c) (part (1 + n) (uid_most - n) head) && same (part 1 n c) (part 1 n head)))
      (length_at keys place)
      ∙ (rw (first, rest, and_comm (same (part (place * slot_width + (1 + n)) (uid_most - n) keys) (part (1 + n) (uid_most - n) head))))

-- ------------------------------------------------------------------------
-- A head from a KeyUID, and a slot from a head and a key

pub head_is : (uid : List ℕ) {copied : List ℕ} → length uid ≤ uid_most → copied ≡ uid
    → length uid ∷ (copied ++ drop (1 + length uid - 1) (zeros uid_most)) ≡ head_bytes uid
unfolding head_bytes padded zeros
head_is uid short is =
    let e : 1 + length uid - 1 ≡ length uid = omega arith in
    rw (is, e, drop-replicate)

pub length_head : (uid : List ℕ) → length uid ≤ uid_most → length (head_bytes uid) ≡ head_size
unfolding head_bytes
length_head uid short = omega (arith, length_padded uid_most uid short)

-- a head over a slot's first bytes, and a key over the others
abbrev set : List ℕ → List ℕ → List ℕ → List ℕ
set old head key =
    take head_size (head ++ drop head_size old)
    ++ (key ++ drop (length (head ++ drop head_size old) - head_size) (drop head_size (head ++ drop head_size old)))

set_parts : (old head key : List ℕ) → length old ≡ slot_width → length head ≡ head_size → length key ≡ key_size
    → set old head key ≡ head ++ key
set_parts old head key whole l full =
    let rest : length (drop head_size old) ≡ key_size = simp length-drop (omega arith) in
    let n : length (head ++ drop head_size old) - head_size ≡ key_size = simp length-append (omega arith) in
    let none : drop key_size (drop head_size old) ≡ [] = drop_of_length-le (drop head_size old) {i = key_size} (omega arith) in
    rw (n, take_at head (drop head_size old) head_size l, drop_at head (drop head_size old) head_size l, none, append-nil)

pub set_slot_is : (uid key old : List ℕ) {head copied : List ℕ} → length old ≡ slot_width → length uid ≤ uid_most → length key ≡ key_size
    → head ≡ head_bytes uid → copied ≡ key → set old head copied ≡ slot_bytes (record { uid = uid; key = key })
unfolding slot_bytes head_bytes
set_slot_is uid key old whole short full h k = rw (h, k) (set_parts old (head_bytes uid) key whole (length_head uid short) full)
