-- The key cache, lent at any length, after a store or a clear. What names no
-- slot, or is no key, changes nothing; a cache of another length has no slots
-- and stays. And the search for another key among allocated tags.
-- Assumes nothing.
use Rattle.std.specs.Prelude.{Bool, false, not, ◌&&◌, cond, List, [], ◌∷◌, ℕ, zero, suc, ◌+◌, ◌/◌, ◌%◌, length, get_or, eqb, leb, ltb}
use Rattle.cells.specs.Cells.{part, cell, put, fill}
use Rattle.cells.specs.Predicates.{same, some_cell}
use Rattle.rules.specs.declared.Namespace.{Namespace}
use Rattle.rules.specs.Numbers.{namespaces, tags_most, uid_most, key_size, slot_width, slot_places}
use Rattle.rules.specs.State.{wrong_cache, namespace, key_tag, no_namespace}
use Rattle.rules.specs.Slots.{Contents, place_of, padded, slot_bytes, emptied, key_of}

-- the slot at a place; no bytes past the last
unfoldable pub slot_at : ℕ → List ℕ → List ℕ
slot_at place keys = cond (not (wrong_cache keys) && ltb place slot_places) (cell slot_width place keys) []

abbrev pub fits_slot : ℕ → Contents → List ℕ → Bool
fits_slot place x keys = not (wrong_cache keys) && ltb place slot_places && leb (length x.uid) uid_most && eqb (length x.key) key_size

unfoldable pub stored : ℕ → Contents → List ℕ → List ℕ
stored place x keys = cond (fits_slot place x keys) (put slot_width place (slot_bytes x) keys) keys

unfoldable pub cleared : ℕ → List ℕ → List ℕ
cleared place keys = cond (not (wrong_cache keys) && ltb place slot_places) (put slot_width place emptied keys) keys

unfoldable pub cleared_all : List ℕ → List ℕ
cleared_all keys = cond (wrong_cache keys) keys (fill slot_width 0 slot_places emptied keys)

-- as many tags as a count says, and at most all
abbrev pub tags_up_to : ℕ → ℕ
tags_up_to count = cond (ltb tags_most count) tags_most count

-- the slots of a namespace up to a count. In a sound state, up to its own count, that is all of them: those behind are empty.
unfoldable pub cleared_up_to : Namespace → ℕ → List ℕ → List ℕ
cleared_up_to ns count keys =
    cond (not (wrong_cache keys) && not (no_namespace ns)) (fill slot_width (place_of ns (key_tag 0)) (tags_up_to count) emptied keys) keys

-- the slots of the first n namespaces, each up to its count; and of every namespace
unfoldable pub cleared_first : ℕ → List ℕ → List ℕ → List ℕ
cleared_first zero counts keys = keys
cleared_first (suc n) counts keys = cleared_up_to (namespace (suc n)) (get_or counts n 0) (cleared_first n counts keys)

abbrev pub cleared_allocated : List ℕ → List ℕ → List ℕ
cleared_allocated counts keys = cleared_first namespaces counts keys

-- a tag below its namespace's count is allocated
abbrev pub allocated : List ℕ → ℕ → Bool
allocated counts place = ltb (place % tags_most) (get_or counts (place / tags_most) 0)

-- the head of a slot: the bytes before its key. That of a KeyUID above 16 bytes is longer, so that no slot has it.
abbrev pub head_size : ℕ
head_size = 1 + uid_most

abbrev pub head_of : List ℕ → List ℕ
head_of c = part 0 head_size c

unfoldable pub head_bytes : List ℕ → List ℕ
head_bytes uid = length uid ∷ padded uid_most uid

-- this head, and another key
unfoldable pub other_key_behind : List ℕ → List ℕ → List ℕ → Bool
other_key_behind head key c = same (head_of c) head && not (same (key_of c) key)

-- 07 0C at an allocated tag, by heads. For a KeyUID of 1 byte or more in a sound state it is `rules` `other_key`: a stored KeyUID is padded with
-- zeros, and every slot at another tag is empty.
unfoldable pub other_key_allocated : List ℕ → List ℕ → Contents → Bool
other_key_allocated counts keys x =
    cond (wrong_cache keys)
    false
    (some_cell slot_width 0 slot_places (λ place c. allocated counts place && other_key_behind (head_bytes x.uid) x.key c) keys)
