-- The search for a head with another key, namespace by namespace.
-- Assumes nothing.
use mathlib.Core.Path.{◌≡◌, sym, ap, ◌∙◌}
use mathlib.Core.Bool.{Bool, true, false, ◌&&◌, ◌||◌, or-false}
use mathlib.Core.List.{List}
use Prim.Native.Nat.{ℕ, min, ◌+◌, ◌-◌, ◌*◌, ◌/◌, ◌%◌, ◌≤◌, ◌<◌}
use native.Mathlib.Omega.{arith}
use lib.ListN.{get_or}
use lib.Dec.{ltb}
use borrow.Author.Tests.{lt-ltb, le-ltb}
use Rattle.cells.specs.Cells.{cell}
use Rattle.cells.specs.Predicates.{some_cell}
use Rattle.cells.proofs.PredicatesLaws.{then_none, some_split, some_same}
use Rattle.rules.specs.Numbers.{namespaces, tags_most, slot_width, slot_places}
use Rattle.sound.proofs.ScanLaws.{by_namespace}
use Rattle.slots.specs.Cache.{allocated, other_key_behind}
use Rattle.slots.specs.Search.{other_key_below, other_key_in_namespaces}
use mathlib.Core.Logic.{by_cases}
use native.Mathlib.Decide.{dec_lt}
use lib.ListN.{length, take, drop}
use lib.Seq.{take_all}
use Rattle.std.specs.List.{list_any, zip}
use Rattle.std.specs.Simd.{first_chunks}
use Rattle.cells.proofs.ChunksLaws.{length_chunks, take_chunks, some_cell_any}

-- ------------------------------------------------------------------------
-- The tags of a namespace that are below a count

-- a test of those alone, as a test of the first n slots: n is the count, or all where the count is above
pub below_count : (f : ℕ → List ℕ → Bool) (keys : List ℕ) (ns count n : ℕ) → n ≤ tags_most → n ≤ count
    → ((k : ℕ) → n ≤ k → k < tags_most → count ≤ k)
    → some_cell slot_width (ns * tags_most) n f keys
    ≡ some_cell slot_width (ns * tags_most) tags_most (λ i c. ltb (i % tags_most) count && f i c) keys
below_count f keys ns count n h l above =
    let first : ℕ = ns * tags_most in
    let g : ℕ → List ℕ → Bool = (λ i c. ltb (i % tags_most) count && f i c) in
    let e : n + (tags_most - n) ≡ tags_most = omega arith in
    let t : (k : ℕ) → k < n → ltb ((ns * tags_most + k) % tags_most) count ≡ true =
    (λ k b. lt-ltb ((ns * tags_most + k) % tags_most) count (omega arith)) in
    let tag : (k : ℕ) → k < tags_most - n → (ns * tags_most + n + k) % tags_most ≡ n + k = (λ k b. omega arith) in
    let u : (k : ℕ) → k < tags_most - n → ltb ((ns * tags_most + n + k) % tags_most) count ≡ false =
    (λ k b. le-ltb ((ns * tags_most + n + k) % tags_most) count (rw (tag k b) (above (n + k) (omega arith) (omega arith)))) in
    let none =
    then_none slot_width g (tags_most - n) (first + n) keys (λ k b. ap (λ r. r && f (first + n + k) (cell slot_width (first + n + k) keys)) (u k b)) in
    some_same slot_width f g first n keys (λ k b. ap (λ r. r && f (first + k) (cell slot_width (first + k) keys)) (sym (t k b)))
    ∙ sym (or-false (some_cell slot_width first n g keys))
    ∙ ap (λ b. some_cell slot_width first n g keys || b) (sym none)
    ∙ sym (some_split slot_width g first n (tags_most - n) keys)
    ∙ ap (λ k. some_cell slot_width first k g keys) e

-- ------------------------------------------------------------------------
-- The search for a head with another key

-- the test of the slot at a place, and of one in a namespace with this tag count
abbrev pub other_at : List ℕ → List ℕ → List ℕ → ℕ → List ℕ → Bool
other_at counts head key place c = allocated counts place && other_key_behind head key c

abbrev pub other_below : ℕ → List ℕ → List ℕ → ℕ → List ℕ → Bool
other_below count head key i c = ltb (i % tags_most) count && other_key_behind head key c

-- the slots that are looked at: a count above all of them is as good as all
pub first_slots : (count : ℕ) (slots : List (List ℕ)) {n : ℕ} → length slots ≡ tags_most → n ≡ min count tags_most
    → take n slots ≡ take count slots
first_slots count slots size is =
    by_cases (dec_lt count tags_most)
    (λ less. let e : min count tags_most ≡ count = omega arith in rw (is, e))
    (λ more.
    let e : min count tags_most ≡ tags_most = omega arith in
    rw (is, e, take_all tags_most slots (omega arith), take_all count slots (omega arith)))

below_is : (head key keys : List ℕ) (ns count : ℕ)
    → some_cell slot_width (ns * tags_most) tags_most (other_below count head key) keys
    ≡ other_key_below head key count (first_chunks slot_width tags_most (drop (ns * tags_most * slot_width) keys))
below_is head key keys ns count =
    let ys : List ℕ = drop (ns * tags_most * slot_width) keys in
    let f : List ℕ → Bool = (λ c. other_key_behind head key c) in
    by_cases (dec_lt count tags_most)
    (λ less.
    sym (below_count (λ i c. other_key_behind head key c) keys ns count count (omega arith) (omega arith) (λ k ge b. ge))
    ∙ some_cell_any slot_width (ns * tags_most) count f keys
    ∙ ap (list_any f) (sym (take_chunks slot_width count tags_most ys (omega arith))))
    (λ more.
    let l = length_chunks slot_width tags_most ys in
    sym (below_count (λ i c. other_key_behind head key c) keys ns count tags_most (omega arith) (omega arith) (λ k ge b. absurd (omega arith)))
    ∙ some_cell_any slot_width (ns * tags_most) tags_most f keys
    ∙ ap (list_any f) (sym (take_all count (first_chunks slot_width tags_most ys) (omega arith))))

-- the search, namespace by namespace
pub search_is : (counts head key keys : List ℕ) → length counts ≡ namespaces
    → other_key_in_namespaces counts head key (first_chunks slot_width slot_places keys)
    ≡ some_cell slot_width 0 slot_places (other_at counts head key) keys
search_is counts head key keys size =
    let n : length (first_chunks slot_width slot_places keys) / tags_most ≡ namespaces = omega (arith, length_chunks slot_width slot_places keys) in
    ap (λ k. list_any (λ p. other_key_below head key p.0 p.1) (zip counts (first_chunks tags_most k (first_chunks slot_width slot_places keys)))) n
    ∙ by_namespace (other_at counts head key) (λ count. other_below count head key) (other_key_below head key) counts keys (record {
      size = size;
      place = λ ns i e c. ap (λ k. ltb (i % tags_most) (get_or counts k 0) && other_key_behind head key c) e;
      each = below_is head key keys;
    })
