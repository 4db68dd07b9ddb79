-- A scan of the cache by namespaces: what is left of it, namespace by namespace, and a namespace's slots up to its tag count and behind it;
-- soundness by it.
-- Assumes nothing.
use mathlib.Core.Path.{◌≡◌, refl, sym, ap, ◌∙◌}
use mathlib.Core.Bool.{Bool, true, false, not, ◌||◌, true≢false}
use mathlib.Core.List.{List, [], ◌∷◌}
use Prim.Native.Nat.{ℕ, zero, suc, min, ◌+◌, ◌-◌, ◌*◌, ◌/◌, ◌%◌, ◌≤◌, ◌<◌}
use native.Mathlib.Omega.{arith}
use native.Mathlib.Numerals.{add-one}
use lib.ListN.{length, get_or, take, drop, drop_of_length-le}
use lib.Seq.{drop-drop, drop-cons, take_all}
use mathlib.Core.Logic.{by_cases}
use native.Mathlib.Decide.{dec_lt}
use native.Mathlib.Nat.{add-zero}
use Rattle.std.specs.List.{fold, flat_map, list_any, zip}
use Rattle.std.specs.Simd.{first_chunks}
use Rattle.cells.proofs.ChunksLaws.{length_chunks, take_chunks, drop_chunks, some_cell_any}
use Rattle.sound.specs.Scan.{namespace_unsound, some_namespace_unsound}
use lib.Dec.{leb, ltb}
use borrow.Author.Tests.{le-leb, lt-leb}
use Rattle.cells.specs.Cells.{cell}
use Rattle.cells.specs.Predicates.{all_zero, some_cell}
use Rattle.cells.proofs.PredicatesLaws.{some_start, some_split, some_same, some_list_marked}
use Rattle.rules.specs.Numbers.{namespaces, pool_slots, tags_most, slot_width, slot_places, cache_size}
use Rattle.rules.specs.View.{view_of, tag_above}
use Rattle.rules.specs.State.{State, total}
use Rattle.rules.specs.Slots.{namespace_at, tag_at, empty}
use Rattle.rules.specs.Sound.{some_above, slot_unsound, unsound}
use Rattle.rules.proofs.StateLaws.{right_cache}
use Rattle.rules.proofs.SoundLaws.{empty_is, unallocated_is}

-- ------------------------------------------------------------------------
-- Namespace by namespace

-- one of the slots from namespace ns on, counted from 0, is so
abbrev pub rest : (ℕ → List ℕ → Bool) → List ℕ → ℕ → Bool
rest f keys ns = some_cell slot_width (ns * tags_most) ((namespaces - ns) * tags_most) f keys

module _ (f : ℕ → List ℕ → Bool) (keys : List ℕ) where
  -- namespace ns, where the test is g and the answer b, and the rest
  pub rest_next : (g : ℕ → List ℕ → Bool) (ns : ℕ) → ns < namespaces → ((i : ℕ) → i / tags_most ≡ ns → (c : List ℕ) → f i c ≡ g i c)
      → {b : Bool} → some_cell slot_width (ns * tags_most) tags_most g keys ≡ b
      → rest f keys ns ≡ b || rest f keys (ns + 1)
  rest_next g ns h agree e =
      let n : (namespaces - ns) * tags_most ≡ tags_most + (namespaces - (ns + 1)) * tags_most = omega arith in
      let a : ns * tags_most + tags_most ≡ (ns + 1) * tags_most = omega arith in
      ap (λ k. some_cell slot_width (ns * tags_most) k f keys) n
      ∙ some_split slot_width f (ns * tags_most) tags_most ((namespaces - (ns + 1)) * tags_most) keys
      ∙ ap (λ k. some_cell slot_width (ns * tags_most) tags_most f keys || some_cell slot_width k ((namespaces - (ns + 1)) * tags_most) f keys) a
      ∙ ap (λ b. b || rest f keys (ns + 1))
      (some_same slot_width f g (ns * tags_most) tags_most keys
      (λ k l. agree (ns * tags_most + k) (omega arith) (cell slot_width (ns * tags_most + k) keys)) ∙ e)

  pub rest_end : (ns : ℕ) → ns ≡ namespaces → rest f keys ns ≡ false
  rest_end ns e = ap (rest f keys) e ∙ some_start slot_width f slot_places keys

-- The slots and the counts, namespace by namespace: the test of a slot at a place is f, that of one in a namespace with a count g, and
-- that of the slots of a namespace with a count t.
module _ (f : ℕ → List ℕ → Bool) (g : ℕ → ℕ → List ℕ → Bool) (t : ℕ → List (List ℕ) → Bool) (counts keys : List ℕ) where
  pub record Agree : Type 0 where
    pub size : length counts ≡ namespaces
    pub place : (ns i : ℕ) → i / tags_most ≡ ns → (c : List ℕ) → f i c ≡ g (get_or counts ns 0) i c
    pub each : (ns count : ℕ) → some_cell slot_width (ns * tags_most) tags_most (g count) keys
        ≡ t count (first_chunks slot_width tags_most (drop (ns * tags_most * slot_width) keys))

  from_namespace : Agree → (k ns : ℕ) → k + ns ≡ namespaces
      → list_any (λ p. t p.0 p.1)
      (zip (drop ns counts) (first_chunks tags_most k (first_chunks slot_width (k * tags_most) (drop (ns * tags_most * slot_width) keys))))
      ≡ rest f keys ns
  from_namespace a zero ns e =
      let all : ns ≡ namespaces = omega arith in
      let none : drop ns counts ≡ [] = drop_of_length-le counts {i = ns} (omega (arith, a.size)) in
      rw none (sym (rest_end f keys ns all))
  from_namespace a (suc k) ns e =
      let ys : List ℕ = drop (ns * tags_most * slot_width) keys in
      let count : ℕ = get_or counts ns 0 in
      let first : drop ns counts ≡ get_or counts ns 0 ∷ drop (suc ns) counts = drop-cons counts ns 0 (omega (arith, a.size)) in
      let here = take_chunks slot_width tags_most (suc k * tags_most) ys (omega arith) in
      let n : suc k * tags_most - tags_most ≡ k * tags_most = omega arith in
      let j : ns * tags_most * slot_width + tags_most * slot_width ≡ suc ns * tags_most * slot_width = omega arith in
      let behind = drop_chunks slot_width tags_most (suc k * tags_most) ys (omega arith)
      ∙ ap (λ m. first_chunks slot_width m (drop (tags_most * slot_width) ys)) n
      ∙ ap (first_chunks slot_width (k * tags_most)) (drop-drop (tags_most * slot_width) (ns * tags_most * slot_width) keys ∙ ap (λ m. drop m keys) j) in
      rw (first, here, behind)
      (ap (λ b. t count (first_chunks slot_width tags_most ys) || b) (from_namespace a k (suc ns) (omega arith))
      ∙ ap (λ m. t count (first_chunks slot_width tags_most ys) || rest f keys m) (sym (add-one ns))
      ∙ sym (rest_next f keys (g count) ns (omega arith) (a.place ns) (a.each ns count)))

  pub by_namespace : Agree → list_any (λ p. t p.0 p.1) (zip counts (first_chunks tags_most namespaces (first_chunks slot_width slot_places keys)))
      ≡ some_cell slot_width 0 slot_places f keys
  by_namespace a = from_namespace a namespaces 0 refl

-- ------------------------------------------------------------------------
-- Soundness: a slot at an unallocated tag is sound when its bytes are zero

loaded_marked : (c : List ℕ) → empty c ≡ false → all_zero c ≡ false
unfolding all_zero
loaded_marked [] e = absurd (true≢false e)
loaded_marked (x ∷ xs) e = rw e

pub unallocated_marked : (c : List ℕ) → slot_unsound true c ≡ not (all_zero c)
unallocated_marked c = go (empty c) refl
  where
    go : (b : Bool) → empty c ≡ b → slot_unsound true c ≡ not (all_zero c)
    go true e = sym (empty_is c true e)
    go false e = sym (unallocated_is c e) ∙ ap not (sym (loaded_marked c e))

-- the test of a slot in a namespace with this tag count
abbrev pub unsound_by : ℕ → ℕ → List ℕ → Bool
unsound_by count i c = slot_unsound (leb count (i % tags_most)) c

-- n slots are at allocated tags: as many as the count says, or all where it says more
namespace_by : (keys : List ℕ) (ns count n : ℕ) → n ≤ tags_most → n ≤ count → ((k : ℕ) → n ≤ k → k < tags_most → count ≤ k)
    → some_cell slot_width (ns * tags_most) tags_most (unsound_by count) keys
    ≡ list_any (λ c. slot_unsound false c) (first_chunks slot_width n (drop (ns * tags_most * slot_width) keys))
    || list_any (λ c. slot_unsound true c) (first_chunks slot_width (tags_most - n) (drop ((ns * tags_most + n) * slot_width) keys))
namespace_by keys ns count n h l above =
    let first : ℕ = ns * tags_most in
    let all : tags_most ≡ n + (tags_most - n) = omega arith in
    let at : (k : ℕ) → k < n → leb count ((ns * tags_most + k) % tags_most) ≡ false =
    (λ k b. lt-leb count ((ns * tags_most + k) % tags_most) (omega arith)) in
    let tag : (k : ℕ) → k < tags_most - n → (ns * tags_most + n + k) % tags_most ≡ n + k = (λ k b. omega arith) in
    let past : (k : ℕ) → k < tags_most - n → leb count ((ns * tags_most + n + k) % tags_most) ≡ true =
    (λ k b. le-leb count ((ns * tags_most + n + k) % tags_most) (rw (tag k b) (above (n + k) (omega arith) (omega arith)))) in
    ap (λ k. some_cell slot_width first k (unsound_by count) keys) all
    ∙ some_split slot_width (unsound_by count) first n (tags_most - n) keys
    ∙ ap (λ b. b || some_cell slot_width (first + n) (tags_most - n) (unsound_by count) keys)
    (some_same slot_width (unsound_by count) (λ i c. slot_unsound false c) first n keys
    (λ k b. ap (λ u. slot_unsound u (cell slot_width (first + k) keys)) (at k b))
    ∙ some_cell_any slot_width first n (λ c. slot_unsound false c) keys)
    ∙ ap (λ b. list_any (λ c. slot_unsound false c) (first_chunks slot_width n (drop (first * slot_width) keys)) || b)
    (some_same slot_width (unsound_by count) (λ i c. slot_unsound true c) (first + n) (tags_most - n) keys
    (λ k b. ap (λ u. slot_unsound u (cell slot_width (first + n + k) keys)) (past k b))
    ∙ some_cell_any slot_width (first + n) (tags_most - n) (λ c. slot_unsound true c) keys)

pub namespace_is : (keys : List ℕ) (ns count : ℕ)
    → some_cell slot_width (ns * tags_most) tags_most (unsound_by count) keys
    ≡ namespace_unsound count (first_chunks slot_width tags_most (drop (ns * tags_most * slot_width) keys))
namespace_is keys ns count =
    let ys : List ℕ = drop (ns * tags_most * slot_width) keys in
    by_cases (dec_lt count tags_most)
    (λ less.
    let at = drop-drop (count * slot_width) (ns * tags_most * slot_width) keys in
    let sum : ns * tags_most * slot_width + count * slot_width ≡ (ns * tags_most + count) * slot_width = omega arith in
    namespace_by keys ns count count (omega arith) (omega arith) (λ k ge b. ge)
    ∙ ap (λ cs. list_any (λ c. slot_unsound false c) cs
    || list_any (λ c. slot_unsound true c) (first_chunks slot_width (tags_most - count) (drop ((ns * tags_most + count) * slot_width) keys)))
    (sym (take_chunks slot_width count tags_most ys (omega arith)))
    ∙ ap (λ cs. list_any (λ c. slot_unsound false c) (take count (first_chunks slot_width tags_most ys)) || list_any (λ c. slot_unsound true c) cs)
    (ap (first_chunks slot_width (tags_most - count)) (sym (at ∙ ap (λ k. drop k keys) sum))
    ∙ sym (drop_chunks slot_width count tags_most ys (omega arith))))
    (λ more.
    let l = length_chunks slot_width tags_most ys in
    let front : take count (first_chunks slot_width tags_most ys) ≡ first_chunks slot_width tags_most ys =
    take_all count (first_chunks slot_width tags_most ys) (omega arith) in
    let none : drop count (first_chunks slot_width tags_most ys) ≡ [] =
    drop_of_length-le (first_chunks slot_width tags_most ys) {i = count} (omega arith) in
    namespace_by keys ns count tags_most (omega arith) (omega arith) (λ k ge b. absurd (omega arith)) ∙ (rw (front, none)))

-- the slots behind a count, by one look at their bytes
each_marked : (cs : List (List ℕ)) → list_any (λ c. not (all_zero c)) cs ≡ list_any (λ c. slot_unsound true c) cs
each_marked [] = refl
each_marked (c ∷ cs) = rw (unallocated_marked c, each_marked cs)

pub behind_marked : (behind : List (List ℕ)) → not (all_zero (flat_map (λ x. x) behind)) ≡ list_any (λ c. slot_unsound true c) behind
behind_marked behind = some_list_marked behind ∙ each_marked behind

-- a count above all the slots of a namespace is as good as all
pub namespace_split : (count : ℕ) (slots : List (List ℕ)) {m : ℕ} {front behind : List (List ℕ)}
    → length slots ≡ tags_most → m ≡ min count tags_most → front ≡ take m slots → behind ≡ drop m slots
    → list_any (λ c. slot_unsound false c) front || list_any (λ c. slot_unsound true c) behind ≡ namespace_unsound count slots
namespace_split count slots size is f b =
    by_cases (dec_lt count tags_most)
    (λ less. let e : min count tags_most ≡ count = omega arith in rw (f, b, is, e))
    (λ more.
    let e : min count tags_most ≡ tags_most = omega arith in
    let all : take tags_most slots ≡ slots = take_all tags_most slots (omega arith) in
    let front : take count slots ≡ slots = take_all count slots (omega arith) in
    let none : drop tags_most slots ≡ [] = drop_of_length-le slots {i = tags_most} (omega arith) in
    let behind : drop count slots ≡ [] = drop_of_length-le slots {i = count} (omega arith) in
    rw (f, b, is, e, all, none, front, behind))

-- ------------------------------------------------------------------------
-- Soundness of the slots, namespace by namespace, and of the whole state

-- the test of the slot at a place
abbrev pub unsound_at : List ℕ → ℕ → List ℕ → Bool
unsound_at counts place c = slot_unsound (leb (get_or counts (place / tags_most) 0) (place % tags_most)) c

pub slots_are : (counts keys : List ℕ) → length counts ≡ namespaces
    → some_namespace_unsound counts (first_chunks slot_width slot_places keys) ≡ some_cell slot_width 0 slot_places (unsound_at counts) keys
slots_are counts keys size =
    let n : length (first_chunks slot_width slot_places keys) / tags_most ≡ namespaces = omega (arith, length_chunks slot_width slot_places keys) in
    ap (λ k. list_any (λ p. namespace_unsound p.0 p.1) (zip counts (first_chunks tags_most k (first_chunks slot_width slot_places keys)))) n
    ∙ by_namespace (unsound_at counts) unsound_by namespace_unsound counts keys (record {
      size = size;
      place = λ ns i e c. ap (λ k. slot_unsound (leb (get_or counts k 0) (i % tags_most)) c) e;
      each = namespace_is keys;
    })

-- ------------------------------------------------------------------------
-- The counts

pub above_any : (most : ℕ) (ns : List ℕ) → list_any (λ n. ltb most n) ns ≡ some_above most ns
unfolding some_above
above_any most [] = refl
above_any most (n ∷ ns) = ap (λ b. ltb most n || b) (above_any most ns)

total_from : (a : ℕ) (ns : List ℕ) → fold (λ s n. s + n) a ns ≡ a + total ns
total_from a [] = sym (add-zero a)
total_from a (n ∷ ns) =
    let e : a + n + total ns ≡ a + (n + total ns) = omega arith in
    total_from (a + n) ns ∙ e

pub total_is : (ns : List ℕ) → fold (λ s n. s + n) 0 ns ≡ total ns
total_is ns = total_from 0 ns ∙ (omega arith)

-- ------------------------------------------------------------------------
-- The whole state

-- in a cache of its length the counts decide, and then the slots
module _ (s : State) (size : length s.keys ≡ cache_size) where
  abbrev counts_unsound : Bool
  counts_unsound = some_above tags_most s.registers.counts || ltb pool_slots (total s.registers.counts)

  abbrev slots_unsound : Bool
  slots_unsound = some_cell slot_width 0 slot_places (unsound_at s.registers.counts) s.keys

  unsound_is : unsound s ≡ counts_unsound || slots_unsound
  unfolding unsound
  unsound_is =
      let n : (k : ℕ) → (0 + k) / tags_most + 1 - 1 ≡ (0 + k) / tags_most = (λ k. omega arith) in
      (rw (right_cache s.keys size))
      ∙ ap (λ b. counts_unsound || b)
      (some_same slot_width (λ i c. slot_unsound (tag_above (view_of s) (namespace_at i) (tag_at i)) c) (unsound_at s.registers.counts) 0 slot_places s.keys
      (λ k l. ap (λ i. slot_unsound (leb (get_or s.registers.counts i 0) ((0 + k) % tags_most)) (cell slot_width (0 + k) s.keys)) (n k)))

  pub unsound_counts : counts_unsound ≡ true → unsound s ≡ true
  unsound_counts e = unsound_is ∙ ap (λ b. b || slots_unsound) e

  pub unsound_slots : counts_unsound ≡ false → unsound s ≡ slots_unsound
  unsound_slots e = unsound_is ∙ ap (λ b. b || slots_unsound) e
