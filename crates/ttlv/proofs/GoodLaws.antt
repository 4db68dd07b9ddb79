-- What the tests on a list mean; and that the tree of an item list is read back
-- from its encoding.
-- Assumes nothing.
use mathlib.Core.Path.{◌≡◌, refl, sym, ◌∙◌}
use mathlib.Core.Logic.{by_cases}
use mathlib.Core.Bool.{Bool, true, false, ◌&&◌, ◌||◌, true≢false}
use mathlib.Core.List.{List, [], ◌∷◌, ◌++◌}
use mathlib.Core.Option.{some}
use Prim.Native.Nat.{ℕ, zero, suc, ◌+◌, ◌^◌, ◌<◌, ◌≤◌}
use native.Mathlib.Omega.{arith}
use native.Mathlib.Decide.{dec_lt, ℕ_discrete}
use lib.ListN.{length}
use lib.Dec.{leb, ltb}
use borrow.Author.Tests.{leb-true, ltb-true, ne_eqb}
use Rattle.cells.specs.Cells.{part}
use Rattle.cells.proofs.CellsLaws.{length_part}
use Rattle.cells.proofs.PredicatesLaws.{and_left, and_right}
use Rattle.rules.specs.Ttlv.{Items, end, value, structure, Structure, encode, depth, deepest, is_value, AreBytes, FitItems, read_items}
use Rattle.rules.proofs.TtlvFrontLaws.{bytes_take, bytes_drop}
use Rattle.rules.proofs.TtlvLaws.{ttlv_promised}
use Rattle.ttlv.specs.declared.Item.{Item}
use Rattle.ttlv.specs.Writing.{deeper, behind, tree_by, tree_of, is_structure, good_item, good_from, most_behind, room_for}
use Rattle.ttlv.specs.Pieces.{Inside, AllInside}
use Rattle.ttlv.proofs.TreeLaws.{split, length_split, room_split, room_cons, room_value, deeper_more, deeper_none, deeper_nil}
use Rattle.ttlv.proofs.TreeLaws.{behind_more, behind_none, behind_nil, tree_structure, tree_value, room_tree}

-- ------------------------------------------------------------------------
-- The tests

-- an item of its own: tag, depth and type go into their fields, and a value lies in the values
pub record Good (values : List ℕ) (i : Item) : Type 0 where
  pub tag_fits : i.tag < 2 ^ 24
  pub not_zero : 1 ≤ i.depth
  pub not_deep : i.depth ≤ deepest
  pub as_value : (i.kind ≡ Structure → ⊥) → (is_value i.kind i.length ≡ true) × (i.start + i.length ≤ length values)

unfoldable pub AllGood : List ℕ → List Item → Type 0
AllGood values [] = Unit {0}
AllGood values (i ∷ is) = Good values i × AllGood values is

or_that : (a b : Bool) → a ≡ false → a || b ≡ true → b ≡ true
or_that true b e f = absurd (true≢false e)
or_that false b e f = f

module _ (n most : ℕ) (i : Item) (g : good_item n most i ≡ true) where
  good_parts : (i.tag < 2 ^ 24) × (1 ≤ i.depth) × (i.depth ≤ deepest)
      × (is_structure i || is_value i.kind i.length && leb (i.start + i.length) n ≡ true)
  unfolding good_item
  good_parts =
      let t = ltb i.tag (2 ^ 24) in
      let d = leb 1 i.depth in
      let e = leb i.depth most in
      let f = leb i.depth deepest in
      let v = is_structure i || is_value i.kind i.length && leb (i.start + i.length) n in
      let g4 = and_left (t && d && e && f) v g in
      let g2 = and_left (t && d) e (and_left (t && d && e) f g4) in (
        ltb-true i.tag (2 ^ 24) (and_left t d g2),
        leb-true 1 i.depth (and_right t d g2),
        leb-true i.depth deepest (and_right (t && d && e) f g4),
        and_right (t && d && e && f) v g,
      )

  pub good_depth : i.depth ≤ deepest
  good_depth = good_parts.2

good_item_lem : (values : List ℕ) (most : ℕ) (i : Item) → good_item (length values) most i ≡ true → Good values i
good_item_lem values most i g =
    let p = good_parts (length values) most i g in
    let v = is_value i.kind i.length in
    record {
      tag_fits = p.0;
      not_zero = p.1;
      not_deep = p.2;
      as_value =
          λ n.
          let w = or_that (is_structure i) _ (ne_eqb i.kind Structure n) p.3 in
          (and_left v _ w, leb-true (i.start + i.length) (length values) (and_right v _ w));
    }

pub good_from_lem : (values : List ℕ) (most : ℕ) (is : List Item) → good_from (length values) most is ≡ true → AllGood values is
unfolding good_from AllGood
good_from_lem values most [] g = tt
good_from_lem values most (i ∷ is) g =
    (good_item_lem values most i (and_left _ _ g), good_from_lem values (most_behind i) is (and_right (good_item (length values) most i) _ g))

-- no other type than these is a value's
value_kind : (k n : ℕ) → is_value k n ≡ true → k < 256
unfolding is_value
value_kind k n v =
    by_cases (dec_lt k 256)
    (λ h. h)
    (λ h.
    let a = ne_eqb k 2 (λ e. omega arith) in
    let b = ne_eqb k 5 (λ e. omega arith) in
    let c = ne_eqb k 7 (λ e. omega arith) in
    let d = ne_eqb k 8 (λ e. omega arith) in
    absurd (true≢false (sym v ∙ rw (a, b, c, d))))

good_inside_one : (values : List ℕ) (i : Item) → Good values i → Inside values i
good_inside_one values i g =
    record {
      kind_fits = by_cases (ℕ_discrete i.kind Structure) (λ e. omega arith) (λ n. value_kind i.kind i.length (g.as_value n).0);
      there = λ n. (g.as_value n).1;
    }

good_cons : (values : List ℕ) (i : Item) (is : List Item) → AllGood values (i ∷ is) → Good values i × AllGood values is
unfolding AllGood
good_cons values i is h = h

good_join : (values : List ℕ) (is js : List Item) → AllGood values (is ++ js) → AllGood values is × AllGood values js
unfolding AllGood
good_join values [] js h = (tt, h)
good_join values (i ∷ is) js h = let r = good_join values is js h.1 in ((h.0, r.0), r.1)

good_split : (values : List ℕ) (d : ℕ) (is : List Item) → AllGood values is → AllGood values (deeper d is) × AllGood values (behind d is)
good_split values d is h = good_join values (deeper d is) (behind d is) (rw (split d is) h)

pub good_inside : (values : List ℕ) (is : List Item) → AllGood values is → AllInside values is
unfolding AllGood AllInside
good_inside values [] h = tt
good_inside values (i ∷ is) h = (good_inside_one values i h.0, good_inside values is h.1)

fit_end : FitItems end
unfolding FitItems
fit_end = tt

fit_value : (t k : ℕ) (v : List ℕ) (is : Items) → t < 2 ^ 24 → is_value k (length v) ≡ true → length v < 2 ^ 32 → AreBytes v → FitItems is
    → FitItems (value t k v is)
unfolding FitItems
fit_value t k v is a b c d e = (a, b, c, d, e)

fit_structure : (t : ℕ) (ms is : Items) → t < 2 ^ 24 → length (encode ms) < 2 ^ 32 → FitItems ms → FitItems is → FitItems (structure t ms is)
unfolding FitItems
fit_structure t ms is a b c d = (a, b, c, d)

bytes_part : (a n : ℕ) (xs : List ℕ) → AreBytes xs → AreBytes (part a n xs)
unfolding part
bytes_part a n xs h = bytes_take n _ (bytes_drop a xs h)

module _ (values : List ℕ) (all-bytes : AreBytes values) where
  fit_tree : (n : ℕ) (is : List Item) → length is ≤ n → AllGood values is → room_for is < 2 ^ 32 → FitItems (tree_by n values is)
  unfolding tree_by
  fit_tree zero [] l g r = fit_end
  fit_tree zero (i ∷ is) l g r = absurd (omega arith)
  fit_tree (suc n) [] l g r = fit_end
  fit_tree (suc n) (i ∷ is) l g r =
      let h = good_cons values i is g in
      let rc = room_cons i is in
      by_cases (ℕ_discrete i.kind Structure)
      (λ e.
      let p = good_split values i.depth is h.1 in
      let ls = length_split i.depth is in
      let rs = room_split i.depth is in
      let m = room_tree values n (deeper i.depth is) (omega arith) (good_inside values _ p.0) in
      rw (tree_structure n values i is e)
      (fit_structure i.tag _ _ h.0.tag_fits (omega arith)
      (fit_tree n (deeper i.depth is) (omega arith) p.0 (omega arith))
      (fit_tree n (behind i.depth is) (omega arith) p.1 (omega arith))))
      (λ e.
      let w = h.0.as_value e in
      let v = part i.start i.length values in
      let lv : length v ≡ i.length = length_part i.start i.length values w.1 in
      let rv = room_value i e in
      rw (tree_value n values i is e)
      (fit_value i.tag i.kind v _ h.0.tag_fits (rw lv w.0) (omega arith) (bytes_part i.start i.length values all-bytes)
      (fit_tree n is (omega arith) h.1 (omega arith))))

-- ------------------------------------------------------------------------
-- Depth

-- every item is deeper than d
unfoldable Under : ℕ → List Item → Type 0
Under d [] = Unit {0}
Under d (i ∷ is) = (d < i.depth) × (i.depth ≤ deepest) × Under d is

under_deeper : (d e : ℕ) (is : List Item) → Under d is → Under e (deeper e is)
unfolding Under
under_deeper d e [] h = rw (deeper_nil e) tt
under_deeper d e (i ∷ is) h =
    by_cases (dec_lt e i.depth)
    (λ l. rw (deeper_more e i is l) (l, h.1, under_deeper d e is h.2))
    (λ n. rw (deeper_none e i is (omega arith)) tt)

under_behind : (d e : ℕ) (is : List Item) → Under d is → Under d (behind e is)
unfolding Under
under_behind d e [] h = rw (behind_nil e) tt
under_behind d e (i ∷ is) h =
    by_cases (dec_lt e i.depth)
    (λ l. rw (behind_more e i is l) (under_behind d e is h.2))
    (λ n. rw (behind_none e i is (omega arith)) h)

depth_tree : (values : List ℕ) (n : ℕ) (is : List Item) (d : ℕ) → d ≤ deepest → length is ≤ n → Under d is
    → depth (tree_by n values is) + d ≤ deepest
unfolding tree_by Under depth
depth_tree values zero is d k l u = omega arith
depth_tree values (suc n) [] d k l u = omega arith
depth_tree values (suc n) (i ∷ is) d k l u =
    by_cases (ℕ_discrete i.kind Structure)
    (λ e.
    let ls = length_split i.depth is in
    let a = depth_tree values n (deeper i.depth is) i.depth u.1 (omega arith) (under_deeper d i.depth is u.2) in
    let b = depth_tree values n (behind i.depth is) d k (omega arith) (under_behind d i.depth is u.2) in
    rw (tree_structure n values i is e) (omega arith))
    (λ e.
    let b = depth_tree values n is d k (omega arith) u.2 in
    rw (tree_value n values i is e) (omega arith))

good_under : (values : List ℕ) (is : List Item) → AllGood values is → Under 0 is
unfolding AllGood Under
good_under values [] h = tt
good_under values (i ∷ is) h = (h.0.not_zero, h.0.not_deep, good_under values is h.1)

-- What is written of a good list is read back as its tree.
pub written_back : (values : List ℕ) (is : List Item) → AreBytes values → AllGood values is → room_for is < 2 ^ 32
    → read_items (encode (tree_of values is)) ≡ some (tree_of values is)
written_back values is b g r =
    let d = depth_tree values (length is) is 0 (omega arith) (omega arith) (good_under values is g) in
    ttlv_promised.reads_back (tree_of values is) (fit_tree values b (length is) is (omega arith) g r) (omega arith)

-- ------------------------------------------------------------------------
-- A turn of the test

pub from_good : (n m : ℕ) (i : Item) (is : List Item) → good_item n m i ≡ true → good_from n (most_behind i) is ≡ good_from n m (i ∷ is)
unfolding good_from
from_good n m i is g = sym (rw g)

pub from_bad : (n m : ℕ) (i : Item) (is : List Item) → good_item n m i ≡ false → false ≡ good_from n m (i ∷ is)
unfolding good_from
from_bad n m i is g = sym (rw g)

pub from_none : (n m : ℕ) → true ≡ good_from n m []
unfolding good_from
from_none n m = refl
