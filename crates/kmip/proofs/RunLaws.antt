-- A run: its first item, by what stands at the front of its bytes, and the run behind it.
-- Assumes nothing.
use mathlib.Core.Path.{◌≡◌, refl, sym, ap, ◌∙◌}
use mathlib.Core.Bool.{Bool, true, false, cond, true≢false}
use mathlib.Core.List.{List, [], ◌∷◌}
use mathlib.Core.Option.{Option, none, some}
use Prim.Native.Nat.{ℕ, zero, suc, ◌+◌, ◌-◌, ◌<◌, ◌≤◌}
use native.Mathlib.Omega.{arith}
use lib.ListN.{length, take, drop}
use lib.Seq.{take-length}
use lib.Dec.{eqb, leb}
use borrow.Author.Tests.{le-leb, leb-true}
use Rattle.std.specs.Prelude as std
use Rattle.cells.specs.Cells.{part}
use Rattle.cells.proofs.CellsLaws.{length_part, lent_is}
use Rattle.rules.specs.Ttlv.{Items, end, value, structure, item_head, deepest, is_value, front, no_item, a_value, a_structure}
use Rattle.rules.specs.Ttlv.{with_value, with_structure, on_front, read_by, read_at, read_items}
use Rattle.rules.specs.Ttlv as ttlv
use Rattle.rules.proofs.TtlvFrontLaws.{Typed, typed}
use Rattle.rules.proofs.TtlvLaws.{read_on, read_empty}
use Rattle.ttlv.specs.declared.Front.{Front}
use Rattle.ttlv.specs.declared.Front.TheVariants.{Value, Structure}
use Rattle.ttlv.specs.ItemList.{is_some}
use Rattle.ttlv.specs.Reading.{item_at, Fronted}
use Rattle.ttlv.proofs.FrontLaws.{found_fronted}
use Rattle.rules.specs.Kmip.{from}
use Rattle.kmip.specs.Runs.{or_end, items_in}

-- ------------------------------------------------------------------------
-- What was read as something

nothing_some : {items : Items} → none ≡ some items → ⊥
nothing_some e = cc

with_value_some : (tag type : ℕ) (v : List ℕ) (o : Option Items) (items : Items) → with_value tag type v o ≡ some items
    → (behind : Items) × (o ≡ some behind) × (items ≡ value tag type v behind)
unfolding with_value
with_value_some tag type v none items e = absurd (nothing_some e)
with_value_some tag type v (some behind) items e = (behind, refl, cc)

with_structure_some : (tag : ℕ) (o p : Option Items) (items : Items) → with_structure tag o p ≡ some items
    → (members behind : Items) × (o ≡ some members) × (p ≡ some behind) × (items ≡ structure tag members behind)
unfolding with_structure
with_structure_some tag none p items e = absurd (nothing_some e)
with_structure_some tag (some members) none items e = absurd (nothing_some e)
with_structure_some tag (some members) (some behind) items e = (members, behind, refl, refl, cc)

-- ------------------------------------------------------------------------
-- What is read at some depth is read one nearer to the surface as well

module _ (r : ℕ → List ℕ → Option Items)
    (up : (d : ℕ) (xs : List ℕ) (items : Items) → r (suc d) xs ≡ some items → r d xs ≡ some items) where
  front_up : (d : ℕ) (f : ttlv.Front) (items : Items) → on_front r (suc d) f ≡ some items → on_front r d f ≡ some items
  unfolding on_front with_value with_structure
  front_up d no_item items e = e
  front_up d (a_value t k v rest) items e =
      let s = with_value_some t k v (r (suc d) rest) items e in
      ap (with_value t k v) (up d rest s.0 s.1) ∙ ap some (sym s.2)
  front_up d (a_structure t ms rest) items e =
      let s = with_structure_some t (r (suc (suc d)) ms) (r (suc d) rest) items e in
      ap (λ o. with_structure t o (r d rest)) (up (suc d) ms s.0 s.2)
      ∙ ap (with_structure t (some s.0)) (up d rest s.1 s.3)
      ∙ ap some (sym s.4)

cond_up : (a b : Bool) (x y : Option Items) (items : Items) → (a ≡ true → b ≡ true) → (x ≡ some items → y ≡ some items)
    → cond a x none ≡ some items → cond b y none ≡ some items
cond_up true true x y items h up e = up e
cond_up true false x y items h up e = absurd (true≢false (sym (h refl)))
cond_up false b x y items h up e = absurd (nothing_some e)

read_up : (steps d : ℕ) (xs : List ℕ) (items : Items) → read_by steps (suc d) xs ≡ some items → read_by steps d xs ≡ some items
unfolding read_by
read_up zero d [] items e = e
read_up zero d (x ∷ xs) items e = e
read_up (suc steps) d [] items e = e
read_up (suc steps) d (x ∷ xs) items e =
    cond_up (leb (suc d) deepest) (leb d deepest) (on_front (read_by steps) (suc d) (front (x ∷ xs))) (on_front (read_by steps) d (front (x ∷ xs))) items
    (λ h. le-leb d deepest (omega (arith, leb-true (suc d) deepest h)))
    (front_up (read_by steps) (λ d' ys is. read_up steps d' ys is) d (front (x ∷ xs)) items) e

members_read : (ms : List ℕ) (items : Items) → read_at 2 ms ≡ some items → read_items ms ≡ some items
unfolding read_at
members_read ms items e = read_up (length ms) 1 ms items e

-- ------------------------------------------------------------------------
-- Each value has a length of its type

unfoldable AllTyped : Items → Type 0
AllTyped end = Unit {0}
AllTyped (value t k v behind) = (is_value k (length v) ≡ true) × AllTyped behind
AllTyped (structure t members behind) = AllTyped behind

front_typed : (r : ℕ → List ℕ → Option Items) (each : (d : ℕ) (xs : List ℕ) (items : Items) → r d xs ≡ some items → AllTyped items)
    (d : ℕ) (f : ttlv.Front) (items : Items) → Typed f → on_front r d f ≡ some items → AllTyped items
unfolding AllTyped on_front
front_typed r each d no_item items ty e = absurd (nothing_some e)
front_typed r each d (a_value t k v rest) items ty e =
    let s = with_value_some t k v (r d rest) items e in
    rw s.2 (ty, each d rest s.0 s.1)
front_typed r each d (a_structure t ms rest) items ty e =
    let s = with_structure_some t (r (suc d) ms) (r d rest) items e in
    rw s.4 (each d rest s.1 s.3)

opened : (b : Bool) (o : Option Items) (items : Items) → cond b o none ≡ some items → o ≡ some items
opened true o items e = e
opened false o items e = absurd (nothing_some e)

end_typed : (items : Items) → some end ≡ some items → AllTyped items
unfolding AllTyped
end_typed items e = let is : items ≡ end = cc in rw is tt

read_typed : (steps d : ℕ) (xs : List ℕ) (items : Items) → read_by steps d xs ≡ some items → AllTyped items
unfolding read_by
read_typed zero d [] items e = end_typed items e
read_typed zero d (x ∷ xs) items e = absurd (nothing_some e)
read_typed (suc steps) d [] items e = end_typed items e
read_typed (suc steps) d (x ∷ xs) items e =
    front_typed (read_by steps) (λ d' ys is. read_typed steps d' ys is) d (front (x ∷ xs)) items (typed (x ∷ xs)) (opened (leb d deepest) _ items e)

either_typed : (b : Bool) (x y : Items) → AllTyped x → AllTyped y → AllTyped (cond b x y)
either_typed true x y h k = h
either_typed false x y h k = k

from_typed : (tag : ℕ) (items : Items) → AllTyped items → AllTyped (from tag items)
unfolding AllTyped from
from_typed tag end h = tt
from_typed tag (value t k v behind) h = either_typed (eqb t tag) (value t k v behind) (from tag behind) h (from_typed tag behind h.1)
from_typed tag (structure t members behind) h = either_typed (eqb t tag) (structure t members behind) (from tag behind) h (from_typed tag behind h)

-- ------------------------------------------------------------------------
-- The items of a run

items_as : (xs : List ℕ) (items : Items) → read_items xs ≡ some items → items_in xs ≡ items
unfolding items_in
items_as xs items e = ap or_end e

front_nil : front [] ≡ no_item
unfolding front
front_nil = refl

some_bytes : (xs : List ℕ) → (front xs ≡ no_item → ⊥) → 0 < length xs
some_bytes [] h = absurd (h front_nil)
some_bytes (x ∷ xs) h = omega arith

module _ (xs : List ℕ) (sound : is_some (read_items xs) ≡ true) where
  pub read_is : read_items xs ≡ some (items_in xs)
  unfolding items_in
  read_is = by (read_items xs) sound
    where
      by : (o : Option Items) → is_some o ≡ true → o ≡ some (or_end o)
      by none e = absurd (true≢false (sym e))
      by (some items) e = refl

  by_front : (f : ttlv.Front) → front xs ≡ f → 0 < length xs → on_front read_at 1 f ≡ some (items_in xs)
  by_front f e more = sym (read_on 1 xs more (omega arith) ∙ ap (on_front read_at 1) e) ∙ read_is

  -- the front is no item at the end of a run alone
  front_none : front xs ≡ no_item → items_in xs ≡ end
  unfolding on_front
  front_none e = by xs refl
    where
      by : (ys : List ℕ) → ys ≡ xs → items_in xs ≡ end
      by [] h = ap items_in (sym h) ∙ items_as [] end (read_empty 1)
      by (y ∷ ys) h = absurd (nothing_some (by_front no_item e (let l = ap length h in omega (arith, l))))

  front_value : (t k : ℕ) (v rest : List ℕ) → front xs ≡ a_value t k v rest
      → (items_in xs ≡ value t k v (items_in rest)) × (is_some (read_items rest) ≡ true)
  unfolding on_front
  front_value t k v rest e =
      let more = some_bytes xs (λ n. let no : a_value t k v rest ≡ no_item = sym e ∙ n in cc) in
      let s = with_value_some t k v (read_at 1 rest) (items_in xs) (by_front _ e more) in
      (s.2 ∙ ap (value t k v) (sym (items_as rest s.0 s.1)), ap is_some s.1)

  front_structure : (t : ℕ) (ms rest : List ℕ) → front xs ≡ a_structure t ms rest
      → (items_in xs ≡ structure t (items_in ms) (items_in rest)) × (is_some (read_items ms) ≡ true) × (is_some (read_items rest) ≡ true)
  unfolding on_front
  front_structure t ms rest e =
      let more = some_bytes xs (λ n. let no : a_structure t ms rest ≡ no_item = sym e ∙ n in cc) in
      let s = with_structure_some t (read_at 2 ms) (read_at 1 rest) (items_in xs) (by_front _ e more) in
      let m = members_read ms s.0 s.2 in (
        s.4 ∙ ap (λ i. structure t i s.1) (sym (items_as ms s.0 m)) ∙ ap (structure t (items_in ms)) (sym (items_as rest s.1 s.3)),
        ap is_some m,
        ap is_some s.3,
      )

pub value_typed : (xs : List ℕ) → is_some (read_items xs) ≡ true → (tag k : ℕ) (v : List ℕ) (behind : Items)
    → from tag (items_in xs) ≡ value tag k v behind → is_value k (length v) ≡ true
unfolding AllTyped read_at
value_typed xs sound tag k v behind e =
    let all = from_typed tag (items_in xs) (read_typed (length xs) 1 xs (items_in xs) (read_is xs sound)) in
    (rw e at all).0

-- ------------------------------------------------------------------------
-- By places, and by what is lent of the bytes

whole : (xs : List ℕ) → part 0 (length xs - 0) xs ≡ xs
unfolding part
whole xs = let z : length xs - 0 ≡ length xs = omega arith in rw z (take-length xs)

stands : (xs : List ℕ) (r : std.Option Front) → item_at xs 0 (length xs) ≡ r → Fronted xs 0 (length xs) r
stands xs r e = found_fronted xs 0 (length xs) (omega arith) (omega arith) r (sym e)

abbrev pub lent : ℕ → ℕ → List ℕ → List ℕ
lent from to xs = take (to - from) (drop from xs)

lent_part : (n : ℕ) (xs : List ℕ) → part (0 + item_head) n xs ≡ lent item_head (item_head + n) xs
lent_part n xs = sym (lent_is item_head n xs)

lent_behind : (next : ℕ) (xs : List ℕ) → part next (length xs - next) xs ≡ lent next (length xs) xs
unfolding part
lent_behind next xs = refl

shorter_lem : (next : ℕ) (xs : List ℕ) → 0 < next → next ≤ length xs → length (lent next (length xs) xs) < length xs
shorter_lem next xs more there = let l = length_part next (length xs - next) xs (omega arith) in omega (arith, ap length (lent_behind next xs), l)

pub none_here : (xs : List ℕ) → is_some (read_items xs) ≡ true → item_at xs 0 (length xs) ≡ std.None → items_in xs ≡ end
none_here xs sound e = front_none xs sound (ap front (sym (whole xs)) ∙ (stands xs std.None e).is)

module _ (xs : List ℕ) (sound : is_some (read_items xs) ≡ true) (t k n next : ℕ) (e : item_at xs 0 (length xs) ≡ std.Some (Value t k n next)) where
  pub value_inside : (item_head + n ≤ next) × (next ≤ length xs)
  value_inside = let i = (stands xs (std.Some (Value t k n next)) e).inside in omega (arith, i.0, i.1)

  pub value_here : (items_in xs ≡ value t k (lent item_head (item_head + n) xs) (items_in (lent next (length xs) xs)))
      × (is_some (read_items (lent next (length xs) xs)) ≡ true)
  value_here =
      front_value xs sound t k (lent item_head (item_head + n) xs) (lent next (length xs) xs)
      (ap front (sym (whole xs)) ∙ (stands xs (std.Some (Value t k n next)) e).is ∙ rw (lent_part n xs, lent_behind next xs))

  pub value_shorter : length (lent next (length xs) xs) < length xs
  value_shorter = let i = value_inside in shorter_lem next xs (omega (arith, i.0)) i.1

module _ (xs : List ℕ) (sound : is_some (read_items xs) ≡ true) (t n : ℕ) (e : item_at xs 0 (length xs) ≡ std.Some (Structure t n)) where
  pub structure_inside : item_head + n ≤ length xs
  structure_inside = let i = (stands xs (std.Some (Structure t n)) e).inside in omega (arith, i)

  pub structure_here : (items_in xs
      ≡ structure t (items_in (lent item_head (item_head + n) xs)) (items_in (lent (item_head + n) (length xs) xs)))
      × (is_some (read_items (lent item_head (item_head + n) xs)) ≡ true) × (is_some (read_items (lent (item_head + n) (length xs) xs)) ≡ true)
  structure_here =
      front_structure xs sound t (lent item_head (item_head + n) xs) (lent (item_head + n) (length xs) xs)
      (ap front (sym (whole xs)) ∙ (stands xs (std.Some (Structure t n)) e).is ∙ rw (lent_part n xs, lent_behind (item_head + n) xs))

  pub structure_shorter : length (lent (item_head + n) (length xs) xs) < length xs
  structure_shorter = shorter_lem (item_head + n) xs (omega arith) structure_inside
