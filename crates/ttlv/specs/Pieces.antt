-- The bytes of a list, item by item, each with the length that it is written
-- with; and what the writer's own functions are lent.
-- Assumes nothing.
use Rattle.std.specs.Prelude.{◌≡◌, cond, List, [], ◌∷◌, ◌++◌, ℕ, ◌+◌, ◌*◌, ◌^◌, ◌<◌, ◌≤◌, ◌⊎◌}
use Rattle.std.specs.Prelude.{length, take, drop, map}
use Rattle.cells.specs.Cells.{part}
use Rattle.rules.specs.Ttlv.{Structure, head, item_head, to_eight, padding, encode}
use Rattle.ttlv.specs.declared.Item.{Item}
use Rattle.ttlv.specs.ItemList.{item}
use Rattle.ttlv.specs.Listing.{item_places, items_most, first_item, items_in}
use Rattle.ttlv.specs.Writing.{is_structure, deeper, tree_of, room_of, room_for}

-- the items of arrays of numbers
abbrev pub items_of : List (List ℕ) → List Item
items_of arrays = map first_item arrays

-- a structure is its head; its members are the items behind it
unfoldable pub piece_of : List ℕ → Item → List ℕ
piece_of values i = head i.tag i.kind i.length ++ cond (is_structure i) [] (part i.start i.length values ++ padding i.length)

unfoldable pub pieces : List ℕ → List Item → List ℕ
pieces values [] = []
pieces values (i ∷ is) = piece_of values i ++ pieces values is

-- a structure is written with the length of its members
abbrev pub with_length : Item → ℕ → Item
with_length i n = cond (is_structure i) (item i.tag Structure i.depth i.start n) i

unfoldable pub sized : List Item → List Item
sized [] = []
sized (i ∷ is) = with_length i (room_for (deeper i.depth is)) ∷ sized is

-- the item can be written: its type is a byte, and its value is there, if it has one
pub record Inside (values : List ℕ) (i : Item) : Type 0 where
  pub kind_fits : i.kind < 256
  pub there : (i.kind ≡ Structure → ⊥) → i.start + i.length ≤ length values

unfoldable pub AllInside : List ℕ → List Item → Type 0
AllInside values [] = Unit {0}
AllInside values (i ∷ is) = Inside values i × AllInside values is

-- a value and its padding behind the place of a head
unfoldable pub value_put : List ℕ → List ℕ → List ℕ
value_put v out = take item_head out ++ ((v ++ padding (length v)) ++ drop (item_head + to_eight (length v)) out)

-- ------------------------------------------------------------------------
-- What the writer's own functions are lent, and leave

-- there are not so many items, or too many
abbrev pub Absent : ℕ → List ℕ → Type 0
Absent count ns = (items_most < count) ⊎ (length ns < item_places * count)

-- there are so many, and not too many; these are their numbers
pub record FirstItems (count : ℕ) (ns : List ℕ) (arrays : List (List ℕ)) : Type 0 where
  pub few : count ≤ items_most
  pub there : item_places * count ≤ length ns
  pub items : items_of arrays ≡ items_in count ns

-- the bytes of an item, whose length has four bytes
pub record Room (i : Item) (r : ℕ) : Type 0 where
  pub is : r ≡ room_of i
  pub small : r ≤ 2 ^ 32 + 16

pub record Layable (is : List Item) (values out : List ℕ) : Type 0 where
  pub inside : AllInside values is
  pub room : room_for is ≤ length out
  pub fits : room_for is < 2 ^ 32

pub record LaidOut (is : List Item) (values out : List ℕ) (r : ℕ) (now : List ℕ) : Type 0 where
  pub all : r ≡ room_for is
  pub bytes : now ≡ encode (tree_of values is) ++ drop r out
