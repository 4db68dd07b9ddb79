-- What the writer makes of any list: its items' values stand in other bytes, the
-- depths say which item is a member of which, and a structure's own start and
-- length are not looked at.
-- Assumes nothing.
use Rattle.std.specs.Prelude.{Bool, true, false, ◌&&◌, ◌||◌, cond, List, [], ◌∷◌, ◌++◌, ℕ, zero, suc, ◌+◌, ◌*◌, ◌^◌, length}
use Rattle.std.specs.Prelude.{drop, eqb, ltb, leb, Result, Ok, Err}
use Rattle.cells.specs.Cells.{part}
use Rattle.rules.specs.Ttlv.{Items, end, value, structure, Structure, item_head, to_eight, encode, deepest, is_value}
use Rattle.ttlv.specs.declared.Item.{Item}
use Rattle.ttlv.specs.declared.WriteError.{WriteError}
use Rattle.ttlv.specs.declared.WriteError.TheVariants.{Short, NoList}
use Rattle.ttlv.specs.Listing.{item_places, items_most, items_in}

abbrev pub is_structure : Item → Bool
is_structure i = eqb i.kind Structure

-- ------------------------------------------------------------------------
-- The tree of a list: a structure's members are the deeper items right behind it

unfoldable pub deeper : ℕ → List Item → List Item
deeper d [] = []
deeper d (i ∷ is) = cond (ltb d i.depth) (i ∷ deeper d is) []

unfoldable pub behind : ℕ → List Item → List Item
behind d [] = []
behind d (i ∷ is) = cond (ltb d i.depth) (behind d is) (i ∷ is)

unfoldable pub tree_by : ℕ → List ℕ → List Item → Items
tree_by zero values is = end
tree_by (suc steps) values [] = end
tree_by (suc steps) values (i ∷ is) =
    elim (is_structure i) [
      | true ↦ structure i.tag (tree_by steps values (deeper i.depth is)) (tree_by steps values (behind i.depth is))
      | false ↦ value i.tag i.kind (part i.start i.length values) (tree_by steps values is)
    ]

abbrev pub tree_of : List ℕ → List Item → Items
tree_of values is = tree_by (length is) values is

-- ------------------------------------------------------------------------
-- Which lists are item lists, with values among n bytes. The first item stands at depth one; the next at most one deeper than a structure,
-- and no deeper than a value.

unfoldable pub good_item : ℕ → ℕ → Item → Bool
good_item n most i =
    ltb i.tag (2 ^ 24)
    && leb 1 i.depth
    && leb i.depth most
    && leb i.depth deepest
    && (is_structure i || is_value i.kind i.length && leb (i.start + i.length) n)

abbrev pub most_behind : Item → ℕ
most_behind i = cond (is_structure i) (suc i.depth) i.depth

unfoldable pub good_from : ℕ → ℕ → List Item → Bool
good_from n most [] = true
good_from n most (i ∷ is) = good_item n most i && good_from n (most_behind i) is

-- the bytes that a list takes, whether it is an item list or not
unfoldable pub room_of : Item → ℕ
room_of i = item_head + cond (is_structure i) 0 (to_eight i.length)

unfoldable pub room_for : List Item → ℕ
room_for [] = 0
room_for (i ∷ is) = room_of i + room_for is

-- a length has four bytes
abbrev pub good_list : ℕ → List Item → Bool
good_list n is = good_from n 1 is && ltb (room_for is) (2 ^ 32)

-- ------------------------------------------------------------------------
-- Writing: 07 17 if there are not so many items, or too many; 07 0F for short output; 07 17 for what is no item list. Nothing is written
-- then. Else just the encoding, and the output behind it stays.

pub record Wrote : Type 0 where
  pub result : Result ℕ WriteError
  pub out : List ℕ

unfoldable pub written_items : List ℕ → List Item → List ℕ → Wrote
written_items values is out =
    cond (ltb (length out) (room_for is))
    (record { result = Err Short; out = out })
    (cond (good_list (length values) is)
    (record { result = Ok (room_for is); out = encode (tree_of values is) ++ drop (room_for is) out })
    (record { result = Err NoList; out = out }))

unfoldable pub write_list : List ℕ → ℕ → List ℕ → List ℕ → Wrote
write_list items count values out =
    cond (ltb items_most count || ltb (length items) (item_places * count))
    (record { result = Err NoList; out = out })
    (written_items values (items_in count items) out)
