-- Item lists as numbers that a caller lends: five of them an item. Any numbers
-- can be taken for a list.
-- Assumes nothing.
use Rattle.std.specs.Prelude.{cond, List, [], ◌∷◌, ◌++◌, ℕ, zero, suc, ◌*◌, length, drop, get_or, ltb, Result, Ok, Err}
use Rattle.std.proofs.Math.Option.{Option, none, some}
use Rattle.ttlv.specs.declared.Item.{Item}
use Rattle.ttlv.specs.declared.ReadError.{ReadError}
use Rattle.ttlv.specs.declared.ReadError.TheVariants.{NoPlaces, NoItems}
use Rattle.ttlv.specs.ItemList.{item, list_at}

abbrev pub item_places : ℕ
item_places = 5

-- "a message of up to 508 bytes"; an item takes 8 of them or more
abbrev pub message_most : ℕ
message_most = 508

abbrev pub items_most : ℕ
items_most = 63

abbrev pub numbers_of : Item → List ℕ
numbers_of i = i.tag ∷ i.kind ∷ i.depth ∷ i.start ∷ i.length ∷ []

unfoldable pub all_numbers : List Item → List ℕ
all_numbers [] = []
all_numbers (i ∷ is) = numbers_of i ++ all_numbers is

-- the item that stands at the front of some numbers, and the first n
abbrev pub first_item : List ℕ → Item
first_item ns = item (get_or ns 0 0) (get_or ns 1 0) (get_or ns 2 0) (get_or ns 3 0) (get_or ns 4 0)

unfoldable pub items_in : ℕ → List ℕ → List Item
items_in zero ns = []
items_in (suc n) ns = first_item ns ∷ items_in n (drop item_places ns)

-- ------------------------------------------------------------------------
-- Reading bytes as a list: first whether the lent places are enough for any message, then the bytes. What is refused leaves the places
-- as they were.

pub record Reading : Type 0 where
  pub result : Result ℕ ReadError
  pub places : List ℕ

abbrev pub laid : List ℕ → Option (List Item) → Reading
laid places none = record { result = Err NoItems; places = places }
laid places (some is) = record { result = Ok (length is); places = all_numbers is ++ drop (item_places * length is) places }

unfoldable pub read_list : List ℕ → List ℕ → Reading
read_list xs places =
    cond (ltb (length places) (item_places * items_most))
    (record { result = Err NoPlaces; places = places })
    (cond (ltb message_most (length xs)) (record { result = Err NoItems; places = places }) (laid places (list_at 1 0 xs)))
