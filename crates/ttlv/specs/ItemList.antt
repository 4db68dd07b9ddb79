-- Items as a list, in the order of their bytes: each with its depth and with the
-- place where its value stands in the bytes.
-- Assumes nothing.
use Rattle.std.specs.Prelude.{Bool, true, false, List, [], ◌∷◌, ◌++◌, ℕ, suc, ◌+◌, length}
use Rattle.std.proofs.Math.Option.{Option, none, some}
use Rattle.rules.specs.Ttlv.{Items, end, value, structure, Structure, item_head, to_eight, size, read_at}
use Rattle.ttlv.specs.declared.Item.{Item}

abbrev pub is_some : {A : Type 0} → Option A → Bool
is_some none = false
is_some (some a) = true

abbrev pub item : ℕ → ℕ → ℕ → ℕ → ℕ → Item
item tag type d start n = record { tag = tag; kind = type; depth = d; start = start; length = n }

-- the list of items at depth d whose encoding starts at `at`: a structure, its members, and then what is behind it
unfoldable pub listed : ℕ → ℕ → Items → List Item
listed d at end = []
listed d at (value tag type bytes behind) =
    item tag type d (at + item_head) (length bytes) ∷ listed d (at + item_head + to_eight (length bytes)) behind
listed d at (structure tag members behind) =
    item tag Structure d (at + item_head) (size members)
    ∷ (listed (suc d) (at + item_head) members ++ listed d (at + item_head + size members) behind)

unfoldable pub list_of : ℕ → ℕ → Option Items → Option (List Item)
list_of d at none = none
list_of d at (some items) = some (listed d at items)

-- the list that some bytes give, which start at `at` and stand at depth d
unfoldable pub list_at : ℕ → ℕ → List ℕ → Option (List Item)
list_at d at xs = list_of d at (read_at d xs)

-- one list behind the other, where both are there
unfoldable pub join : Option (List Item) → Option (List Item) → Option (List Item)
join none more = none
join (some is) none = none
join (some is) (some more) = some (is ++ more)
