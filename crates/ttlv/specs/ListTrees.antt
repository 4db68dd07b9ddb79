-- What else item lists promise: what a reading leaves in the places, taken for a list
-- with these bytes for its values, has the items of the bytes for its tree.
-- Assumes nothing.
use Rattle.std.specs.Prelude.{◌≡◌, List, ℕ, Ok}
use Rattle.std.proofs.Math.Option.{some}
use Rattle.rules.specs.Ttlv.{AreBytes, read_items}
use Rattle.ttlv.specs.Listing.{items_in, read_list}
use Rattle.ttlv.specs.Writing.{tree_of}

abbrev pub ListedAsItems : Type 0
ListedAsItems =
    (xs places : List ℕ) (n : ℕ) → AreBytes xs → (read_list xs places).result ≡ Ok n
    → read_items xs ≡ some (tree_of xs (items_in n (read_list xs places).places))
