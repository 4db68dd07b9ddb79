-- What item lists promise.
-- Assumes nothing.
use Rattle.std.specs.Prelude.{◌≡◌, List, ℕ, take, Ok}
use Rattle.std.proofs.Math.Option.{some}
use Rattle.rules.specs.Ttlv.{AreBytes, read_items}
use Rattle.ttlv.specs.ItemList.{list_at}
use Rattle.ttlv.specs.Listing.{items_in, read_list}
use Rattle.ttlv.specs.Writing.{tree_of, write_list}

pub record ListsPromised : Type 0 where
  -- What a reading leaves in the places is, taken for a list, the list of the bytes.
  pub listed_so : (xs places : List ℕ) (n : ℕ) → (read_list xs places).result ≡ Ok n
      → some (items_in n (read_list xs places).places) ≡ list_at 1 0 xs
  -- What is written of a list is read back as its tree.
  pub written_back : (items : List ℕ) (count : ℕ) (values out : List ℕ) (n : ℕ) → AreBytes values
      → (write_list items count values out).result ≡ Ok n
      → read_items (take n (write_list items count values out).out) ≡ some (tree_of values (items_in count items))
