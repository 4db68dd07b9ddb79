-- What is promised of item lists, of the code: the statements of `ttlv` `ListPromises`
-- and `ListTrees`, here of what `read` and `write` of `ttlv` leave (Leaves.antt).
-- proofs/Lists.antt has a proof of each.
-- Assumes nothing.
use Rattle.std.specs.Prelude.{◌≡◌, List, ℕ, take, Ok}
use Rattle.std.proofs.Math.Option.{some}
use Rattle.rules.specs.Ttlv.{AreBytes, read_items}
use Rattle.ttlv.specs.ItemList.{list_at}
use Rattle.ttlv.specs.Listing.{items_in, Reading}
use Rattle.ttlv.specs.Writing.{tree_of, Wrote}
use Rattle.promises.specs.Leaves.{ListReadLeaves, ListWriteLeaves}

pub record ListDemands : Type 0 where
  -- What a reading leaves in the places is, taken for a list, the list of the bytes,
  pub listed_so : (xs places : List ℕ) (o : Reading) → ListReadLeaves xs places o → (n : ℕ) → o.result ≡ Ok n
      → some (items_in n o.places) ≡ list_at 1 0 xs
  -- and its tree, with these bytes for its values, is the items of the bytes.
  pub listed_as_items : (xs places : List ℕ) (o : Reading) → ListReadLeaves xs places o → AreBytes xs → (n : ℕ) → o.result ≡ Ok n
      → read_items xs ≡ some (tree_of xs (items_in n o.places))
  -- What is written of a list is read back as its tree.
  pub written_back : (items : List ℕ) (count : ℕ) (values out : List ℕ) (o : Wrote) → ListWriteLeaves items count values out o
      → AreBytes values → (n : ℕ) → o.result ≡ Ok n
      → read_items (take n o.out) ≡ some (tree_of values (items_in count items))
