-- What item lists promise is kept.
-- Assumes nothing.
use mathlib.Core.Path.{◌≡◌, sym, ap, ◌∙◌}
use mathlib.Core.Bool.{true, ◌||◌}
use mathlib.Core.List.{List, ◌++◌}
use mathlib.Core.Option.{Option, none, some}
use Prim.Native.Nat.{ℕ, ◌*◌, ◌^◌, ◌<◌}
use native.Mathlib.Omega.{arith}
use lib.ListN.{length, take, drop}
use lib.Seq.{take_at}
use lib.Dec.{ltb}
use borrow.Author.Tests.{ltb-true}
use Rattle.cells.proofs.PredicatesLaws.{and_left, and_right}
use Rattle.rules.specs.Ttlv.{AreBytes, encode, read_items}
use Rattle.rules.proofs.TtlvFrontLaws.{on_cond}
use Rattle.ttlv.specs.declared.Item.{Item}
use Rattle.std.specs.Prelude.{Result, Ok}
use Rattle.ttlv.specs.ItemList.{list_at}
use Rattle.ttlv.specs.Listing.{Reading, item_places, items_most, message_most, all_numbers, items_in, laid, read_list}
use Rattle.ttlv.specs.Writing.{Wrote, tree_of, good_from, good_list, room_for, written_items, write_list}
use Rattle.ttlv.specs.ListPromises.{ListsPromised}
use Rattle.ttlv.proofs.ItemsInLaws.{numbers_back}
use Rattle.ttlv.proofs.TreeLaws.{room_tree}
use Rattle.ttlv.proofs.GoodLaws.{good_from_lem, good_inside, written_back}

-- ------------------------------------------------------------------------
-- Reading

same_count : {E : Type 0} (m n : ℕ) → ◌≡◌ {A = Result ℕ E} (Ok m) (Ok n) → m ≡ n
same_count m n e = cc

module _ (n : ℕ) (o : Option (List Item)) where
  abbrev So : Reading → Type 0
  So r = r.result ≡ Ok n → some (items_in n r.places) ≡ o

so_laid : (n : ℕ) (places : List ℕ) (o : Option (List Item)) → So n o (laid places o)
so_laid n places none e = cc
so_laid n places (some is) e =
    let rest = drop (item_places * length is) places in
    ap some (ap (λ k. items_in k (all_numbers is ++ rest)) (sym (same_count (length is) n e)) ∙ numbers_back is rest)

so : (xs places : List ℕ) (n : ℕ) → So n (list_at 1 0 xs) (read_list xs places)
unfolding read_list
so xs places n =
    on_cond (So n (list_at 1 0 xs)) (ltb (length places) (item_places * items_most)) _ _
    (λ h e. cc)
    (λ h. on_cond (So n (list_at 1 0 xs)) (ltb message_most (length xs)) _ _ (λ k e. cc) (λ k. so_laid n places (list_at 1 0 xs)))

-- ------------------------------------------------------------------------
-- Writing

module _ (values : List ℕ) (is : List Item) (n : ℕ) (b : AreBytes values) where
  abbrev Back : Wrote → Type 0
  Back w = w.result ≡ Ok n → read_items (take n w.out) ≡ some (tree_of values is)

  back_all : (out : List ℕ) → good_list (length values) is ≡ true
      → Back (record { result = Ok (room_for is); out = encode (tree_of values is) ++ drop (room_for is) out })
  back_all out g e =
      let good = good_from_lem values 1 is (and_left _ _ g) in
      let small : room_for is < 2 ^ 32 = ltb-true (room_for is) (2 ^ 32) (and_right (good_from (length values) 1 is) _ g) in
      let l : length (encode (tree_of values is)) ≡ n =
      room_tree values (length is) is (omega arith) (good_inside values is good) ∙ same_count (room_for is) n e in
      ap read_items (take_at (encode (tree_of values is)) (drop (room_for is) out) n l) ∙ written_back values is b good small

  back_items : (out : List ℕ) → Back (written_items values is out)
  unfolding written_items
  back_items out =
      on_cond Back (ltb (length out) (room_for is)) _ _
      (λ h e. cc)
      (λ h. on_cond Back (good_list (length values) is) _ _ (λ g. back_all out g) (λ g e. cc))

back : (items : List ℕ) (count : ℕ) (values out : List ℕ) (n : ℕ) → AreBytes values → ((write_list items count values out).result ≡ Ok n)
    → read_items (take n (write_list items count values out).out) ≡ some (tree_of values (items_in count items))
unfolding write_list
back items count values out n b =
    on_cond (Back values (items_in count items) n b) (ltb items_most count || ltb (length items) (item_places * count)) _ _
    (λ h e. cc)
    (λ h. back_items values (items_in count items) n b out)

pub lists_promised : ListsPromised
lists_promised = record { listed_so = so; written_back = back }
