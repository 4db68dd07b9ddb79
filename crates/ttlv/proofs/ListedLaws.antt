-- The list of items that stand in some bytes: its tree is these items.
-- Assumes nothing.
use mathlib.Core.Path.{◌≡◌, refl, sym, ap, ◌∙◌}
use mathlib.Core.Bool.{true, true≢false}
use mathlib.Core.Option.{Option, none, some}
use mathlib.Core.List.{List, [], ◌∷◌, ◌++◌, append_assoc, append-nil}
use Prim.Native.Nat.{ℕ, zero, suc, ◌+◌, ◌-◌, ◌<◌, ◌≤◌}
use native.Mathlib.Omega.{arith}
use lib.ListN.{length, take, drop, length-append, length-drop}
use lib.Seq.{take_at, drop_at, drop-drop}
use Rattle.cells.specs.Cells.{part}
use Rattle.cells.proofs.CellsLaws.{length_zeros}
use Rattle.rules.specs.Ttlv.{Items, end, value, structure, Structure, head, item_head, to_eight, padding, encode, size}
use Rattle.rules.specs.Ttlv.{is_value, FitItems, AreBytes, read_items}
use Rattle.rules.proofs.TtlvFrontLaws.{length_head}
use Rattle.ttlv.specs.declared.Item.{Item}
use Rattle.ttlv.specs.ItemList.{item, listed, list_of, list_at}
use Rattle.rules.proofs.TtlvLaws.{ttlv_promised}
use Rattle.ttlv.specs.Listing.{items_in, read_list}
use Rattle.ttlv.specs.ListTrees.{ListedAsItems}
use Rattle.ttlv.proofs.WrittenLaws.{lists_promised}
use Rattle.ttlv.specs.Writing.{deeper, behind, tree_by, tree_of}
use Rattle.ttlv.proofs.TreeLaws.{deeper_more, deeper_none, deeper_nil, behind_more, behind_none, behind_nil, tree_structure, tree_value}

-- ------------------------------------------------------------------------
-- Bytes that stand in xs from `at` on

pub size_encode : (items : Items) → length (encode items) ≡ size items
unfolding encode size
size_encode end = refl
size_encode (value tag type v is) =
    simp (length-append, length_head, length_zeros, size_encode is) (omega arith)
size_encode (structure tag ms is) = simp (length-append, length_head, size_encode ms, size_encode is) (omega arith)

stands_behind : (xs a b rest : List ℕ) (at n : ℕ) → drop at xs ≡ (a ++ b) ++ rest → length a ≡ n → drop (at + n) xs ≡ b ++ rest
stands_behind xs a b rest at n e l = sym (drop-drop n at xs) ∙ ap (drop n) (e ∙ append_assoc a b rest) ∙ drop_at a (b ++ rest) n l

stands_inside : (xs a b rest : List ℕ) (at : ℕ) → drop at xs ≡ (a ++ b) ++ rest → 0 < length a → at + length a ≤ length xs
stands_inside xs a b rest at e h = omega (arith, length-drop at xs, simp length-append at (ap length e))

module _ (xs rest : List ℕ) (at tag type : ℕ) (v : List ℕ) (is : Items) (s : drop at xs ≡ encode (value tag type v is) ++ rest) where
  behind_head : drop (at + item_head) xs ≡ (v ++ (padding (length v) ++ encode is)) ++ rest
  unfolding encode
  behind_head = stands_behind xs (head tag type (length v)) _ rest at item_head s (length_head tag type (length v))

  value_there : part (at + item_head) (length v) xs ≡ v
  unfolding part
  value_there =
      ap (take (length v)) (behind_head ∙ append_assoc v (padding (length v) ++ encode is) rest)
      ∙ take_at v ((padding (length v) ++ encode is) ++ rest) (length v) refl

  value_behind : drop (at + item_head + to_eight (length v)) xs ≡ encode is ++ rest
  value_behind =
      let n = length v in
      let p : drop (at + item_head + n) xs ≡ (padding n ++ encode is) ++ rest =
      stands_behind xs v (padding n ++ encode is) rest (at + item_head) n behind_head refl in
      let k : at + item_head + n + (to_eight n - n) ≡ at + item_head + to_eight n = omega arith in
      ap (λ j. drop j xs) (sym k) ∙ stands_behind xs (padding n) (encode is) rest (at + item_head + n) (to_eight n - n) p (length_zeros (to_eight n - n))

  value_inside : at + item_head + length v ≤ length xs
  unfolding encode
  value_inside =
      let h = head tag type (length v) in
      let lh = length_head tag type (length v) in
      let a : drop at xs ≡ ((h ++ v) ++ (padding (length v) ++ encode is)) ++ rest =
      s ∙ ap (λ x. x ++ rest) (sym (append_assoc h v (padding (length v) ++ encode is))) in
      omega (arith, length-append h v, stands_inside xs (h ++ v) _ rest at a (omega (arith, length-append h v)))

module _ (xs rest : List ℕ) (at tag : ℕ) (ms is : Items) (s : drop at xs ≡ encode (structure tag ms is) ++ rest) where
  members_there : drop (at + item_head) xs ≡ encode ms ++ (encode is ++ rest)
  unfolding encode
  members_there =
      stands_behind xs (head tag Structure (length (encode ms))) (encode ms ++ encode is) rest at item_head s
      (length_head tag Structure (length (encode ms)))
      ∙ append_assoc (encode ms) (encode is) rest

  members_behind : drop (at + item_head + size ms) xs ≡ encode is ++ rest
  members_behind =
      sym (drop-drop (size ms) (at + item_head) xs)
      ∙ ap (drop (size ms)) members_there
      ∙ drop_at (encode ms) (encode is ++ rest) (size ms) (size_encode ms)

-- ------------------------------------------------------------------------
-- A structure's members, and what is behind it

deeper_listed : (items : Items) (d e at : ℕ) (js : List Item) → d < e → deeper d (listed e at items ++ js) ≡ listed e at items ++ deeper d js
unfolding listed
deeper_listed end d e at js h = refl
deeper_listed (value tag type v is) d e at js h =
    let i = item tag type e (at + item_head) (length v) in
    deeper_more d i _ h ∙ ap (λ x. i ∷ x) (deeper_listed is d e (at + item_head + to_eight (length v)) js h)
deeper_listed (structure tag ms is) d e at js h =
    let i = item tag Structure e (at + item_head) (size ms) in
    let inner = listed (suc e) (at + item_head) ms in
    let next = listed e (at + item_head + size ms) is in
    deeper_more d i _ h
    ∙ ap (λ x. i ∷ x)
    (ap (deeper d) (append_assoc inner next js)
    ∙ deeper_listed ms d (suc e) (at + item_head) (next ++ js) (omega arith)
    ∙ ap (λ x. inner ++ x) (deeper_listed is d e (at + item_head + size ms) js h)
    ∙ sym (append_assoc inner next (deeper d js)))

behind_listed : (items : Items) (d e at : ℕ) (js : List Item) → d < e → behind d (listed e at items ++ js) ≡ behind d js
unfolding listed
behind_listed end d e at js h = refl
behind_listed (value tag type v is) d e at js h =
    behind_more d (item tag type e (at + item_head) (length v)) _ h ∙ behind_listed is d e (at + item_head + to_eight (length v)) js h
behind_listed (structure tag ms is) d e at js h =
    let inner = listed (suc e) (at + item_head) ms in
    let next = listed e (at + item_head + size ms) is in
    behind_more d (item tag Structure e (at + item_head) (size ms)) _ h
    ∙ ap (behind d) (append_assoc inner next js)
    ∙ behind_listed ms d (suc e) (at + item_head) (next ++ js) (omega arith)
    ∙ behind_listed is d e (at + item_head + size ms) js h

-- items at depth d are no members of another at depth d
deeper_same : (items : Items) (d e at : ℕ) (js : List Item) → e ≤ d → deeper d js ≡ [] → deeper d (listed e at items ++ js) ≡ []
unfolding listed
deeper_same end d e at js h n = n
deeper_same (value tag type v is) d e at js h n = deeper_none d (item tag type e (at + item_head) (length v)) _ h
deeper_same (structure tag ms is) d e at js h n = deeper_none d (item tag Structure e (at + item_head) (size ms)) _ h

behind_same : (items : Items) (d at : ℕ) → behind d (listed d at items) ≡ listed d at items
unfolding listed
behind_same end d at = behind_nil d
behind_same (value tag type v is) d at = behind_none d (item tag type d (at + item_head) (length v)) _ (omega arith)
behind_same (structure tag ms is) d at = behind_none d (item tag Structure d (at + item_head) (size ms)) _ (omega arith)

no_structure : (k n : ℕ) → is_value k n ≡ true → k ≡ Structure → ⊥
unfolding is_value
no_structure k n v e = true≢false (sym v ∙ rw e)

-- ------------------------------------------------------------------------
-- Its tree

listed_tree : (xs : List ℕ) (items : Items) (steps d at : ℕ) (rest : List ℕ) → length (listed d at items) ≤ steps → FitItems items
    → drop at xs ≡ encode items ++ rest → tree_by steps xs (listed d at items) ≡ items
unfolding listed FitItems tree_by
listed_tree xs end zero d at rest l f s = refl
listed_tree xs end (suc steps) d at rest l f s = refl
listed_tree xs (value tag type v is) zero d at rest l f s = absurd (omega arith)
listed_tree xs (value tag type v is) (suc steps) d at rest l f s =
    let next = listed d (at + item_head + to_eight (length v)) is in
    tree_value steps xs (item tag type d (at + item_head) (length v)) next (no_structure type (length v) f.1)
    ∙ rw (value_there xs rest at tag type v is s)
    (ap (value tag type v) (listed_tree xs is steps d _ rest (omega arith) f.4 (value_behind xs rest at tag type v is s)))
listed_tree xs (structure tag ms is) zero d at rest l f s = absurd (omega arith)
listed_tree xs (structure tag ms is) (suc steps) d at rest l f s =
    let inner = listed (suc d) (at + item_head) ms in
    let next = listed d (at + item_head + size ms) is in
    let la = length-append inner next in
    let m : deeper d (inner ++ next) ≡ inner =
    deeper_listed ms d (suc d) (at + item_head) next (omega arith)
    ∙ ap (λ x. inner ++ x) (ap (deeper d) (sym (append-nil next)) ∙ deeper_same is d d (at + item_head + size ms) [] (omega arith) (deeper_nil d))
    ∙ append-nil inner in
    let b : behind d (inner ++ next) ≡ next =
    behind_listed ms d (suc d) (at + item_head) next (omega arith) ∙ behind_same is d (at + item_head + size ms) in
    tree_structure steps xs (item tag Structure d (at + item_head) (size ms)) (inner ++ next) refl
    ∙ rw (m, b)
    (rw (
      listed_tree xs ms steps (suc d) (at + item_head) (encode is ++ rest) (omega arith) f.2 (members_there xs rest at tag ms is s),
      listed_tree xs is steps d (at + item_head + size ms) rest (omega arith) f.3 (members_behind xs rest at tag ms is s),
    ))

-- the list of some items, with their encoding for its values
pub tree_listed : (xs : List ℕ) (items : Items) → xs ≡ encode items → FitItems items → tree_of xs (listed 1 0 items) ≡ items
tree_listed xs items e f = listed_tree xs items (length (listed 1 0 items)) 1 0 [] (omega arith) f (e ∙ sym (append-nil (encode items)))

-- ------------------------------------------------------------------------
-- What was read

some_same : {A : Type 0} (a b : A) → some a ≡ some b → a ≡ b
some_same a b e = cc

module _ (xs : List ℕ) (bytes : AreBytes xs) (is : List Item) where
  by_items : (o : Option Items) → read_items xs ≡ o → some is ≡ list_of 1 0 o → o ≡ some (tree_of xs is)
  unfolding list_of
  by_items none e s = cc
  by_items (some items) e s =
      let w = (ttlv_promised.reads_when xs items bytes).0 e in
      ap some (sym (ap (tree_of xs) (some_same is (listed 1 0 items) s) ∙ tree_listed xs items w.0 w.1))

pub listed_as_items : ListedAsItems
unfolding list_at
listed_as_items xs places n bytes e =
    let is = items_in n (read_list xs places).places in
    by_items xs bytes is (read_items xs) refl (lists_promised.listed_so xs places n e)
