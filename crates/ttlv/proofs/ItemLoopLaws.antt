-- A loop over the items of a list, item by item: what a turn leaves of a test of
-- each.
-- Assumes nothing.
use mathlib.Core.Path.{◌≡◌, sym, ap, ◌∙◌}
use mathlib.Core.Bool.{true, false}
use mathlib.Core.List.{List, [], ◌∷◌}
use Prim.Native.Nat.{ℕ, ◌+◌, ◌<◌, ◌≤◌}
use native.Mathlib.Numerals.{add-one}
use lib.ListN.{length, drop, get_or, drop_of_length-le}
use lib.Seq.{drop-cons}
use Rattle.ttlv.specs.declared.Item.{Item}
use Rattle.ttlv.specs.Listing.{first_item}
use Rattle.ttlv.specs.Pieces.{items_of}
use Rattle.ttlv.specs.Writing.{good_item, good_from, most_behind}
use Rattle.ttlv.proofs.GoodLaws.{from_good, from_bad, from_none}

-- item w stands in array i
pub next_item : (i : ℕ) (arrays : List (List ℕ)) (w : Item) → w ≡ first_item (get_or arrays i []) → i < length arrays
    → items_of (drop i arrays) ≡ w ∷ items_of (drop (i + 1) arrays)
next_item i arrays w e h = ap items_of (drop-cons arrays i [] h) ∙ rw (← e, add-one i)

pub no_item : (i : ℕ) (arrays : List (List ℕ)) → length arrays ≤ i → items_of (drop i arrays) ≡ []
no_item i arrays h = ap items_of (drop_of_length-le arrays {i = i} h)

module _ (n most : ℕ) (left : List Item) where
  pub good_more : (w : Item) (behind : List Item) (next : ℕ) → left ≡ w ∷ behind → good_item n most w ≡ true → next ≡ most_behind w
      → good_from n next behind ≡ good_from n most left
  good_more w behind next step g e = ap (λ k. good_from n k behind) e ∙ from_good n most w behind g ∙ ap (good_from n most) (sym step)

  pub good_stop : (w : Item) (behind : List Item) → left ≡ w ∷ behind → good_item n most w ≡ false → false ≡ good_from n most left
  good_stop w behind step g = from_bad n most w behind g ∙ ap (good_from n most) (sym step)

  pub good_end : left ≡ [] → true ≡ good_from n most left
  good_end last = from_none n most ∙ ap (good_from n most) (sym last)
