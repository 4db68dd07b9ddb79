-- The items of some numbers, one by one.
-- Assumes nothing.
use mathlib.Core.Path.{◌≡◌, refl, ap, ◌∙◌}
use mathlib.Core.List.{List, [], ◌∷◌, ◌++◌}
use Prim.Native.Nat.{ℕ, zero, suc, ◌-◌, ◌*◌, ◌/◌, ◌<◌, ◌≤◌}
use native.Mathlib.Omega.{arith}
use lib.ListN.{length, take, drop, get_or}
use lib.Seq.{length-take-le}
use Rattle.std.specs.Simd.{first_chunks}
use Rattle.std.proofs.lemmas.List.{get_or-take}
use Rattle.ttlv.specs.declared.Item.{Item}
use Rattle.ttlv.specs.Listing.{item_places, items_most, all_numbers, first_item, items_in}
use Rattle.ttlv.specs.Pieces.{items_of, FirstItems}
use Rattle.ttlv.proofs.FrontLaws.{drop_take}

first_take : (m : ℕ) (ns : List ℕ) → item_places ≤ m → first_item (take m ns) ≡ first_item ns
first_take m ns h =
    let g : (k : ℕ) → k < item_places → get_or (take m ns) k 0 ≡ get_or ns k 0 = (λ k l. get_or-take m ns k 0 (omega arith)) in
    rw (g 0 (omega arith), g 1 (omega arith), g 2 (omega arith), g 3 (omega arith), g 4 (omega arith))

-- the numbers of an item are five
chunks_items : (n : ℕ) (ns : List ℕ) → items_of (first_chunks item_places n ns) ≡ items_in n ns
unfolding items_in
chunks_items zero ns = refl
chunks_items (suc n) ns = rw (first_take item_places ns (omega arith), chunks_items n (drop item_places ns))

items_take : (n m : ℕ) (ns : List ℕ) → item_places * n ≤ m → items_in n (take m ns) ≡ items_in n ns
unfolding items_in
items_take zero m ns h = refl
items_take (suc n) m ns h =
    rw (first_take m ns (omega arith), drop_take item_places m ns, items_take n (m - item_places) (drop item_places ns) (omega arith))

-- so many numbers, as arrays
pub arrays_items : (n : ℕ) (ns given : List ℕ) (arrays : List (List ℕ)) → n ≤ items_most → item_places * n ≤ length ns
    → given ≡ take (item_places * n - 0) ns → arrays ≡ first_chunks item_places (length given / item_places) given
    → FirstItems n ns arrays
arrays_items n ns given arrays few there lent is =
    let z : item_places * n - 0 ≡ item_places * n = omega arith in
    let cut : given ≡ take (item_places * n) ns = rw (← z) lent in
    let l : length given ≡ item_places * n = ap length cut ∙ length-take-le (item_places * n) ns there in
    let e : length given / item_places ≡ n = omega arith in
    let items : items_of arrays ≡ items_in n ns =
    ap items_of (is ∙ ap (λ k. first_chunks item_places k given) e)
    ∙ chunks_items n given
    ∙ ap (items_in n) cut
    ∙ items_take n (item_places * n) ns (omega arith)
    in
    record { few = few; there = there; items = items }

-- the numbers of a list are taken for that list, whatever stands behind them
pub numbers_back : (is : List Item) (rest : List ℕ) → items_in (length is) (all_numbers is ++ rest) ≡ is
unfolding items_in all_numbers
numbers_back [] rest = refl
numbers_back (i ∷ is) rest = ap (λ js. i ∷ js) (numbers_back is rest)
