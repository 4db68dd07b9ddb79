-- The rooms of items as sums.
-- Assumes nothing.
use mathlib.Core.Path.{◌≡◌, refl, sym, ap, ◌∙◌}
use mathlib.Core.List.{List, [], ◌∷◌, map}
use mathlib.Core.Bool.{Bool, not, false}
use Prim.Native.Nat.{ℕ, suc, ◌+◌, ◌≤◌}
use native.Mathlib.Omega.{arith}
use lib.ListN.{length, take}
use lib.Dec.{leb, ltb}
use Rattle.std.specs.List.{sum, position, position_or_len}
use Rattle.std.specs.Option.{unwrap_or}
use Rattle.std.specs.Prelude.{Some, None}
use Rattle.rules.proofs.TtlvFrontLaws.{on_cond}
use Rattle.std.proofs.lemmas.List.Sums.{sum_by-cons, prefix_len-le-length}
use Rattle.ttlv.specs.Listing.{first_item}
use Rattle.ttlv.specs.Pieces.{items_of}
use borrow.Author.Tests.{lt-leb, le-leb, ltb-false}
use mathlib.Core.Logic.{by_cases}
use native.Mathlib.Decide.{dec_lt}
use Rattle.ttlv.proofs.TreeLaws.{room_split, deeper_more, deeper_none, deeper_nil}
use Rattle.ttlv.specs.Writing.{deeper, room_of, room_for}

pub rooms_sum : (arrays : List (List ℕ)) → sum (map (λ ns. room_of (first_item ns)) arrays) ≡ room_for (items_of arrays)
unfolding room_for
rooms_sum [] = refl
rooms_sum (ns ∷ arrays) =
    let r = room_of (first_item ns) in
    sum_by-cons (λ n. n) r (map (λ ns. room_of (first_item ns)) arrays) ∙ ap (λ n. r + n) (rooms_sum arrays)

-- the deeper items in front end where the first other one stands
abbrev Other : ℕ → List ℕ → Bool
Other d ns = leb (first_item ns).depth d

deeper_prefix : (d : ℕ) (arrays : List (List ℕ)) → items_of (take (position_or_len (Other d) arrays) arrays) ≡ deeper d (items_of arrays)
deeper_prefix d [] = sym (deeper_nil d)
deeper_prefix d (ns ∷ arrays) =
    by_cases (dec_lt d (first_item ns).depth)
    (λ h.
    let no : leb (first_item ns).depth d ≡ false = lt-leb (first_item ns).depth d h in
    let e : 1 + position_or_len (Other d) arrays ≡ suc (position_or_len (Other d) arrays) = omega arith in
    rw (no, e) (ap (λ is. first_item ns ∷ is) (deeper_prefix d arrays)) ∙ sym (deeper_more d (first_item ns) (items_of arrays) h))
    (λ h. rw (le-leb (first_item ns).depth d (omega arith)) (sym (deeper_none d (first_item ns) (items_of arrays) (omega arith))))

pub deeper_take : (d : ℕ) (arrays : List (List ℕ))
    → items_of (take (unwrap_or (position (Other d) arrays) (length arrays)) arrays) ≡ deeper d (items_of arrays)
deeper_take d arrays =
    let k = position_or_len (Other d) arrays in
    let n = length arrays in
    let there : unwrap_or (position (Other d) arrays) n ≡ k =
    on_cond (λ o. unwrap_or o n ≡ k) (ltb k n) (Some k) None
    (λ e. refl)
    (λ e. omega (arith, ltb-false k n e, prefix_len-le-length (λ ns. not (Other d ns)) arrays)) in
    ap (λ j. items_of (take j arrays)) there ∙ deeper_prefix d arrays

-- the deeper items are some of them
pub members_room : (d : ℕ) (arrays members : List (List ℕ)) → items_of members ≡ deeper d (items_of arrays)
    → room_for (items_of members) ≤ room_for (items_of arrays)
members_room d arrays members m = omega (arith, room_split d (items_of arrays), ap room_for m)
