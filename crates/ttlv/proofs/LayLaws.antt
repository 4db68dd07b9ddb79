-- An item as it is written, and the bytes laid so far.
-- Assumes nothing.
use mathlib.Core.Path.{◌≡◌, refl, sym, ap, ◌∙◌}
use mathlib.Core.Logic.{by_cases}
use mathlib.Core.List.{List, [], ◌∷◌, ◌++◌, append_assoc, append-nil}
use Prim.Native.Nat.{ℕ, ◌+◌, ◌-◌, ◌^◌, ◌≤◌, ◌<◌}
use native.Mathlib.Decide.{ℕ_discrete}
use native.Mathlib.Omega.{arith}
use lib.ListN.{length, take, drop, get_or, length-append, length-drop, take-append-drop}
use lib.Seq.{take-length, take_at, drop_at, drop-drop, length-take-le}
use borrow.Author.Tests.{eq-eqb, ne_eqb}
use Rattle.cells.proofs.CellsLaws.{lent_rest, back_rest, lent_length_to}
use Rattle.rules.specs.Ttlv.{Structure, encode}
use Rattle.ttlv.specs.declared.Item.{Item}
use Rattle.ttlv.specs.ItemList.{item}
use Rattle.ttlv.specs.Writing.{deeper, tree_of, room_of, room_for}
use Rattle.ttlv.specs.Pieces.{items_of, piece_of, pieces, with_length, sized, Inside, AllInside, LaidOut}
use Rattle.ttlv.specs.Listing.{items_most, first_item}
use Rattle.ttlv.proofs.TreeLaws.{room_structure, room_nil, room_cons, sized_nil, sized_cons, inside_cons, pieces_nil, pieces_cons, pieces_tree, length_piece}

-- ------------------------------------------------------------------------
-- An item as it is written

pub written_value : (i : Item) (r : ℕ) → (i.kind ≡ Structure → ⊥) → i ≡ with_length i r
written_value i r n = sym (rw (ne_eqb i.kind Structure n))

pub written_structure : (i : Item) (r n : ℕ) → i.kind ≡ Structure → n ≡ r → item i.tag i.kind i.depth i.start n ≡ with_length i r
written_structure i r n e f = rw (eq-eqb i.kind Structure e, e, f)

room_written : (i : Item) (r : ℕ) → room_of (with_length i r) ≡ room_of i
room_written i r =
    by_cases (ℕ_discrete i.kind Structure)
    (λ e.
    ap room_of (sym (written_structure i r r e refl))
    ∙ room_structure (item i.tag i.kind i.depth i.start r) e
    ∙ sym (room_structure i e))
    (λ n. ap room_of (sym (written_value i r n)))

inside_written : (values : List ℕ) (i : Item) (r : ℕ) → Inside values i → Inside values (with_length i r)
inside_written values i r h =
    by_cases (ℕ_discrete i.kind Structure)
    (λ e. rw (← written_structure i r r e refl) (record { kind_fits = omega arith; there = λ n. absurd (n e) }))
    (λ n. rw (← written_value i r n) h)

-- ------------------------------------------------------------------------
-- The bytes laid so far; what is left of the items completes the whole

pub record Laying (values : List ℕ) (is : List Item) (out₀ out : List ℕ) (at : ℕ) (left : List Item) : Type 0 where
  pub done : take at out ++ pieces values (sized left) ≡ pieces values (sized is)
  pub kept : drop at out ≡ drop at out₀
  pub sum : at + room_for left ≡ room_for is
  pub same : length out ≡ length out₀
  pub inside : AllInside values left
  pub few : length left ≤ items_most

-- what is left takes no more bytes than a length can say
pub left_fits : {values : List ℕ} {is : List Item} {out₀ out : List ℕ} {at : ℕ} {left behind : List Item} (w : Item)
    → Laying values is out₀ out at left → room_for is < 2 ^ 32 → left ≡ w ∷ behind → room_for behind < 2 ^ 32
left_fits {behind = behind} w l fits step = omega (arith, l.sum, ap room_for step, room_cons w behind)

pub lay_end : {values : List ℕ} {is : List Item} {out₀ out : List ℕ} {at : ℕ} {left : List Item} → Laying values is out₀ out at left → left ≡ []
    → AllInside values is
    → LaidOut is values out₀ at out
lay_end {values} {is} {out₀} {out} {at} {left} l n inside =
    let z : room_for left ≡ 0 = ap room_for n ∙ room_nil in
    let none : pieces values (sized left) ≡ [] = ap (λ x. pieces values (sized x)) n ∙ ap (pieces values) sized_nil ∙ pieces_nil values in
    let t : take at out ≡ pieces values (sized is) = sym (append-nil (take at out)) ∙ ap (λ x. take at out ++ x) (sym none) ∙ l.done in
    let g : encode (tree_of values is) ≡ pieces values (sized is) = pieces_tree values (length is) is (omega arith) inside in
    record { all = omega (arith, l.sum); bytes = sym (take-append-drop at out) ∙ rw (t, l.kept, g) }

-- item w is next, and p is what is written of it
pub record Piece (values : List ℕ) (is : List Item) (out₀ out : List ℕ) (at : ℕ) (w : Item) (behind : List Item) (p : Item) : Type 0 where
  pub so_far : Laying values is out₀ out at (w ∷ behind)
  pub fits : room_for is ≤ length out₀
  pub is_piece : p ≡ with_length w (room_for (deeper w.depth behind))

module _ {values : List ℕ} {is : List Item} {out₀ out : List ℕ} {at : ℕ} {w : Item} {behind : List Item} {p : Item}
    (c : Piece values is out₀ out at w behind p) where
  all_inside : Inside values w × AllInside values behind
  all_inside = inside_cons values w behind c.so_far.inside

  pub piece_inside : Inside values p
  piece_inside = rw c.is_piece (inside_written values w _ all_inside.0)

  same_room : room_of p ≡ room_of w
  same_room = ap room_of c.is_piece ∙ room_written w (room_for (deeper w.depth behind))

  pub piece_room : at + room_of p ≤ length out
  piece_room =
      let f = c.fits in
      omega (arith, same_room, room_cons w behind, c.so_far.sum, c.so_far.same)

  pub piece_lent : room_of p ≤ length (take (length out - at) (drop at out))
  piece_lent = let r = piece_room in rw (lent_length_to at (length out) out (omega arith)) (omega arith)

  pub lay_more : (r : List ℕ) (m : ℕ) → r ≡ piece_of values p ++ drop (room_of p) (take (length out - at) (drop at out)) → m ≡ room_of p
      → Laying values is out₀ (take at out ++ (r ++ drop (length out - at) (drop at out))) (at + m) behind
  lay_more r m e em =
      let v = piece_of values p in
      let k = piece_room in
      let l = c.so_far in
      let lv : length v ≡ m = length_piece values p piece_inside ∙ sym em in
      let q = take at out ++ v in
      let lq : length q ≡ at + m = length-append (take at out) v ∙ rw (length-take-le at out (omega arith), lv) in
      let b = drop m (drop at out) in
      let er : r ≡ v ++ b = e ∙ ap (λ x. v ++ drop x (take (length out - at) (drop at out))) (sym em) ∙ ap (λ x. v ++ drop m x) (lent_rest at out) in
      let o : take at out ++ (r ++ drop (length out - at) (drop at out)) ≡ q ++ b =
      back_rest at r out ∙ ap (λ x. take at out ++ x) er ∙ sym (append_assoc (take at out) v b) in
      let tail = pieces values (sized behind) in
      let first : pieces values (sized (w ∷ behind)) ≡ v ++ tail =
      ap (pieces values) (sized_cons w behind ∙ ap (λ x. x ∷ sized behind) (sym c.is_piece)) ∙ pieces_cons values p (sized behind) in
      record {
        done =
            ap (λ x. take (at + m) x ++ tail) o
            ∙ ap (λ x. x ++ tail) (take_at q b (at + m) lq)
            ∙ append_assoc (take at out) v tail
            ∙ ap (λ x. take at out ++ x) (sym first)
            ∙ l.done;
        kept = ap (drop (at + m)) o ∙ drop_at q b (at + m) lq ∙ ap (drop m) l.kept ∙ drop-drop m at out₀;
        sum = omega (arith, same_room, room_cons w behind, l.sum);
        same = ap length o ∙ length-append q b ∙ rw (lq, drop-drop m at out, length-drop (at + m) out) (omega (arith, l.same));
        inside = all_inside.1;
        few = omega (arith, l.few);
      }

-- the first of some items, and those behind it, as they are lent
pub first_lent : (left : List (List ℕ)) (w : Item) → w ≡ first_item (get_or left 0 []) → 1 ≤ length left
    → items_of left ≡ w ∷ items_of (take (length left - 1) (drop 1 left))
first_lent [] w e h = absurd (omega arith)
first_lent (ns ∷ left) w e h =
    let k : length (ns ∷ left) - 1 ≡ length left = omega arith in
    rw (k, take-length left, e)
