-- The pieces of a list, with the lengths of its structures, are the encoding of its
-- tree.
-- Assumes nothing.
use mathlib.Core.Path.{◌≡◌, refl, sym, ap, ◌∙◌}
use mathlib.Core.Logic.{by_cases}
use mathlib.Core.List.{List, [], ◌∷◌, ◌++◌, append_assoc, append-nil}
use Prim.Native.Nat.{ℕ, zero, suc, ◌+◌, ◌-◌, ◌<◌, ◌≤◌}
use native.Mathlib.Omega.{arith}
use native.Mathlib.Decide.{dec_lt, ℕ_discrete}
use lib.ListN.{length, length-append}
use borrow.Author.Tests.{eq-eqb, ne_eqb, lt-ltb, le-ltb}
use Rattle.cells.specs.Cells.{part}
use Rattle.cells.proofs.CellsLaws.{length_part, length_zeros}
use Rattle.rules.specs.Ttlv.{Items, end, value, structure, Structure, head, item_head, to_eight, padding, encode}
use Rattle.rules.proofs.TtlvFrontLaws.{length_head}
use Rattle.ttlv.specs.declared.Item.{Item}
use Rattle.ttlv.specs.Writing.{deeper, behind, tree_by, room_of, room_for}
use Rattle.ttlv.specs.Pieces.{piece_of, pieces, with_length, sized, Inside, AllInside}

-- ------------------------------------------------------------------------
-- The deeper items in front, and the others

module _ (d : ℕ) (i : Item) (is : List Item) where
  pub deeper_more : d < i.depth → deeper d (i ∷ is) ≡ i ∷ deeper d is
  unfolding deeper
  deeper_more h = rw (lt-ltb d i.depth h)

  pub deeper_none : i.depth ≤ d → deeper d (i ∷ is) ≡ []
  unfolding deeper
  deeper_none h = rw (le-ltb d i.depth h)

  pub behind_more : d < i.depth → behind d (i ∷ is) ≡ behind d is
  unfolding behind
  behind_more h = rw (lt-ltb d i.depth h)

  pub behind_none : i.depth ≤ d → behind d (i ∷ is) ≡ i ∷ is
  unfolding behind
  behind_none h = rw (le-ltb d i.depth h)

pub deeper_nil : (d : ℕ) → deeper d [] ≡ []
unfolding deeper
deeper_nil d = refl

pub behind_nil : (d : ℕ) → behind d [] ≡ []
unfolding behind
behind_nil d = refl

pub split : (d : ℕ) (is : List Item) → deeper d is ++ behind d is ≡ is
split d [] = rw (deeper_nil d, behind_nil d)
split d (i ∷ is) =
    by_cases (dec_lt d i.depth)
    (λ h. rw (deeper_more d i is h, behind_more d i is h) (ap (i ∷◌) (split d is)))
    (λ n. rw (deeper_none d i is (omega arith), behind_none d i is (omega arith)))

deeper_deeper : (d e : ℕ) (is : List Item) → d ≤ e → deeper e (deeper d is) ≡ deeper e is
deeper_deeper d e [] h = ap (deeper e) (deeper_nil d)
deeper_deeper d e (i ∷ is) h =
    by_cases (dec_lt d i.depth)
    (λ l. ap (deeper e) (deeper_more d i is l)
    ∙ by_cases (dec_lt e i.depth)
    (λ k. deeper_more e i (deeper d is) k ∙ ap (i ∷◌) (deeper_deeper d e is h) ∙ sym (deeper_more e i is k))
    (λ n. deeper_none e i (deeper d is) (omega arith) ∙ sym (deeper_none e i is (omega arith))))
    (λ n. ap (deeper e) (deeper_none d i is (omega arith)) ∙ deeper_nil e ∙ sym (deeper_none e i is (omega arith)))

room_join : (is js : List Item) → room_for (is ++ js) ≡ room_for is + room_for js
unfolding room_for
room_join [] js = omega arith
room_join (i ∷ is) js = let ih = room_join is js in omega arith

inside_join : (values : List ℕ) (is js : List Item) → AllInside values (is ++ js) → AllInside values is × AllInside values js
unfolding AllInside
inside_join values [] js h = (tt, h)
inside_join values (i ∷ is) js h = let r = inside_join values is js h.1 in ((h.0, r.0), r.1)

pub sized_nil : sized [] ≡ []
unfolding sized
sized_nil = refl

pub sized_cons : (i : Item) (is : List Item) → sized (i ∷ is) ≡ with_length i (room_for (deeper i.depth is)) ∷ sized is
unfolding sized
sized_cons i is = refl

sized_split : (d : ℕ) (is : List Item) → sized (deeper d is) ++ sized (behind d is) ≡ sized is
sized_split d [] = rw (deeper_nil d, behind_nil d, sized_nil)
sized_split d (i ∷ is) =
    by_cases (dec_lt d i.depth)
    (λ h. rw (deeper_more d i is h, behind_more d i is h, sized_cons i (deeper d is), deeper_deeper d i.depth is (omega arith), sized_cons i is)
    (ap (with_length i (room_for (deeper i.depth is)) ∷◌) (sized_split d is)))
    (λ n. rw (deeper_none d i is (omega arith), behind_none d i is (omega arith), sized_nil))

-- ------------------------------------------------------------------------
-- The tree

module _ (n : ℕ) (values : List ℕ) (i : Item) (is : List Item) where
  pub tree_structure : i.kind ≡ Structure
      → tree_by (suc n) values (i ∷ is) ≡ structure i.tag (tree_by n values (deeper i.depth is)) (tree_by n values (behind i.depth is))
  unfolding tree_by
  tree_structure e = rw (eq-eqb i.kind Structure e, tree_by)

  pub tree_value : (i.kind ≡ Structure → ⊥)
      → tree_by (suc n) values (i ∷ is) ≡ value i.tag i.kind (part i.start i.length values) (tree_by n values is)
  unfolding tree_by
  tree_value e = rw (ne_eqb i.kind Structure e, tree_by)

encode_end : encode end ≡ []
unfolding encode
encode_end = refl

encode_value : (t k : ℕ) (v : List ℕ) (is : Items) → encode (value t k v is) ≡ head t k (length v) ++ (v ++ (padding (length v) ++ encode is))
unfolding encode
encode_value t k v is = refl

encode_structure : (t : ℕ) (ms is : Items) → encode (structure t ms is) ≡ head t Structure (length (encode ms)) ++ (encode ms ++ encode is)
unfolding encode
encode_structure t ms is = refl

pub room_cons : (i : Item) (is : List Item) → room_for (i ∷ is) ≡ room_of i + room_for is
unfolding room_for
room_cons i is = refl

pub room_nil : room_for [] ≡ 0
unfolding room_for
room_nil = refl

pub room_structure : (i : Item) → i.kind ≡ Structure → room_of i ≡ item_head
unfolding room_of
room_structure i e = rw (eq-eqb i.kind Structure e)

pub room_value : (i : Item) → (i.kind ≡ Structure → ⊥) → room_of i ≡ item_head + to_eight i.length
unfolding room_of
room_value i n = rw (ne_eqb i.kind Structure n)

pub room_split : (d : ℕ) (is : List Item) → room_for (deeper d is) + room_for (behind d is) ≡ room_for is
room_split d is = sym (room_join (deeper d is) (behind d is)) ∙ ap room_for (split d is)

pub length_split : (d : ℕ) (is : List Item) → length (deeper d is) + length (behind d is) ≡ length is
length_split d is = sym (length-append (deeper d is) (behind d is)) ∙ ap length (split d is)

inside_split : (values : List ℕ) (d : ℕ) (is : List Item) → AllInside values is → AllInside values (deeper d is) × AllInside values (behind d is)
inside_split values d is h = inside_join values (deeper d is) (behind d is) (rw (split d is) h)

pub inside_cons : (values : List ℕ) (i : Item) (is : List Item) → AllInside values (i ∷ is) → Inside values i × AllInside values is
unfolding AllInside
inside_cons values i is h = h

pieces_join : (xs : List ℕ) (is js : List Item) → pieces xs (is ++ js) ≡ pieces xs is ++ pieces xs js
unfolding pieces
pieces_join xs [] js = refl
pieces_join xs (i ∷ is) js = rw (pieces_join xs is js) (sym (append_assoc (piece_of xs i) (pieces xs is) (pieces xs js)))

module _ (values : List ℕ) where
  pub room_tree : (n : ℕ) (is : List Item) → length is ≤ n → AllInside values is → length (encode (tree_by n values is)) ≡ room_for is
  unfolding tree_by
  room_tree zero [] l h = ap length encode_end ∙ sym room_nil
  room_tree zero (i ∷ is) l h = absurd (omega arith)
  room_tree (suc n) [] l h = ap length encode_end ∙ sym room_nil
  room_tree (suc n) (i ∷ is) l h =
      let hs = inside_cons values i is h in
      by_cases (ℕ_discrete i.kind Structure)
      (λ e.
      let p = inside_split values i.depth is hs.1 in
      let ls = length_split i.depth is in
      let a = room_tree n (deeper i.depth is) (omega arith) p.0 in
      let b = room_tree n (behind i.depth is) (omega arith) p.1 in
      let ms = tree_by n values (deeper i.depth is) in
      let rest = tree_by n values (behind i.depth is) in
      ap length (ap encode (tree_structure n values i is e) ∙ encode_structure i.tag ms rest)
      ∙ simp (length-append, length_head, a, b, room_cons i is, room_structure i e) (omega (arith, room_split i.depth is)))
      (λ e.
      let v = part i.start i.length values in
      let lv : length v ≡ i.length = length_part i.start i.length values (hs.0.there e) in
      let b = room_tree n is (omega arith) hs.1 in
      let lh = length_head i.tag i.kind i.length in
      let lz = length_zeros (to_eight i.length - i.length) in
      ap length (ap encode (tree_value n values i is e) ∙ encode_value i.tag i.kind v (tree_by n values is))
      ∙ simp (length-append, lv, lh, lz, b, room_cons i is, room_value i e) (omega arith))

  piece_structure : (i : Item) (r : ℕ) → i.kind ≡ Structure → piece_of values (with_length i r) ≡ head i.tag Structure r
  unfolding piece_of
  piece_structure i r e = rw (eq-eqb i.kind Structure e) (append-nil (head i.tag Structure r))

  piece_value : (i : Item) (r : ℕ) → (i.kind ≡ Structure → ⊥)
      → piece_of values (with_length i r) ≡ head i.tag i.kind i.length ++ (part i.start i.length values ++ padding i.length)
  unfolding piece_of
  piece_value i r e =
      let w : with_length i r ≡ i = rw (ne_eqb i.kind Structure e) in
      ap (piece_of values) w ∙ rw (ne_eqb i.kind Structure e)

  pub pieces_nil : pieces values [] ≡ []
  unfolding pieces
  pieces_nil = refl

  pub pieces_cons : (i : Item) (is : List Item) → pieces values (i ∷ is) ≡ piece_of values i ++ pieces values is
  unfolding pieces
  pieces_cons i is = refl

  -- Writing a list, with its structures' lengths, gives the encoding of its tree.
  pub pieces_tree : (n : ℕ) (is : List Item) → length is ≤ n → AllInside values is → encode (tree_by n values is) ≡ pieces values (sized is)
  unfolding tree_by
  pieces_tree zero [] l h = encode_end ∙ sym (ap (pieces values) sized_nil ∙ pieces_nil)
  pieces_tree zero (i ∷ is) l h = absurd (omega arith)
  pieces_tree (suc n) [] l h = encode_end ∙ sym (ap (pieces values) sized_nil ∙ pieces_nil)
  pieces_tree (suc n) (i ∷ is) l h =
      let hs = inside_cons values i is h in
      let r = room_for (deeper i.depth is) in
      by_cases (ℕ_discrete i.kind Structure)
      (λ e.
      let p = inside_split values i.depth is hs.1 in
      let ls = length_split i.depth is in
      let a = pieces_tree n (deeper i.depth is) (omega arith) p.0 in
      let b = pieces_tree n (behind i.depth is) (omega arith) p.1 in
      let m = room_tree n (deeper i.depth is) (omega arith) p.0 in
      ap encode (tree_structure n values i is e)
      ∙ encode_structure i.tag (tree_by n values (deeper i.depth is)) (tree_by n values (behind i.depth is))
      ∙ rw (m, a, b, sized_cons i is, pieces_cons (with_length i r) (sized is), piece_structure i r e)
      (ap (λ x. head i.tag Structure r ++ x)
      (sym (pieces_join values (sized (deeper i.depth is)) (sized (behind i.depth is))) ∙ ap (pieces values) (sized_split i.depth is))))
      (λ e.
      let v = part i.start i.length values in
      let hd = head i.tag i.kind i.length in
      let z = padding i.length in
      let lv : length v ≡ i.length = length_part i.start i.length values (hs.0.there e) in
      let b = pieces_tree n is (omega arith) hs.1 in
      ap encode (tree_value n values i is e)
      ∙ encode_value i.tag i.kind v (tree_by n values is)
      ∙ rw (lv, b, sized_cons i is, pieces_cons (with_length i r) (sized is), piece_value i r e)
      (sym (append_assoc hd (v ++ z) (pieces values (sized is)) ∙ ap (λ x. hd ++ x) (append_assoc v z (pieces values (sized is))))))

pub length_piece : (xs : List ℕ) (i : Item) → Inside xs i → length (piece_of xs i) ≡ room_of i
unfolding piece_of room_of
length_piece xs i h =
    let hd = head i.tag i.kind i.length in
    let body = part i.start i.length xs ++ padding i.length in
    let lh = length_head i.tag i.kind i.length in
    by_cases (ℕ_discrete i.kind Structure)
    (λ e. rw (eq-eqb i.kind Structure e) (ap length (append-nil hd) ∙ lh))
    (λ e.
    let lp = length_part i.start i.length xs (h.there e) in
    let lz = length_zeros (to_eight i.length - i.length) in
    rw (ne_eqb i.kind Structure e) (length-append hd body ∙ rw (lh, length-append (part i.start i.length xs) (padding i.length)) (omega arith)))
