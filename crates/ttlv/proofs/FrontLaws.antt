-- The front of a run of bytes, by places in the whole.
-- Assumes nothing.
use mathlib.Core.Path.{◌≡◌, refl, sym, ap, ◌∙◌}
use mathlib.Core.Bool.{Bool, true, false, true≢false, ◌&&◌}
use mathlib.Core.Logic.{◌⊎◌, inl, inr}
use mathlib.Core.List.{List, [], ◌∷◌}
use Prim.Native.Nat.{ℕ, zero, suc, ◌+◌, ◌-◌, ◌%◌, ◌<◌, ◌≤◌}
use native.Mathlib.Omega.{arith}
use lib.ListN.{length, take, drop, get_or}
use lib.Seq.{length-take-le}
use lib.Dec.{eqb, leb}
use lib.Seq.{take-take, drop-drop, take-nil}
use borrow.Author.Tests.{le-leb, lt-leb, leb-true, eq-eqb, ne_eqb}
use Rattle.cells.specs.Cells.{part}
use Rattle.cells.specs.Predicates.{all_zero}
use Rattle.cells.proofs.CellsLaws.{length_part, part_three, part_four}
use Rattle.std.proofs.lemmas.List.{get_or-take}
use Rattle.std.specs.Bool.{then_some}
use Rattle.cells.proofs.PredicatesLaws.{and_left, and_right, to_false}
use Rattle.rules.specs.Ttlv.{Structure, item_head, to_eight, is_value, no_item, a_value, a_structure, front_of, front}
use Rattle.rules.specs.Ttlv as ttlv
use Rattle.rules.specs.Fields.{byte, big, big_endian}
use Rattle.rules.proofs.TtlvFrontLaws.{on_cond, front_is}
use Rattle.ttlv.specs.declared.reading.Head.{Head}
use Rattle.ttlv.specs.declared.Front.{Front}
use Rattle.ttlv.specs.declared.Front.TheVariants.{Value}
use Rattle.std.specs.Prelude.{Option, Some, None}
use Rattle.ttlv.specs.declared.Front.TheVariants as places
use Rattle.ttlv.specs.Reading.{Headed, placed, front_at, item_at, shown, Inside, Fronted}

-- ------------------------------------------------------------------------
-- Bytes of a part

pub drop_take : (n m : ℕ) (ys : List ℕ) → drop n (take m ys) ≡ take (m - n) (drop n ys)
drop_take zero m ys = let e : m - 0 ≡ m = omega arith in rw e
drop_take (suc n) zero ys = let e : zero - suc n ≡ 0 = omega arith in rw e
drop_take (suc n) (suc m) [] = sym (take-nil (suc m - suc n))
drop_take (suc n) (suc m) (y ∷ ys) = let e : suc m - suc n ≡ m - n = omega arith in rw e (drop_take n m ys)

pub drop_part : (n a m : ℕ) (xs : List ℕ) → drop n (part a m xs) ≡ part (a + n) (m - n) xs
unfolding part
drop_part n a m xs = drop_take n m (drop a xs) ∙ ap (take (m - n)) (drop-drop n a xs)

pub take_part : (n a m : ℕ) (xs : List ℕ) → n ≤ m → take n (part a m xs) ≡ part a n xs
unfolding part
take_part n a m xs h = take-take n m (drop a xs) h

-- ------------------------------------------------------------------------
-- Padding

-- the next multiple of eight, by what is known of one
pub to_eight_is : (n r : ℕ) → n ≤ r → r < n + 8 → r % 8 ≡ 0 → r ≡ to_eight n
to_eight_is n r l m z = omega arith

-- ------------------------------------------------------------------------
-- The front of a run that starts at `at`, by what a reading of its head gave

headed_front : (run head : List ℕ) (h : Head) → item_head ≤ length run → head ≡ take item_head run → Headed head h
    → front run ≡ front_of h.tag h.kind h.length (drop item_head run)
headed_front run head h l e i =
    let g : (k : ℕ) → k < item_head → get_or head k 0 ≡ get_or run k 0 =
    (λ k m. ap (λ x. get_or x k 0) e ∙ get_or-take item_head run k 0 m) in
    let t : h.tag ≡ big 0 2 run =
    i.tag_is
    ∙ rw (g 0 (omega arith), g 1 (omega arith), g 2 (omega arith))
    (sym (ap big_endian (part_three 0 1 2 run (omega arith) (omega arith) (omega arith)))) in
    let k : h.kind ≡ byte 3 run = i.kind_is ∙ g 3 (omega arith) in
    let n : h.length ≡ big 4 7 run =
    i.length_is
    ∙ rw (g 4 (omega arith), g 5 (omega arith), g 6 (omega arith), g 7 (omega arith))
    (sym (ap big_endian (part_four 4 5 6 run (omega arith) (omega arith) 7 (omega arith) (omega arith)))) in
    front_is run l ∙ rw (t, k, n)

pub short_none : (at : ℕ) (run : List ℕ) → length run < item_head → None ≡ placed at (front run)
unfolding front placed
short_none at run h = rw (lt-leb item_head (length run) h)

-- the head was read, and so much is behind it
pub record HeadRead (run behind : List ℕ) (h : Head) : Type 0 where
  pub is : front run ≡ front_of h.tag h.kind h.length behind

pub head_read : (run head behind : List ℕ) (h : Head) → Headed head h
    → (head ≡ take item_head run) × (behind ≡ drop item_head run) × (length behind + item_head ≡ length run) → HeadRead run behind h
head_read run head behind h i cut =
    let l = cut.2 in
    record { is = headed_front run head h (omega arith) cut.0 i ∙ ap (front_of h.tag h.kind h.length) (sym cut.1) }

module _ {run behind : List ℕ} {h : Head} (r : HeadRead run behind h) (at : ℕ) where
  abbrev n : ℕ
  n = h.length

  by_front : {o : Option Front} → o ≡ placed at (front_of h.tag h.kind n behind) → o ≡ placed at (front run)
  by_front e = e ∙ sym (ap (placed at) r.is)

  pub structure_read : h.kind ≡ Structure → then_some (leb n (length behind)) (places.Structure h.tag n) ≡ placed at (front run)
  unfolding front_of placed
  structure_read e =
      let b = leb n (length behind) in
      by_front
      (rw (eq-eqb h.kind Structure e)
      (on_cond (λ f. then_some b (places.Structure h.tag n) ≡ placed at f) b _ _
      (λ t. rw (t, length-take-le n behind (leb-true n (length behind) t)))
      (λ f. rw f)))

  abbrev clean : Bool
  clean = all_zero (part n (to_eight n - n) behind)

  abbrev valued : Bool
  valued = is_value h.kind n && leb (to_eight n) (length behind) && clean

  module _ (e : h.kind ≡ Structure → ⊥) where
    no_value : valued ≡ false → None ≡ placed at (front run)
    unfolding front_of placed
    no_value f = by_front (rw (ne_eqb h.kind Structure e, f))

    pub unvalued_read : is_value h.kind n ≡ false → None ≡ placed at (front run)
    unvalued_read v = no_value (rw v)

    module _ (whole : ℕ) (w : whole ≡ to_eight n) where
      -- the padding is not there
      pub past_read : (whole < n) ⊎ (length behind < whole) → None ≡ placed at (front run)
      past_read (inl l) = absurd (omega arith)
      past_read (inr l) =
          let fits = λ (t : valued ≡ true). leb-true (to_eight n) (length behind) (and_right (is_value h.kind n) _ (and_left _ clean t)) in
          no_value (sym (to_false valued (λ t. let m = fits t in omega arith)))

      module _ (padding : List ℕ) (p : padding ≡ take (whole - n) (drop n behind)) where
        padding_is : padding ≡ part n (to_eight n - n) behind
        unfolding part
        padding_is = p ∙ ap (λ k. take (k - n) (drop n behind)) w

        pub unclean_read : all_zero padding ≡ false → None ≡ placed at (front run)
        unclean_read z = no_value (sym (to_false valued (λ t. true≢false (sym (and_right _ clean t) ∙ sym (ap all_zero padding_is) ∙ z))))

        pub value_read : is_value h.kind n ≡ true → whole ≤ length behind → all_zero padding ≡ true
            → Some (Value h.tag h.kind n (at + item_head + whole)) ≡ placed at (front run)
        unfolding front_of placed
        value_read v l z =
            let c : clean ≡ true = sym (ap all_zero padding_is) ∙ z in
            by_front
            (rw (ne_eqb h.kind Structure e, v, le-leb (to_eight n) (length behind) (omega arith), c, length-take-le n behind (omega arith), w))

-- ------------------------------------------------------------------------
-- The front of the run from `at` to `end`

module _ (xs : List ℕ) (start end : ℕ) (l : start ≤ end) (m : end ≤ length xs) where
  rest_length : length (part start (end - start) xs) ≡ end - start
  rest_length = length_part start (end - start) xs (omega arith)

  behind : (k : ℕ) → drop k (part start (end - start) xs) ≡ part (start + k) (end - (start + k)) xs
  behind k = let e : end - start - k ≡ end - (start + k) = omega arith in drop_part k start (end - start) xs ∙ ap (λ j. part (start + k) j xs) e

-- and it stands there
abbrev Shows : List ℕ → ℕ → ℕ → ttlv.Front → Type 0
Shows xs at end f = (f ≡ shown xs at end (placed at f)) × Inside at end (placed at f)

module _ (xs : List ℕ) (at end : ℕ) (l : at ≤ end) (m : end ≤ length xs) (long : item_head ≤ end - at) (tag type n : ℕ) where
  abbrev start : ℕ
  start = at + item_head

  abbrev room : List ℕ
  room = part start (end - start) xs

  shows_structure : n ≤ length room → Shows xs at end (a_structure tag (take n room) (drop n room))
  unfolding placed
  shows_structure h =
      let r = rest_length xs start end (omega arith) m in
      let ln : length (take n room) ≡ n = length-take-le n room h in
      (rw (ln, take_part n start (end - start) xs (omega arith), behind xs start end (omega arith) m n), rw ln (omega arith))

  shows_value : to_eight n ≤ length room → Shows xs at end (a_value tag type (take n room) (drop (to_eight n) room))
  unfolding placed
  shows_value h =
      let r = rest_length xs start end (omega arith) m in
      let ln : length (take n room) ≡ n = length-take-le n room (omega arith) in
      let t = take_part n start (end - start) xs (omega arith) in
      (rw (ln, t, behind xs start end (omega arith) m (to_eight n)), rw ln (refl, omega arith))

  shows_of : Shows xs at end (front_of tag type n room)
  unfolding front_of placed
  shows_of =
      on_cond (Shows xs at end) (eqb type Structure) _ _
      (λ t. on_cond (Shows xs at end) (leb n (length room)) _ _ (λ e. shows_structure (leb-true n (length room) e)) (λ e. (refl, tt)))
      (λ t. on_cond (Shows xs at end) (is_value type n && leb (to_eight n) (length room) && all_zero (part n (to_eight n - n) room)) _ _
      (λ e. shows_value (leb-true (to_eight n) (length room) (and_right (is_value type n) _ (and_left _ (all_zero (part n (to_eight n - n) room)) e))))
      (λ e. (refl, tt)))

shows : (xs : List ℕ) (at end : ℕ) → at ≤ end → end ≤ length xs → Shows xs at end (front (part at (end - at) xs))
unfolding front placed
shows xs at end l m =
    let ys : List ℕ = part at (end - at) xs in
    let r : length (part at (end - at) xs) ≡ end - at = length_part at (end - at) xs (omega arith) in
    on_cond (Shows xs at end) (leb item_head (length ys)) _ _
    (λ e.
    let long : item_head ≤ end - at = omega (arith, leb-true item_head (length ys) e) in
    let k : end - at - item_head ≡ end - (at + item_head) = omega arith in
    let d : drop item_head ys ≡ part (at + item_head) (end - (at + item_head)) xs =
    drop_part item_head at (end - at) xs ∙ ap (λ j. part (at + item_head) j xs) k in
    rw d (shows_of xs at end l m long (big 0 2 ys) (byte 3 ys) (big 4 7 ys)))
    (λ e. (refl, tt))

pub fronted : (xs : List ℕ) (at end : ℕ) → at ≤ end → end ≤ length xs → Fronted xs at end (front_at xs at end)
unfolding front_at
fronted xs at end l m = let both = shows xs at end l m in record { is = both.0; inside = both.1 }

-- at any two numbers
pub item_there : (xs : List ℕ) (at end : ℕ) → at ≤ end → end ≤ length xs → item_at xs at end ≡ front_at xs at end
unfolding item_at
item_there xs at end l m = rw (le-leb at end l, le-leb end (length xs) m)

pub item_none : (xs : List ℕ) (at end : ℕ) → (end < at) ⊎ (length xs < end) → None ≡ item_at xs at end
unfolding item_at
item_none xs at end (inl back) = rw (lt-leb at end back)
item_none xs at end (inr past) =
    on_cond {A = Option Front} (λ r. None ≡ r) (leb at end && leb end (length xs)) (front_at xs at end) None
    (λ t. let l = leb-true end (length xs) (and_right (leb at end) _ t) in absurd (omega arith))
    (λ f. refl)

-- by what was found there
pub found_fronted : (xs : List ℕ) (at end : ℕ) → at ≤ end → end ≤ length xs → (r : Option Front) → r ≡ item_at xs at end
    → Fronted xs at end r
found_fronted xs at end l m r e = rw (e ∙ item_there xs at end l m) (fronted xs at end l m)
