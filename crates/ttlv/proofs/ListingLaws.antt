-- A list as numbers: one item more behind those that are laid, as the walk goes on.
-- Assumes nothing.
use mathlib.Core.Path.{◌≡◌, refl, sym, ap, ◌∙◌}
use mathlib.Core.Bool.{false, true≢false}
use mathlib.Core.List.{List, [], ◌∷◌, ◌++◌, append_assoc, append-nil}
use mathlib.Core.Option.{Option, none, some}
use Prim.Native.Nat.{ℕ, ◌+◌, ◌-◌, ◌*◌, ◌<◌, ◌≤◌}
use native.Mathlib.Omega.{arith}
use lib.ListN.{length, take, drop, length-append, length-drop}
use lib.Seq.{take_at, drop_at, drop-drop}
use borrow.Author.Tests.{lt-ltb, le-ltb}
use Rattle.rules.specs.Ttlv.{Items, item_head, read_items}
use Rattle.ttlv.specs.declared.Item.{Item}
use Rattle.std.specs.Prelude.{Result, Ok, Err}
use Rattle.ttlv.specs.declared.ReadError.{ReadError}
use Rattle.ttlv.specs.declared.ReadError.TheVariants.{NoPlaces, NoItems}
use Rattle.ttlv.specs.declared.walk.Walk.{Walk}
use Rattle.ttlv.specs.declared.walk.Found.{Found}
use Rattle.ttlv.specs.ItemList.{is_some, list_at, list_of, join}
use Rattle.ttlv.specs.Between.{Onward, rest}
use Rattle.ttlv.specs.Walking.{Starts, left, item_of}
use Rattle.ttlv.specs.Listing.{Reading, item_places, items_most, message_most, numbers_of, all_numbers, laid, read_list}
use Rattle.ttlv.specs.Places.{Listable, Laid}
use Rattle.ttlv.proofs.ListLaws.{one, join_assoc, join_empty, empty_join}
use Rattle.ttlv.proofs.WalkLaws.{sound_if}

push : (done : List Item) (i : Item) (r : Option (List Item)) → join (some (done ++ i ∷ [])) r ≡ join (some done) (join (one i) r)
unfolding join
push done i r = join_assoc (some done) (one i) r

-- ------------------------------------------------------------------------
-- The numbers of a list

pub length_numbers : (is : List Item) → length (all_numbers is) ≡ item_places * length is
unfolding all_numbers
length_numbers [] = refl
length_numbers (i ∷ is) = omega (arith, length_numbers is)

numbers_more : (is : List Item) (i : Item) → all_numbers (is ++ i ∷ []) ≡ all_numbers is ++ numbers_of i
unfolding all_numbers
numbers_more [] i = append-nil (numbers_of i)
numbers_more (j ∷ is) i = ap (λ ns. numbers_of j ++ ns) (numbers_more is i)

-- one item more, behind those that are laid
laid_more : (places now r : List ℕ) (done : List Item) (i : Item) (count : ℕ) → count ≡ length done
    → item_places * count + item_places ≤ length now → now ≡ all_numbers done ++ drop (item_places * count) places → r ≡ numbers_of i
    → let from = item_places * count in
    take from now ++ (r ++ drop (from + item_places - from) (drop from now)) ≡ all_numbers (done ++ i ∷ []) ++ drop (item_places * (count + 1)) places
laid_more places now r done i count n h l e =
    let from = item_places * count in
    let p = all_numbers done in
    let lp : length p ≡ from = length_numbers done ∙ ap (λ k. item_places * k) (sym n) in
    let t : take from now ≡ p = ap (take from) l ∙ take_at p (drop from places) from lp in
    let d : drop from now ≡ drop from places = ap (drop from) l ∙ drop_at p (drop from places) from lp in
    let w : from + item_places - from ≡ item_places = omega arith in
    let k : from + item_places ≡ item_places * (count + 1) = omega arith in
    let free = drop (item_places * (count + 1)) places in
    rw (t, d, e, w, drop-drop item_places from places, k)
    (sym (append_assoc p (numbers_of i) free) ∙ ap (λ x. x ++ free) (sym (numbers_more done i)))

-- ------------------------------------------------------------------------
-- The steps

-- the items so far are laid, and what is left completes the whole
pub record Filling (xs places now : List ℕ) (w : Walk) (count : ℕ) : Type 0 where
  pub done : List Item
  pub over : w.bytes.now ≡ xs
  pub room : item_head * length done ≤ w.at
  pub whole : join (some done) (left w) ≡ list_at 1 0 xs
  pub counted : count ≡ length done
  pub laid_so : now ≡ all_numbers done ++ drop (item_places * count) places

pub fill_start : (xs places : List ℕ) (w : Walk) → Starts xs w → Filling xs places places w 0
unfolding all_numbers
fill_start xs places w s =
    record { done = []; over = s.over; room = omega arith; whole = join_empty (left w) ∙ s.whole; counted = refl; laid_so = refl }

module _ {xs places now : List ℕ} {w : Walk} {count : ℕ} (g : Listable xs places) (f : Filling xs places now w count) where
  fill_few : item_head * count ≤ message_most
  fill_few = omega (arith, f.counted, f.room, w.inside, ap length f.over, g.short)

  pub fill_length : length now ≡ length places
  fill_length =
      let few = fill_few in
      let n = f.counted in
      let e = g.enough in
      ap length f.laid_so ∙ simp (length-append, length-drop, length_numbers) (omega arith)

  pub fill_end : left w ≡ some [] → Laid xs places (Ok count) now
  fill_end e =
      let n = f.counted in
      let all : some f.done ≡ list_at 1 0 xs = sym (empty_join (some f.done)) ∙ ap (join (some f.done)) (sym e) ∙ f.whole in
      sym (ap (laid places) (sym all) ∙ rw (← n, ← f.laid_so))

  -- the bytes are items
  pub fill_never : left w ≡ none → ⊥
  unfolding join
  fill_never e = true≢false (sym g.sound ∙ sound_if xs none (sym f.whole ∙ ap (join (some f.done)) e))

  module _ (m : Walk) (i : Found) (over : m.bytes.now ≡ w.bytes.now)
      (on : Onward w.bytes.now w.ends w.levels w.at (item_of i) m.ends m.levels m.at) where
    -- from the first place that is free
    pub found_room : item_places * count + item_places ≤ length now
    found_room =
        omega (arith, fill_length, f.room, f.counted, on.on, m.inside, ap length over, ap length f.over, g.short, g.enough)

    pub found_more : (r : List ℕ) → r ≡ numbers_of (item_of i)
        → let from = item_places * count in
        Filling xs places (take from now ++ (r ++ drop (from + item_places - from) (drop from now))) m (count + 1)
    found_more r e =
        let longer = length-append f.done (item_of i ∷ []) in
        record {
          done = f.done ++ item_of i ∷ [];
          over = over ∙ f.over;
          room = omega (arith, longer, f.room, on.on);
          whole =
              push f.done (item_of i) (left m)
              ∙ ap (join (some f.done)) (ap (λ x. join (one (item_of i)) (rest x m.ends m.levels m.at)) over ∙ sym on.taken)
              ∙ f.whole;
          counted = ap (λ k. k + 1) f.counted ∙ sym longer;
          laid_so = laid_more places now r f.done (item_of i) count f.counted found_room f.laid_so e;
        }

-- ------------------------------------------------------------------------
-- The answers

unsound : (o : Option Items) → is_some o ≡ false → o ≡ none
unsound none e = refl
unsound (some a) e = absurd (true≢false e)

module _ (xs places : List ℕ) where
  pub read_few : length places < item_places * items_most → ◌≡◌ {A = Reading} (record { result = Err NoPlaces; places = places }) (read_list xs places)
  unfolding read_list
  read_few h = sym (rw (lt-ltb (length places) (item_places * items_most) h))

  module _ (enough : item_places * items_most ≤ length places) where
    pub read_long : message_most < length xs → ◌≡◌ {A = Reading} (record { result = Err NoItems; places = places }) (read_list xs places)
    unfolding read_list
    read_long h = sym (rw (le-ltb (length places) (item_places * items_most) enough, lt-ltb message_most (length xs) h))

    module _ (short : length xs ≤ message_most) where
      pub read_unsound : is_some (read_items xs) ≡ false → ◌≡◌ {A = Reading} (record { result = Err NoItems; places = places }) (read_list xs places)
      unfolding read_list list_at list_of
      read_unsound e =
          let o = unsound (read_items xs) e in
          sym (rw (le-ltb (length places) (item_places * items_most) enough, le-ltb message_most (length xs) short, o))

      pub read_laid : (r : Result ℕ ReadError) (now : List ℕ) → Laid xs places r now
          → ◌≡◌ {A = Reading} (record { result = r; places = now }) (read_list xs places)
      unfolding read_list
      read_laid r now e = e ∙ sym (rw (le-ltb (length places) (item_places * items_most) enough, le-ltb message_most (length xs) short))
