-- A step of a walk: an end is reached, or an item is taken.
-- Assumes nothing.
use mathlib.Core.Path.{◌≡◌, refl, sym, ap, ◌∙◌}
use mathlib.Core.List.{List, []}
use mathlib.Core.Option.{Option, none, some}
use Prim.Native.Nat.{ℕ, zero, suc, ◌+◌, ◌-◌, ◌<◌, ◌≤◌}
use native.Mathlib.Omega.{arith}
use native.Mathlib.Numerals.{add-one}
use lib.ListN.{length, take, drop, get_or, set}
use lib.Seq.{get_or-set_same, get_or-set_other, take-length}
use Rattle.cells.specs.Cells.{part}
use Rattle.cells.proofs.CellsLaws.{length_part}
use Rattle.rules.specs.Ttlv.{Items, item_head, deepest, read_at}
use Rattle.rules.specs.Ttlv as ttlv
use Rattle.ttlv.specs.declared.Item.{Item}
use Rattle.ttlv.specs.declared.Front.TheVariants.{Value, Structure}
use Rattle.std.specs.Prelude.{Some, None}
use Rattle.ttlv.specs.ItemList.{is_some, item, list_of, list_at, join}
use Rattle.std.specs.Prelude as places
use Rattle.ttlv.specs.declared.Front.{Front}
use Rattle.ttlv.specs.Reading.{Fronted, item_at}
use Rattle.ttlv.proofs.FrontLaws.{found_fronted}
use Rattle.ttlv.specs.Between.{rest, Nested, Between, Onward}
use Rattle.ttlv.specs.Walking.{left, Closed}
use Rattle.ttlv.specs.declared.walk.Walk.{Walk}
use mathlib.Core.Logic.{inl, inr}
use Rattle.ttlv.proofs.ListLaws.{one, join_assoc, join_empty, empty_join, list_none, list_deep, list_broken, list_value, list_structure}

-- ------------------------------------------------------------------------
-- The innermost end

module _ (xs ends : List ℕ) where
  rest_suc : (k at : ℕ) → rest xs ends (suc k) at ≡ join (list_at (suc k) at (part at (get_or ends k 0 - at) xs)) (rest xs ends k (get_or ends k 0))
  unfolding rest
  rest_suc k at = refl

  rest_top : (levels at end : ℕ) → 0 < levels → get_or ends (levels - 1) 0 ≡ end
      → rest xs ends levels at ≡ join (list_at levels at (part at (end - at) xs)) (rest xs ends (levels - 1) end)
  rest_top zero at end h e = absurd (omega arith)
  rest_top (suc k) at end h e =
      let s : suc k - 1 ≡ k = omega arith in
      let t : get_or ends k 0 ≡ end = ap (λ j. get_or ends j 0) (sym s) ∙ e in
      rest_suc k at ∙ rw (t, s)

  nested_suc : (k at : ℕ) → Nested xs ends (suc k) at
      → (at ≤ get_or ends k 0) × ((get_or ends k 0 ≤ length xs) × Nested xs ends k (get_or ends k 0))
  unfolding Nested
  nested_suc k at n = n

  nested_top : (levels at : ℕ) → 0 < levels → Nested xs ends levels at
      → (at ≤ get_or ends (levels - 1) 0) × ((get_or ends (levels - 1) 0 ≤ length xs) × Nested xs ends (levels - 1) (get_or ends (levels - 1) 0))
  nested_top zero at h n = absurd (omega arith)
  nested_top (suc k) at h n = let s : suc k - 1 ≡ k = omega arith in rw s (nested_suc k at n)

  -- from a later place, still before the innermost end
  nested_on : (levels at next : ℕ) → 0 < levels → next ≤ get_or ends (levels - 1) 0 → Nested xs ends levels at → Nested xs ends levels next
  unfolding Nested
  nested_on zero at next h l n = absurd (omega arith)
  nested_on (suc k) at next h l n = let s : suc k - 1 ≡ k = omega arith in (rw s at l, n.1)

  -- a store past the open levels is not seen
  rest_set : (j k v at : ℕ) → j ≤ k → rest xs (set ends k v) j at ≡ rest xs ends j at
  unfolding rest
  rest_set zero k v at h = refl
  rest_set (suc j) k v at h =
      let e : get_or (set ends k v) j 0 ≡ get_or ends j 0 = get_or-set_other ends k j v 0 (omega arith) in
      rw (e, rest_set j k v (get_or ends j 0) (omega arith))

  nested_set : (j k v at : ℕ) → j ≤ k → Nested xs ends j at → Nested xs (set ends k v) j at
  unfolding Nested
  nested_set zero k v at h n = tt
  nested_set (suc j) k v at h n =
      let e : get_or (set ends k v) j 0 ≡ get_or ends j 0 = get_or-set_other ends k j v 0 (omega arith) in
      rw e (n.0, (n.1.0, nested_set j k v (get_or ends j 0) (omega arith) n.1.1))

  -- one level more
  nested_more : (k v at : ℕ) → k < length ends → at ≤ v → v ≤ length xs → Nested xs ends k v → Nested xs (set ends k v) (suc k) at
  unfolding Nested
  nested_more k v at h l m n =
      let e : get_or (set ends k v) k 0 ≡ v = get_or-set_same ends k v 0 h in
      rw e (l, (m, nested_set k k v v (omega arith) n))

-- ------------------------------------------------------------------------
-- The steps

pub nested_start : (xs ends : List ℕ) → get_or ends 0 0 ≡ length xs → Nested xs ends 1 0
unfolding Nested
nested_start xs ends e = (omega arith, (omega arith, tt))

-- the bytes are still to be read
pub start_whole : (xs ends : List ℕ) → get_or ends 0 0 ≡ length xs → rest xs ends 1 0 ≡ list_at 1 0 xs
unfolding rest part
start_whole xs ends e = let z : length xs - 0 ≡ length xs = omega arith in empty_join _ ∙ rw (e, z, take-length xs)

-- with no end left all is read
pub walk_end : (xs ends : List ℕ) (levels at : ℕ) → levels ≡ 0 → rest xs ends levels at ≡ some []
unfolding rest
walk_end xs ends levels at e = ap (λ k. rest xs ends k at) e

module _ {xs ends : List ℕ} {levels at : ℕ} (o : Between xs ends levels at) (l : 0 < levels) where
  abbrev end : ℕ
  end = get_or ends (levels - 1) 0

  -- the run that the innermost end closes
  abbrev run : List ℕ
  run = part at (end - at) xs

  abbrev outer : Option (List Item)
  outer = rest xs ends (levels - 1) end

  at_end : at ≤ end
  at_end = (nested_top xs ends levels at l o.nested).0

  end_inside : end ≤ length xs
  end_inside = (nested_top xs ends levels at l o.nested).1.0

  -- what was found here
  found_here : (r : places.Option Front) → r ≡ item_at xs at end → Fronted xs at end r
  found_here r e = found_fronted xs at end at_end end_inside r e

  run_length : length run ≡ end - at
  run_length = let a = at_end in let b = end_inside in length_part at (end - at) xs (omega arith)

  top : rest xs ends levels at ≡ join (list_at levels at run) outer
  top = rest_top xs ends levels at end l refl

  run_none : at ≡ end → run ≡ []
  unfolding part
  run_none e = let z : end - at ≡ 0 = omega arith in ap (λ k. take k (drop at xs)) z

  run_some : (at ≡ end → ⊥) → 0 < length run
  run_some n = let a = at_end in omega (arith, run_length)

  -- the innermost end is reached
  pub close_between : at ≡ end → Between xs ends (levels - 1) at
  close_between e =
      let f = o.few in
      record {
        inside = o.inside;
        few = omega arith;
        nested = rw (ap (Nested xs ends (levels - 1)) e) (nested_top xs ends levels at l o.nested).1.1;
      }

  pub close_rest : at ≡ end → rest xs ends (levels - 1) at ≡ rest xs ends levels at
  close_rest e =
      ap (λ a. rest xs ends (levels - 1) a) e
      ∙ sym (join_empty outer)
      ∙ ap (λ r. join r outer) (sym (list_none levels at))
      ∙ ap (λ r. join (list_at levels at r) outer) (sym (run_none e))
      ∙ sym top

  -- the run is no items, and so nothing that is left is
  none_left : list_at levels at run ≡ none → rest xs ends levels at ≡ none
  unfolding join
  none_left n = top ∙ ap (λ r. join r outer) n

  module _ (ne : at ≡ end → ⊥) where
    deep_left : deepest < levels → rest xs ends levels at ≡ none
    deep_left h = none_left (list_deep levels at run (run_some ne) h)

    module _ (h : levels ≤ deepest) where
      broken_left : Fronted xs at end None → rest xs ends levels at ≡ none
      broken_left f = none_left (list_broken levels at run (run_some ne) h f.is)

      value_on : (tag kind n next : ℕ) → Fronted xs at end (Some (Value tag kind n next))
          → Onward xs ends levels at (item tag kind levels (at + item_head) n) ends levels next
      value_on tag kind n next f =
          let a = at_end in
          let b = end_inside in
          let c = f.inside.0 in
          let d = f.inside.1 in
          let i = item tag kind levels (at + item_head) n in
          let ln : length (part (at + item_head) n xs) ≡ n = length_part (at + item_head) n xs (omega arith) in
          let e : list_at levels at run ≡ join (one i) (list_at levels next (part next (end - next) xs)) =
          list_value levels at run (run_some ne) h tag kind (part (at + item_head) n xs) (part next (end - next) xs) f.is ∙ rw (ln, ← c) in
          record {
            on = omega arith;
            depth_fits = h;
            inside = omega arith;
            taken =
                top
                ∙ ap (λ r. join r outer) e
                ∙ join_assoc (one i) (list_at levels next (part next (end - next) xs)) outer
                ∙ ap (join (one i)) (sym (rest_top xs ends levels next end l refl));
          }

      value_between : (tag kind n next : ℕ) → Fronted xs at end (Some (Value tag kind n next)) → Between xs ends levels next
      value_between tag kind n next f =
          let b = end_inside in
          let d = f.inside.1 in
          record { inside = omega arith; few = o.few; nested = nested_on xs ends levels at next l d o.nested }

      structure_between : (tag n : ℕ) → length ends ≡ suc deepest → Fronted xs at end (Some (Structure tag n))
          → Between xs (set ends levels (at + item_head + n)) (levels + 1) (at + item_head)
      structure_between tag n sp f =
          let b = end_inside in
          let d = f.inside in
          let to = at + item_head + n in
          let kept = nested_on xs ends levels at to l d o.nested in
          record {
            inside = omega arith;
            few = omega arith;
            nested = rw (add-one levels) (nested_more xs ends levels to (at + item_head) (omega arith) (omega arith) (omega arith) kept);
          }

      structure_on : (tag n : ℕ) → length ends ≡ suc deepest → Fronted xs at end (Some (Structure tag n))
          → Onward xs ends levels at (item tag ttlv.Structure levels (at + item_head) n)
          (set ends levels (at + item_head + n)) (levels + 1) (at + item_head)
      structure_on tag n sp f =
          let a = at_end in
          let b = end_inside in
          let d = f.inside in
          let i = item tag ttlv.Structure levels (at + item_head) n in
          let to = at + item_head + n in
          let ends' = set ends levels to in
          let ln : length (part (at + item_head) n xs) ≡ n = length_part (at + item_head) n xs (omega arith) in
          let s : levels + 1 - 1 ≡ levels = omega arith in
          let w : to - (at + item_head) ≡ n = omega arith in
          let g : get_or ends' (levels + 1 - 1) 0 ≡ to = rw s (get_or-set_same ends levels to 0 (omega arith)) in
          let inner = list_at (suc levels) (at + item_head) (part (at + item_head) n xs) in
          let behind = list_at levels to (part to (end - to) xs) in
          let e : list_at levels at run ≡ join (one i) (join inner behind) =
          list_structure levels at run (run_some ne) h tag (part (at + item_head) n xs) (part to (end - to) xs) f.is ∙ rw ln in
          let r : rest xs ends' (levels + 1) (at + item_head) ≡ join inner (join behind outer) =
          rest_top xs ends' (levels + 1) (at + item_head) to (omega arith) g
          ∙ rw (s, w, add-one levels, rest_set xs ends levels levels to to (omega arith), rest_top xs ends levels to end l refl) in
          let kept = nested_on xs ends levels at to l d o.nested in
          record {
            on = omega arith;
            depth_fits = h;
            inside = omega arith;
            taken =
                top
                ∙ ap (λ x. join x outer) e
                ∙ join_assoc (one i) (join inner behind) outer
                ∙ ap (join (one i)) (join_assoc inner behind outer ∙ sym r);
          }

-- ------------------------------------------------------------------------
-- The walk itself

pub walk_between : (w : Walk) → Between w.bytes.now w.ends w.levels w.at
walk_between w = record { inside = w.inside; few = w.few; nested = w.nested }

-- after the ends that were reached, with a structure still open
module _ {w m : Walk} (c : Closed w m) (open_so : m.levels ≡ 0 → ⊥) where
  some_level : 0 < m.levels
  some_level = omega arith

  abbrev next_end : ℕ
  next_end = get_or m.ends (m.levels - 1) 0

  not_closed : m.at ≡ next_end → ⊥
  not_closed e = elim c.all_closed [ inl z ↦ open_so z | inr ne ↦ ne e ]

  onward_from : {ends' : List ℕ} {levels' at' : ℕ} {i : Item} → Onward m.bytes.now m.ends m.levels m.at i ends' levels' at'
      → Onward w.bytes.now w.ends w.levels w.at i ends' levels' at'
  onward_from {ends'} {levels'} {at'} {i} n =
      record {
        on = omega (arith, n.on, c.at_stays);
        depth_fits = n.depth_fits;
        inside = omega (arith, n.inside, ap length c.over);
        taken = sym c.left_stays ∙ n.taken ∙ ap (λ xs. join (one i) (rest xs ends' levels' at')) c.over;
      }

  pub step_deep : deepest < m.levels → left w ≡ none
  step_deep h = sym c.left_stays ∙ deep_left (walk_between m) some_level not_closed h

  module _ (h : m.levels ≤ deepest) {r : places.Option Front} (found : r ≡ item_at m.bytes.now m.at next_end) where
    front_so : {f : places.Option Front} → r ≡ f → Fronted m.bytes.now m.at next_end f
    front_so {f} e = found_here (walk_between m) some_level f (sym e ∙ found)

    pub step_broken : r ≡ None → left w ≡ none
    step_broken e = sym c.left_stays ∙ broken_left (walk_between m) some_level not_closed h (front_so e)

    module _ {tag kind n next : ℕ} (e : r ≡ Some (Value tag kind n next)) where
      pub step_value : Onward w.bytes.now w.ends w.levels w.at (item tag kind m.levels (m.at + item_head) n) m.ends m.levels next
      step_value = onward_from (value_on (walk_between m) some_level not_closed h tag kind n next (front_so e))

      pub behind_value : Between m.bytes.now m.ends m.levels next
      behind_value = value_between (walk_between m) some_level not_closed h tag kind n next (front_so e)

    module _ {tag n : ℕ} (e : r ≡ Some (Structure tag n)) where
      pub structure_fits : m.at + item_head + n ≤ length m.bytes.now
      structure_fits = let i = (front_so e).inside in let l = end_inside (walk_between m) some_level in omega arith

      module _ (spaces : length m.ends ≡ suc deepest) where
        pub step_structure : Onward w.bytes.now w.ends w.levels w.at (item tag ttlv.Structure m.levels (m.at + item_head) n)
            (set m.ends m.levels (m.at + item_head + n)) (m.levels + 1) (m.at + item_head)
        step_structure = onward_from (structure_on (walk_between m) some_level not_closed h tag n spaces (front_so e))

        pub in_structure : Between m.bytes.now (set m.ends m.levels (m.at + item_head + n)) (m.levels + 1) (m.at + item_head)
        in_structure = structure_between (walk_between m) some_level not_closed h tag n spaces (front_so e)

-- ------------------------------------------------------------------------
-- Bytes that give a list are items, and the other way

some_list : (d at : ℕ) (o : Option Items) → is_some (list_of d at o) ≡ is_some o
unfolding list_of
some_list d at none = refl
some_list d at (some items) = refl

pub sound_if : (xs : List ℕ) (o : Option (List Item)) → list_at 1 0 xs ≡ o → is_some (read_at 1 xs) ≡ is_some o
unfolding list_at
sound_if xs o e = sym (some_list 1 0 (read_at 1 xs)) ∙ ap is_some e

-- ------------------------------------------------------------------------
-- Whether what is left is items tells whether the whole is

pub record Telling (xs : List ℕ) (w : Walk) : Type 0 where
  pub over : w.bytes.now ≡ xs
  pub tells : is_some (left w) ≡ is_some (list_at 1 0 xs)

some_behind : (i : Item) (r : Option (List Item)) → is_some (join (one i) r) ≡ is_some r
unfolding join
some_behind i none = refl
some_behind i (some is) = refl

module _ {xs : List ℕ} {w : Walk} (t : Telling xs w) where
  pub tell_more : (m : Walk) (i : Item) → m.bytes.now ≡ w.bytes.now → Onward w.bytes.now w.ends w.levels w.at i m.ends m.levels m.at
      → Telling xs m
  tell_more m i over on =
      record {
        over = over ∙ t.over;
        tells =
            sym (some_behind i (left m))
            ∙ ap is_some (ap (λ x. join (one i) (rest x m.ends m.levels m.at)) over ∙ sym on.taken)
            ∙ t.tells;
      }

  pub tell_end : (o : Option (List Item)) → left w ≡ o → is_some o ≡ is_some (read_at 1 xs)
  tell_end o e = ap is_some (sym e) ∙ t.tells ∙ sym (sound_if xs (list_at 1 0 xs) refl)
