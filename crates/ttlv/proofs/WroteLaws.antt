-- The writer's answers.
-- Assumes nothing.
use mathlib.Core.Path.{◌≡◌, refl, sym, ◌∙◌}
use mathlib.Core.Logic.{inl, inr}
use mathlib.Core.Bool.{Bool, true, false, true≢false, ◌||◌}
use mathlib.Core.List.{List}
use Prim.Native.Nat.{ℕ, ◌*◌, ◌^◌, ◌≤◌, ◌<◌}
use lib.ListN.{length}
use lib.Dec.{ltb}
use Rattle.rules.proofs.TtlvFrontLaws.{on_cond}
use borrow.Author.Tests.{lt-ltb, le-ltb}
use Rattle.std.specs.Prelude.{Ok, Err}
use Rattle.ttlv.specs.declared.Item.{Item}
use Rattle.ttlv.specs.declared.WriteError.TheVariants.{Short, NoList}
use Rattle.ttlv.specs.Listing.{item_places, items_most}
use Rattle.ttlv.specs.Writing.{Wrote, good_from, room_for, written_items, write_list}
use Rattle.ttlv.specs.Pieces.{items_of, Absent, FirstItems, LaidOut}

or_right : (a b : Bool) → b ≡ true → a || b ≡ true
or_right true b e = refl
or_right false b e = e

module _ (items : List ℕ) (count : ℕ) (values out : List ℕ) where
  abbrev wrote : Wrote
  wrote = write_list items count values out

  pub wrote_absent : Absent count items → record { result = Err NoList; out = out } ≡ wrote
  unfolding write_list
  wrote_absent (inl many) = sym (rw (lt-ltb items_most count many))
  wrote_absent (inr short) =
      let b = ltb items_most count in
      on_cond (λ w. record { result = Err NoList; out = out } ≡ w) (b || ltb (length items) (item_places * count)) _ _
      (λ e. refl)
      (λ e. absurd (true≢false (sym (or_right b _ (lt-ltb (length items) (item_places * count) short)) ∙ e)))

  module _ (arrays : List (List ℕ)) (there : FirstItems count items arrays) where
    abbrev is : List Item
    is = items_of arrays

    on_items : wrote ≡ written_items values is out
    unfolding write_list
    on_items = rw (le-ltb items_most count there.few, le-ltb (length items) (item_places * count) there.there, there.items)

    pub wrote_short : length out < room_for is → record { result = Err Short; out = out } ≡ wrote
    unfolding written_items
    wrote_short h = sym (on_items ∙ rw (lt-ltb (length out) (room_for is) h))

    module _ (room : room_for is ≤ length out) where
      pub wrote_bad : good_from (length values) 1 is ≡ false → record { result = Err NoList; out = out } ≡ wrote
      unfolding written_items
      wrote_bad g = sym (on_items ∙ rw (le-ltb (length out) (room_for is) room, g))

      module _ (good : good_from (length values) 1 is ≡ true) where
        pub wrote_long : 2 ^ 32 ≤ room_for is → record { result = Err NoList; out = out } ≡ wrote
        unfolding written_items
        wrote_long h = sym (on_items ∙ rw (le-ltb (length out) (room_for is) room, good, le-ltb (room_for is) (2 ^ 32) h))

        pub wrote_all : room_for is < 2 ^ 32 → (n : ℕ) (o : List ℕ) → LaidOut is values out n o → record { result = Ok n; out = o } ≡ wrote
        unfolding written_items
        wrote_all h n o l =
            let e = l.all in
            sym (on_items ∙ rw (le-ltb (length out) (room_for is) room, good, lt-ltb (room_for is) (2 ^ 32) h, l.bytes, e))
