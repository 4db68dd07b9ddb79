-- A walk over the items of some bytes: what a step leaves.
-- Assumes nothing.
use Rattle.std.specs.Prelude.{◌≡◌, ◌⊎◌, List, [], ℕ, ◌-◌, ◌^◌, ◌<◌, get_or}
use Rattle.std.specs.Prelude.{Option, Some, None, Result, Ok, Err}
use Rattle.std.proofs.Math.Option.{none, some}
use Rattle.std.proofs.Math.Option as math
use Rattle.rules.specs.Ttlv as ttlv
use Rattle.ttlv.specs.declared.Item.{Item}
use Rattle.ttlv.specs.declared.Front.{Front}
use Rattle.ttlv.specs.declared.Front.TheVariants.{Value, Structure}
use Rattle.ttlv.specs.declared.ReadError.{ReadError}
use Rattle.ttlv.specs.declared.walk.Walk.{Walk}
use Rattle.ttlv.specs.declared.walk.Found.{Found}
use Rattle.ttlv.specs.ItemList.{item, list_at}
use Rattle.ttlv.specs.Between.{rest, Onward}

abbrev pub item_found : ℕ → ℕ → Front → Item
item_found d start (Value tag kind n next) = item tag kind d start n
item_found d start (Structure tag n) = item tag ttlv.Structure d start n

abbrev pub item_of : Found → Item
item_of f = item_found f.depth f.start f.front

pub record NumbersFit (i : Item) : Type 0 where
  pub depth_fits : i.depth < 2 ^ 32
  pub start_fits : i.start < 2 ^ 32
  pub length_fits : i.length < 2 ^ 32

-- ------------------------------------------------------------------------
-- The walk itself

abbrev pub left : Walk → math.Option (List Item)
left w = rest w.bytes.now w.ends w.levels w.at

-- the bytes are still to be read
pub record Starts (xs : List ℕ) (w : Walk) : Type 0 where
  pub over : w.bytes.now ≡ xs
  pub whole : left w ≡ list_at 1 0 xs

-- the same is left, and no structure ends here
pub record Closed (w now : Walk) : Type 0 where
  pub over : now.bytes.now ≡ w.bytes.now
  pub at_stays : now.at ≡ w.at
  pub left_stays : left now ≡ left w
  pub all_closed : now.levels ≡ 0 ⊎ (now.at ≡ get_or now.ends (now.levels - 1) 0 → ⊥)

-- an item was taken, or none is left, or the bytes are no items
abbrev pub Walked : Walk → Result (Option Found) ReadError → Walk → Type 0
Walked w (Ok (Some f)) now =
    (now.bytes.now ≡ w.bytes.now) × Onward w.bytes.now w.ends w.levels w.at (item_of f) now.ends now.levels now.at
Walked w (Ok None) now = left w ≡ some []
Walked w (Err e) now = left w ≡ none
