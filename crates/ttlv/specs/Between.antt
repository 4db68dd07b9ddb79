-- Where a walk over the items of some bytes stands between two of them, and what
-- an item that it takes leaves.
-- Assumes nothing.
use Rattle.std.specs.Prelude.{◌≡◌, List, [], ◌∷◌, ℕ, zero, suc, ◌+◌, ◌-◌, ◌≤◌, length, get_or}
use Rattle.std.specs.Coded.{×_prop, Unit-prop, le_prop}
use Rattle.std.proofs.Math.Option.{some}
use Rattle.std.proofs.Math.Option as math
use Rattle.cells.specs.Cells.{part}
use Rattle.rules.specs.Ttlv.{item_head, deepest}
use Rattle.ttlv.specs.declared.Item.{Item}
use Rattle.ttlv.specs.ItemList.{list_at, join}

-- what is still to be read: from `at` to the innermost end, then from there to the next one, and so on
unfoldable pub rest : List ℕ → List ℕ → ℕ → ℕ → math.Option (List Item)
rest xs ends zero at = some []
rest xs ends (suc k) at = join (list_at (suc k) at (part at (get_or ends k 0 - at) xs)) (rest xs ends k (get_or ends k 0))

unfoldable pub Nested : List ℕ → List ℕ → ℕ → ℕ → Type 0
Nested xs ends zero at = Unit {0}
Nested xs ends (suc k) at = (at ≤ get_or ends k 0) × ((get_or ends k 0 ≤ length xs) × Nested xs ends k (get_or ends k 0))

pub Nested-prop : (xs ends : List ℕ) (levels at : ℕ) → IsProp (Nested xs ends levels at)
unfolding Nested
Nested-prop xs ends zero at = Unit-prop
Nested-prop xs ends (suc k) at = ×_prop le_prop (×_prop le_prop (Nested-prop xs ends k (get_or ends k 0)))

-- some structures are open, each end inside the one before it
pub record Between (xs ends : List ℕ) (levels at : ℕ) : Type 0 where
  pub inside : at ≤ length xs
  pub few : levels ≤ suc deepest
  pub nested : Nested xs ends levels at

-- an item was taken, and the walk stands behind its head or its value
pub record Onward (xs ends : List ℕ) (levels at : ℕ) (i : Item) (ends' : List ℕ) (levels' at' : ℕ) : Type 0 where
  pub on : at + item_head ≤ at'
  pub depth_fits : i.depth ≤ deepest
  pub inside : i.start + i.length ≤ length xs
  pub taken : rest xs ends levels at ≡ join (some (i ∷ [])) (rest xs ends' levels' at')
