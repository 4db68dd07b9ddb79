-- The scan of the slots, namespace by namespace.
-- Assumes nothing.
use Rattle.std.specs.Prelude.{Bool, true, false, ◌||◌, List, ℕ, ◌/◌, take, drop, length}
use Rattle.std.specs.List.{list_any, zip}
use Rattle.std.specs.Simd.{first_chunks}
use Rattle.rules.specs.Numbers.{tags_most}
use Rattle.rules.specs.Sound.{slot_unsound}

-- one of a namespace's slots is unsound: those up to its tag count are at allocated tags, those behind are not
abbrev pub namespace_unsound : ℕ → List (List ℕ) → Bool
namespace_unsound count slots = list_any (λ c. slot_unsound false c) (take count slots) || list_any (λ c. slot_unsound true c) (drop count slots)

-- one of the slots, which lie namespace by namespace, is unsound
abbrev pub some_namespace_unsound : List ℕ → List (List ℕ) → Bool
some_namespace_unsound counts slots =
    list_any (λ p. namespace_unsound p.0 p.1) (zip counts (first_chunks tags_most (length slots / tags_most) slots))
