-- What the private functions name: the search for another key, namespace by
-- namespace.
-- Assumes nothing.
use Rattle.std.specs.Prelude.{Bool, List, ℕ, ◌/◌, take, length}
use Rattle.std.specs.List.{list_any, zip}
use Rattle.std.specs.Simd.{first_chunks}
use Rattle.rules.specs.Numbers.{tags_most}
use Rattle.slots.specs.Cache.{other_key_behind}

-- one of a namespace's slots whose tag is below this count has this head and another key
abbrev pub other_key_below : List ℕ → List ℕ → ℕ → List (List ℕ) → Bool
other_key_below head key count slots = list_any (λ c. other_key_behind head key c) (take count slots)

-- one of the slots, which lie namespace by namespace, is so
abbrev pub other_key_in_namespaces : List ℕ → List ℕ → List ℕ → List (List ℕ) → Bool
other_key_in_namespaces counts head key slots =
    list_any (λ p. other_key_below head key p.0 p.1) (zip counts (first_chunks tags_most (length slots / tags_most) slots))
