-- The mark store after marks were set. What reaches past the store, or is no
-- mark, changes nothing.
-- Assumes nothing.
use Rattle.std.specs.Prelude.{Bool, false, ◌&&◌, cond, List, ℕ, ◌-◌, length, eqb, leb}
use Rattle.cells.specs.Cells.{fill}
use Rattle.cells.specs.Predicates.{some_cell}
use Rattle.rules.specs.declared.Namespace.{Namespace}
use Rattle.rules.specs.Numbers.{blocks_each, mark_width, mark_places, store_size}
use Rattle.rules.specs.State.{no_namespace}
use Rattle.rules.specs.Marks.{block_of, never_written, differs}

-- a store of the right size, and a run of its marks
abbrev pub in_store : List ℕ → ℕ → ℕ → Bool
in_store marks first n = eqb (length marks) store_size && leb first mark_places && leb n (mark_places - first)

-- one of the n marks from first is of a written block and differs from this identity
unfoldable pub some_differs : ℕ → ℕ → List ℕ → List ℕ → Bool
some_differs first n identity marks = cond (in_store marks first n) (some_cell mark_width first n (λ block m. differs identity m) marks) false

unfoldable pub marked : ℕ → ℕ → List ℕ → List ℕ → List ℕ
marked first n identity marks = cond (in_store marks first n && eqb (length identity) mark_width) (fill mark_width first n identity marks) marks

unfoldable pub zeroed : Namespace → List ℕ → List ℕ
zeroed ns marks = cond (eqb (length marks) store_size) (cond (no_namespace ns) marks (fill mark_width (block_of ns 0) blocks_each never_written marks)) marks
