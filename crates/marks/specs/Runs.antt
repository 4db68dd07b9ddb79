-- What the private functions name.
-- Assumes nothing.
use Rattle.std.specs.Prelude.{Bool, List, ℕ, ◌/◌, length}
use Rattle.std.specs.List.{list_any}
use Rattle.std.specs.Simd.{first_chunks}
use Rattle.rules.specs.Numbers.{mark_width}
use Rattle.rules.specs.Marks.{differs}

-- the marks that one step sets or compares
abbrev pub run : ℕ
run = 16

-- the marks that lie one behind the other in these bytes
abbrev pub marks_of : List ℕ → List (List ℕ)
marks_of bytes = first_chunks mark_width (length bytes / mark_width) bytes

-- one of them is of a written block and differs from this identity
abbrev pub one_differs : List ℕ → List ℕ → Bool
one_differs identity bytes = list_any (λ m. differs identity m) (marks_of bytes)
