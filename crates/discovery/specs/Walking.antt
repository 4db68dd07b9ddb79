-- What the walk over the features finds.
-- Assumes nothing.
use Rattle.std.specs.Prelude.{◌≡◌, List, [], ℕ, Option, unwrap_or, option_map}
use Rattle.std.specs.Borrow.{Bor}
use Rattle.rules.specs.Discovering.{features, first_of}

-- the bytes lent, none where there is no feature
abbrev pub bytes_of : Option (Bor (List ℕ)) → List ℕ
bytes_of f = unwrap_or (option_map (λ b. b.now) f) []

-- f is the first feature of a code
abbrev pub First : Option (Bor (List ℕ)) → ℕ → List ℕ → Type 0
First f code d = first_of code (features 0 d) ≡ bytes_of f
