-- What the private functions give.
-- Assumes nothing.
use Rattle.std.specs.Prelude.{◌≡◌, ℕ, ◌%◌, ◌<◌, ◌≤◌, true, false, cond, List, length, ltb, Option, Some, None}
use Rattle.rules.specs.FrameLine.{is_digit, value_of, first_bad}

-- v is the value of the digit d; above 15 where d is no digit, and then its last four bits are zero
pub record Valued (d v : ℕ) : Type 0 where
  pub good : v ≤ 15 → is_digit d ≡ true
  pub bad : 15 < v → is_digit d ≡ false
  pub low : v % 16 ≡ value_of d

-- the place of the first bad digit, if there is one
abbrev pub bad_digit : List ℕ → Option ℕ
bad_digit line = cond (ltb (first_bad line) (length line)) (Some (first_bad line)) None
