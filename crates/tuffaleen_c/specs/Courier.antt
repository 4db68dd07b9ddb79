-- Unwrapping, as a call from C leaves it, in place: the integrity value and the key,
-- or 07 10 and zeros.
-- Assumes nothing.
use Rattle.std.proofs.Math.Option.{Option, none, some}
use Rattle.std.specs.Prelude.{List, ◌++◌, ℕ, Ok, Err}
use Rattle.cells.specs.Cells.{zeros}
use Rattle.rules.specs.declared.Granted.TheVariants.{Done}
use Rattle.rules.specs.Numbers.{wrapped_size}
use Rattle.rules.specs.Answers.{07·10, number}
use Rattle.rules.specs.KeyWrap.{initial_value, unwrap}

pub record CUnwrapped : Type 0 where
  pub number : ℕ
  pub bytes : List ℕ

abbrev pub unwrapped : Option (List ℕ) → CUnwrapped
unwrapped none = record { number = number (Err 07·10); bytes = zeros wrapped_size }
unwrapped (some key) = record { number = number (Ok Done); bytes = initial_value ++ key }

unfoldable pub c_unwrap : List ℕ → List ℕ → CUnwrapped
c_unwrap kek bytes = unwrapped (unwrap kek bytes)
