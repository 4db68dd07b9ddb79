-- What is promised to a courier's two ends, of the code: of what `tuffaleen_wrap`
-- and `tuffaleen_unwrap` leave (Leaves.antt). proofs/Courier.antt has a proof of each.
-- Assumes nothing.
use Rattle.std.specs.Prelude.{◌≡◌, List, ◌++◌, ℕ, length, Ok, Err}
use Rattle.std.proofs.Math.Option.{none, some}
use Rattle.cells.specs.Cells.{zeros}
use Rattle.rules.specs.declared.Granted.TheVariants.{Done}
use Rattle.rules.specs.Numbers.{key_size, kek_size, wrapped_size}
use Rattle.rules.specs.Answers.{07·10, number}
use Rattle.rules.specs.AesPromises.{Bytes}
use Rattle.rules.specs.KeyWrap.{initial_value, unwrap}
use Rattle.tuffaleen_c.specs.Courier.{CUnwrapped}
use Rattle.promises.specs.Leaves.{WrapLeaves, UnwrapLeaves}

-- What is shut with a key-encryption key opens with it: DONE, and behind the integrity value the key, for every key.
abbrev pub OpensWhatWasShut : Type 0
OpensWhatWasShut =
    (kek front key : List ℕ) → Bytes kek_size kek → length front ≡ length initial_value → Bytes key_size key
    → (shut : List ℕ) → WrapLeaves kek (front ++ key) shut
    → (o : CUnwrapped) → UnwrapLeaves kek shut o
    → o ≡ record { number = number (Ok Done); bytes = initial_value ++ key }

-- A drive with that key-encryption key opens it too: a wrapped load of it is a load of the key (`WrappedLoadsAsClear`).
abbrev pub DriveOpensWhatWasShut : Type 0
DriveOpensWhatWasShut =
    (kek front key : List ℕ) → Bytes kek_size kek → length front ≡ length initial_value → Bytes key_size key
    → (shut : List ℕ) → WrapLeaves kek (front ++ key) shut
    → unwrap kek shut ≡ some key

-- What does not open is refused 07 10, and nothing of it is left.
abbrev pub NothingOfWhatStaysShut : Type 0
NothingOfWhatStaysShut =
    (kek bytes : List ℕ) (o : CUnwrapped) → UnwrapLeaves kek bytes o
    → unwrap kek bytes ≡ none → o ≡ record { number = number (Err 07·10); bytes = zeros wrapped_size }

pub record CourierDemands : Type 0 where
  pub opens_what_was_shut : OpensWhatWasShut
  pub drive_opens_what_was_shut : DriveOpensWhatWasShut
  pub nothing_of_what_stays_shut : NothingOfWhatStaysShut
