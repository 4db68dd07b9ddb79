-- What reading a message leaves: the KeyUID and the key at the front of the output,
-- or one of three refusals and the output as it was.
-- Assumes nothing.
use Rattle.std.specs.Prelude.{cond, List, ◌++◌, ℕ, ◌+◌, length, drop, ltb, Result, Ok, Err}
use Rattle.std.specs.Prelude.{Some, None}
use Rattle.std.specs.Prelude as std
use Rattle.std.proofs.Math.Option.{Option, none, some}
use Rattle.rules.specs.Numbers.{uid_most, key_size}
use Rattle.rules.specs.Slots.{Contents}
use Rattle.rules.specs.Frames.{bad_uid_length}
use Rattle.rules.specs.Kmip.{load_of}
use Rattle.kmip.specs.declared.message.Load.{Load}
use Rattle.kmip.specs.declared.ReadError.{ReadError}
use Rattle.kmip.specs.declared.ReadError.TheVariants.{NoRoom, NoLoad, BadKeyUid}

pub record Told : Type 0 where
  pub result : Result ℕ ReadError
  pub out : List ℕ

-- nothing is 07 17, and then an empty or too long KeyUID 07 18
abbrev pub told : Option Contents → List ℕ → Told
told none out = record { result = Err NoLoad; out = out }
told (some x) out =
    cond (bad_uid_length (length x.uid))
    (record { result = Err BadKeyUid; out = out })
    (record { result = Ok (length x.uid); out = (x.uid ++ x.key) ++ drop (length x.uid + key_size) out })

unfoldable pub read_message : ℕ → ℕ → List ℕ → List ℕ → Told
read_message ns tag message out =
    cond (ltb (length out) (uid_most + key_size)) (record { result = Err NoRoom; out = out }) (told (load_of ns tag message) out)

-- what a function found to be brought
abbrev pub shown : Load → Contents
shown l = record { uid = l.uid.now; key = l.key.now }

abbrev pub loaded : std.Option Load → Option Contents
loaded None = none
loaded (Some l) = some (shown l)
