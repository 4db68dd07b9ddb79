-- Writing the message of a load: 07 0F for an output that has no room for the
-- message of a KeyUID of 16 bytes, then 07 17 for a key of other than 32 bytes,
-- then 07 18 for an empty or too long KeyUID. Nothing is written then. Else just
-- the message, and the output behind it stays.
-- Assumes nothing.
use Rattle.std.specs.Prelude.{◌≡◌, not, cond, List, ◌++◌, ℕ, ◌^◌, ◌<◌, length, take, drop, eqb, ltb, Result, Ok, Err}
use Rattle.std.proofs.Math.Option.{some}
use Rattle.rules.specs.Numbers.{key_size}
use Rattle.rules.specs.Frames.{bad_uid_length}
use Rattle.rules.specs.Ttlv.{AreBytes, encode}
use Rattle.rules.specs.Kmip.{load_of}
use Rattle.rules.specs.KmipMessage.{message_of}
use Rattle.kmip.specs.declared.WriteError.{WriteError}
use Rattle.kmip.specs.declared.WriteError.TheVariants.{NoRoom, NoKey, BadKeyUid}

abbrev pub message_room : ℕ
message_room = 408

abbrev pub message_bytes : ℕ → ℕ → List ℕ → List ℕ → List ℕ
message_bytes ns tag uid key = encode (message_of ns tag (record { uid = uid; key = key }))

pub record Wrote : Type 0 where
  pub result : Result ℕ WriteError
  pub out : List ℕ

unfoldable pub write_message : ℕ → ℕ → List ℕ → List ℕ → List ℕ → Wrote
write_message ns tag uid key out =
    let message = message_bytes ns tag uid key in
    cond (ltb (length out) message_room)
    (record { result = Err NoRoom; out = out })
    (cond (not (eqb (length key) key_size))
    (record { result = Err NoKey; out = out })
    (cond (bad_uid_length (length uid))
    (record { result = Err BadKeyUid; out = out })
    (record { result = Ok (length message); out = message ++ drop (length message) out })))

-- What was written, read for its namespace and tag, brings the KeyUID and the key.
abbrev pub WrittenReadsBack : Type 0
WrittenReadsBack =
    (ns tag : ℕ) (uid key out : List ℕ) (n : ℕ) → ns < 2 ^ 32 → tag < 2 ^ 32 → AreBytes uid → AreBytes key
    → (write_message ns tag uid key out).result ≡ Ok n
    → load_of ns tag (take n (write_message ns tag uid key out).out) ≡ some (record { uid = uid; key = key })
