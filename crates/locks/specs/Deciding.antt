-- What Set Features and a boot write make of the two boot partitions' states.
-- Assumes nothing.
use Rattle.std.specs.Prelude.{Bool, not, ◌&&◌, [], ◌∷◌, ℕ, ltb, Result, Ok, Err}
use Rattle.rules.specs.declared.BootLocks.{BootLocks}
use Rattle.rules.specs.declared.Lock.{Lock}
use Rattle.rules.specs.declared.Lock.TheVariants.{WriteUnlocked, WriteLockedUntilPowerCycle}
use Rattle.rules.specs.declared.Refusal.{Refusal}
use Rattle.rules.specs.Answer.{Answer}
use Rattle.rules.specs.declared.Granted.TheVariants.{Done}
use Rattle.rules.specs.Checks.{◌when◌, judged}
use Rattle.rules.specs.Answers.{00·02, 01·0E, 01·1E}
use Rattle.rules.specs.Locks.{invalid_fields, not_changeable, changed, partition, same_lock}

-- a partition in Until Power Cycle is asked for a different state
abbrev pub held : Lock → Lock → Bool
held lock next = same_lock lock WriteLockedUntilPowerCycle && not (same_lock next lock)

-- the pair, changed, or the refusal
unfoldable pub decided : BootLocks → ℕ → Result BootLocks Refusal
decided locks dword11 =
    judged
    (00·02 when invalid_fields dword11
    ∷ 01·0E when not_changeable locks dword11
    ∷ [])
    Err
    (Ok (changed locks dword11))

-- what a host is told of it
abbrev pub told : Result BootLocks Refusal → Answer
told (Ok locks) = Ok Done
told (Err r) = Err r

unfoldable pub boot_written : BootLocks → ℕ → Answer
boot_written locks p =
    judged
    (00·02 when ltb 1 p
    ∷ 01·1E when not (same_lock (partition p locks) WriteUnlocked)
    ∷ [])
    Err
    (Ok Done)
