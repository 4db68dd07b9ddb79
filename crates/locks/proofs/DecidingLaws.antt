-- The fields of Dword 11 by masks and shifts, a number that no state has, and
-- what `decided` is where every test passes.
-- Assumes nothing.
use Rattle.std.specs.Prelude.{Result, Ok}
use mathlib.Core.Path.{◌≡◌, refl, ap, ◌∙◌}
use mathlib.Core.Bool.{false}
use Prim.Native.Nat.{ℕ, zero, suc, ◌<◌, ◌≤◌, ◌/◌, ◌^◌}
use native.Mathlib.Omega.{arith}
use lib.Bits.{bit_and, and_mask}
use borrow.Author.Tests.{le-ltb}
use Rattle.rules.specs.declared.Lock.{Lock}
use Rattle.rules.specs.declared.Lock.TheVariants.{WriteUnlocked, WriteLocked, WriteLockedUntilPowerCycle}
use Rattle.rules.specs.declared.Refusal.{Refusal}
use Rattle.cells.proofs.PredicatesLaws.{neither}
use Rattle.rules.specs.declared.BootLocks.{BootLocks}
use Rattle.rules.specs.Fields.{bits}
use Rattle.rules.specs.Locks.{lock_value, field0, field1, invalid_fields, asked, not_changeable}
use Rattle.locks.specs.Deciding.{held, decided}

-- ------------------------------------------------------------------------
-- Masks and shifts

pub field0_mask : (d : ℕ) → bit_and d 7 ≡ field0 d
field0_mask d = rw (and_mask d 3) (omega arith)

-- where no bit above field 1 is set
pub field1_shift : (d : ℕ) → d / 64 ≡ 0 → d / 8 ≡ field1 d
field1_shift d none = omega arith

pub rest_shift : (d : ℕ) → d < 2 ^ 32 → d / 64 ≡ bits 31 6 d
rest_shift d fits = omega arith

pub ruleset fields = (field0_mask, field1_shift, rest_shift)

-- ------------------------------------------------------------------------
-- A number that is no state's value, nor 0

pub no_state : (field : ℕ) → (field ≡ 0 → ⊥) → ((lock : Lock) → lock_value lock ≡ field → ⊥) → 3 < field
no_state zero some none = absurd (some refl)
no_state (suc zero) some none = absurd (none WriteUnlocked refl)
no_state (suc (suc zero)) some none = absurd (none WriteLocked refl)
no_state (suc (suc (suc zero))) some none = absurd (none WriteLockedUntilPowerCycle refl)
no_state (suc (suc (suc (suc field)))) some none = omega arith

-- ------------------------------------------------------------------------
-- Where every test passes

module _ (locks : BootLocks) (d : ℕ) (fits : d < 2 ^ 32) (none : d / 64 ≡ 0) {f g : ℕ} {p q : Lock} where
  -- f and g are the fields, however they were taken out
  pub decided_done : f ≡ field0 d → g ≡ field1 d → f ≤ 3 → g ≤ 3
      → p ≡ asked f locks.partition0 → q ≡ asked g locks.partition1
      → held locks.partition0 p ≡ false → held locks.partition1 q ≡ false
      → ◌≡◌ {A = Result BootLocks Refusal} (Ok (record { partition0 = p; partition1 = q })) (decided locks d)
  unfolding decided
  decided_done e0 e1 low0 low1 is0 is1 free0 free1 =
      let valid : invalid_fields d ≡ false = rw (← e0, ← e1, ← rest_shift d fits, le-ltb _ _ low0, le-ltb _ _ low1, none) in
      let free : not_changeable locks d ≡ false = rw (← e0, ← e1) (neither _ _ (rw is0 at free0) (rw is1 at free1)) in
      rw (is0 ∙ ap (λ n. asked n locks.partition0) e0, is1 ∙ ap (λ n. asked n locks.partition1) e1, valid, free)
