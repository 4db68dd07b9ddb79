-- Assumes nothing.
use mathlib.Core.Path.{◌≡◌}
use Prim.Native.Nat.{ℕ, ◌-◌}
use Rattle.aes.specs.declared.Block.{Block}
use Rattle.aes.specs.ByTables.{Gives, rounds_with}
use Rattle.aes.proofs.columns.Tables.cipher.Given as goal

abbrev pub invariant-loop-r : goal.invariant-loop-r
invariant-loop-r g l = (k : ℕ → Block) → Gives (goal.F-post g l.key) k → l.s ≡ rounds_with l.self.mix.now k (l.r - 1) l.initial.s
