-- Assumes nothing.
use mathlib.Core.Path.{◌≡◌}
use Prim.Native.Nat.{◌-◌}
use Rattle.aes.specs.declared.Block.{Block}
use Rattle.wrap.specs.Steps.{Computes, wrap_steps_by}
use Rattle.wrap.proofs.steps.wrap_steps.Given as goal

abbrev pub invariant-loop-t : goal.invariant-loop-t
invariant-loop-t g l = (f : Block → Block) → Computes (goal.F-post g l.cipher) f → l.bytes ≡ wrap_steps_by f (l.t-counter - 1) l.initial.bytes
