-- Assumes nothing.
use mathlib.Core.Path.{◌≡◌}
use Rattle.aes.specs.declared.Block.{Block}
use Rattle.wrap.specs.Steps.{Computes, unwrap_steps_by}
use Rattle.wrap.proofs.steps.unwrap_steps.Given as goal

abbrev pub invariant-loop-t : goal.invariant-loop-t
invariant-loop-t g l =
    (f : Block → Block) → Computes (goal.F-post g l.inverse) f → unwrap_steps_by f l.t-counter l.bytes ≡ unwrap_steps_by f 24 l.initial.bytes
