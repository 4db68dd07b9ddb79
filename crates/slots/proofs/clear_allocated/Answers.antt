-- `clear_allocated` meets its contract: so many namespaces are cleared up to their counts.
-- Assumes nothing.
use native.Mathlib.Omega.{arith}
use mathlib.Core.Path.{◌≡◌, refl, ap, ◌∙◌}
use Rattle.rules.specs.Numbers.{namespaces}
use Rattle.slots.specs.Cache.{cleared_first}
use Rattle.slots.proofs.ClearLaws.{cleared_next, nothing_next}
use Rattle.slots.proofs.clear_allocated.Goals as goal
use Rattle.slots.proofs.clear_allocated.Goals.{then-managed, else-managed}

pub loop-i-init : goal.loop-i-init
unfolding cleared_first
loop-i-init c = refl

pub loop-i-preserved : goal.loop-i-preserved
loop-i-preserved c =
    elim c.if-managed.branch [
      | then-managed w ↦ cleared_next c.args.counts c.args.keys.now c.loop-i.i c.loop-i.invariant (w.keys-is ∙ w.clear_up_to.ensures)
      | else-managed w ↦ w.keys-is ∙ nothing_next c.args.counts c.args.keys.now c.loop-i.i c.loop-i.invariant (omega (arith, w.if-managed.false))
    ]

pub returns : goal.returns
returns c =
    let all : c.loop-i.i ≡ namespaces = omega arith in
    c.loop-i.invariant ∙ ap (λ n. cleared_first n c.args.counts c.args.keys.now) all
