-- `same_head` meets its contract: the length, then half by half.
-- Assumes nothing.
use native.Mathlib.Omega.{arith}
use mathlib.Core.Path.{sym, ◌∙◌}
use mathlib.Core.Bool.{true≢false}
use borrow.Author.Tests.{eq-eqb, ne_eqb}
use Rattle.cells.specs.Cells.{part}
use Rattle.slots.proofs.CacheLaws.{slot_head_parts}
use Rattle.slots.proofs.search.same_head.Goals as goal
use Rattle.slots.proofs.search.same_head.Goals.{then-slot-head, else-slot-head}

pub returns-then-same_run : goal.returns-then-same_run
unfolding part
returns-then-same_run c =
    let parts = slot_head_parts c.args.slot.now c.told-slot c.args.head.now 8 c.told-head (omega arith) in
    elim c.if-slot-head.branch [
      | then-slot-head w ↦ c.same_run-then-same_run.ensures
          ∙ sym (parts ∙ (rw (eq-eqb _ _ w.if-slot-head.true, sym w.same_run.ensures ∙ sym w.value-is ∙ c.if-same_run.true)))
      | else-slot-head w ↦ absurd (true≢false (sym c.if-same_run.true ∙ w.value-is ∙ ne_eqb _ _ w.if-slot-head.false))
    ]

pub returns-else-same_run : goal.returns-else-same_run
unfolding part
returns-else-same_run c =
    let parts = slot_head_parts c.args.slot.now c.told-slot c.args.head.now 8 c.told-head (omega arith) in
    elim c.if-slot-head.branch [
      | then-slot-head w ↦ c.if-same_run.false
          ∙ sym (parts ∙ (rw (eq-eqb _ _ w.if-slot-head.true, sym w.same_run.ensures ∙ sym w.value-is ∙ c.if-same_run.false)))
      | else-slot-head w ↦ c.if-same_run.false ∙ sym (parts ∙ (rw (ne_eqb _ _ w.if-slot-head.false)))
    ]
