-- `reset` meets its contract.
-- Assumes nothing.
use Rattle.std.proofs.Common.{◌≡◌, ◌∙◌, [], arith, lt-ltb}
use Rattle.rules.specs.Effects.{empty_all_slots}
use Rattle.rules.specs.Order.{reset}
use Rattle.slots.proofs.ClearLaws.{sound_clear_allocated}
use Rattle.drive.specs.Acting.{state}
use Rattle.drive.proofs.boot.reset.Goals as goal

pub returns-then-level-gt1 : goal.returns-then-level-gt1
unfolding reset
returns-then-level-gt1 c =
    λ marks.
    rw (lt-ltb 1 c.args.level c.if-level-gt1.true)

pub returns-then-level-eq1 : goal.returns-then-level-eq1
unfolding reset empty_all_slots
returns-then-level-eq1 c =
    λ marks.
    let a = c.args in
    let emptied = c.clear_allocated.ensures ∙ sound_clear_allocated (state a.registers.now a.keys.now []) c.requires in
    rw (c.both_locked-registers.ensures, emptied, c.if-level-eq1.true)

pub returns-else-level-eq1 : goal.returns-else-level-eq1
unfolding reset
returns-else-level-eq1 c =
    λ marks.
    let zero : c.args.level ≡ 0 = omega (arith, c.if-level-gt1.false, c.if-level-eq1.false) in
    rw zero
