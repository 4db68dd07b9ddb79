-- `next_item` meets its contract: each way out is a step.
-- Assumes nothing.
use native.Mathlib.Omega.{arith}
use mathlib.Core.Path.{sym, ap, ◌∙◌}
use Rattle.std.specs.Prelude.{Some}
use Rattle.std.proofs.lemmas.Result.{err_from_is_err_and}
use Rattle.ttlv.proofs.WalkLaws.{walk_end, step_deep, step_broken, step_value, behind_value, structure_fits, step_structure, in_structure}
use Rattle.ttlv.proofs.walk.Walk.next_item.Goals as goal

pub returns-then-self-eq0 : goal.returns-then-self-eq0
returns-then-self-eq0 c = sym c.close.ensures.left_stays ∙ walk_end _ _ _ _ c.if-self-eq0.true

pub returns-then-self-gt-DEEPEST : goal.returns-then-self-gt-DEEPEST
returns-then-self-gt-DEEPEST c = step_deep c.close.ensures c.if-self-eq0.false c.if-self-gt-DEEPEST.true

pub returns-in_err-front : goal.returns-in_err-front
returns-in_err-front c =
    let p = err_from_is_err_and c.from_residual.result c.from_residual.ensures.1 in
    rw p.1 (step_broken c.close.ensures c.if-self-eq0.false c.if-self-gt-DEEPEST.false c.item_at.ensures c.in_err-front.ensures.ok_part)

pub invariant_of-self : goal.invariant_of-self
invariant_of-self c =
    let e = c.in_ok-front.ensures.ok_part ∙ ap Some c.in-Value.is in
    let b = behind_value c.close.ensures c.if-self-eq0.false c.if-self-gt-DEEPEST.false c.item_at.ensures e in
    record { inside = b.inside; few = b.few; nested = b.nested }

pub returns-in-Value : goal.returns-in-Value
returns-in-Value c =
    let e = c.in_ok-front.ensures.ok_part ∙ ap Some c.in-Value.is in
    (c.close.ensures.over, step_value c.close.ensures c.if-self-eq0.false c.if-self-gt-DEEPEST.false c.item_at.ensures e)

pub overflow_add-self : goal.overflow_add-self
overflow_add-self c =
    let e = c.in_ok-front.ensures.ok_part ∙ ap Some c.in-Structure.is in
    let l = structure_fits c.close.ensures c.if-self-eq0.false c.if-self-gt-DEEPEST.false c.item_at.ensures e in
    omega arith

pub invariant_of-self-in-Structure : goal.invariant_of-self-in-Structure
invariant_of-self-in-Structure c =
    let e = c.in_ok-front.ensures.ok_part ∙ ap Some c.in-Structure.is in
    let b = in_structure c.close.ensures c.if-self-eq0.false c.if-self-gt-DEEPEST.false c.item_at.ensures e (omega arith) in
    record { inside = b.inside; few = b.few; nested = b.nested }

pub returns-in-Structure : goal.returns-in-Structure
returns-in-Structure c =
    let e = c.in_ok-front.ensures.ok_part ∙ ap Some c.in-Structure.is in
    (c.close.ensures.over, step_structure c.close.ensures c.if-self-eq0.false c.if-self-gt-DEEPEST.false c.item_at.ensures e (omega arith))
