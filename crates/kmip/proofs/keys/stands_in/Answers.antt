-- `stands_in` meets its contract.
-- Assumes nothing.
use mathlib.Core.Path.{sym, ap, ◌∙◌}
use mathlib.Core.Bool.{Bool, cond}
use Rattle.rules.specs.Kmip.{Want, has, ◌is_a◌with◌, is}
use Rattle.kmip.specs.declared.run.Run.{Run}
use Rattle.kmip.specs.Runs.{items_of, type_of}
use Rattle.kmip.proofs.RowLaws.{row_alone}
use Rattle.kmip.proofs.keys.stands_in.Goals as goal
use Rattle.kmip.proofs.keys.stands_in.Goals.{then-absent, else-absent}

pub returns : goal.returns
returns c =
    let s = c.args in
    let want : Want = s.tag is_a type_of s.kind with is s.n in
    let has_it : Run → Bool = λ r. has want (items_of r) in
    let chosen : Bool → Bool = λ b. cond b (has want (items_of s.block)) (has want (items_of s.parameters)) in
    c.is_some.ensures
    ∙ row_alone want (items_of c.if-absent.run) _ c.numbered.ensures
    ∙ elim c.if-absent.branch [
      | then-absent w ↦ ap has_it w.run-is ∙ sym (ap chosen (sym c.absent.ensures ∙ w.if-absent.true))
      | else-absent w ↦ ap has_it w.run-is ∙ sym (ap chosen (sym c.absent.ensures ∙ w.if-absent.false))
    ]
