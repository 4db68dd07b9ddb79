-- `first` meets its contract.
-- Assumes nothing.
use native.Mathlib.Omega.{arith}
use mathlib.Core.Path.{◌≡◌, sym, ap, ◌∙◌}
use lib.ListN.{length}
use Rattle.std.specs.Prelude.{Some}
use Rattle.ttlv.specs.declared.Front.TheVariants.{Value, Structure}
use Rattle.ttlv.specs.Reading.{item_at}
use Rattle.kmip.proofs.RunLaws.{none_here, value_inside, value_here, value_shorter, structure_inside, structure_here, structure_shorter}
use Rattle.kmip.proofs.members.first.Goals as goal
use Rattle.kmip.proofs.members.first.Goals.{In-Value, In-Structure}

pub returns-in_err-tag : goal.returns-in_err-tag
returns-in_err-tag c =
    rw c.from_residual.ensures (none_here c.args.run.bytes.now c.args.run.sound (sym c.item_at.ensures ∙ c.in_err-tag.was))

a_value : (c : In-Value)
    → item_at c.args.run.bytes.now 0 (length c.args.run.bytes.now) ≡ Some (Value c.in-Value.tag c.in-Value.kind c.in-Value.length c.in-Value.next)
a_value c = sym c.item_at.ensures ∙ c.in_ok-tag.was ∙ ap Some c.in-Value.is

pub overflow_add-value : goal.overflow_add-value
overflow_add-value c =
    let i = value_inside c.args.run.bytes.now c.args.run.sound _ _ _ _ (a_value c) in
    omega (arith, i.0, i.1)

pub slice_bounds-value-end : goal.slice_bounds-value-end
slice_bounds-value-end c =
    let i = value_inside c.args.run.bytes.now c.args.run.sound _ _ _ _ (a_value c) in
    omega (arith, i.0, i.1)

pub slice_bounds-bytes-count : goal.slice_bounds-bytes-count
slice_bounds-bytes-count c = (value_inside c.args.run.bytes.now c.args.run.sound _ _ _ _ (a_value (goal.at.slice_bounds-bytes-count c).In-Value)).1

pub slice_bounds-bytes-start : goal.slice_bounds-bytes-start
slice_bounds-bytes-start c =
    let i = value_inside c.args.run.bytes.now c.args.run.sound _ _ _ _ (a_value (goal.at.slice_bounds-bytes-start c).In-Value) in
    omega (arith, i.0, i.1)

pub invariant_of-result : goal.invariant_of-result
invariant_of-result c =
    record { sound = (value_here c.args.run.bytes.now c.args.run.sound _ _ _ _ (a_value (goal.at.invariant_of-result c).In-Value)).1 }

pub returns-in-Value : goal.returns-in-Value
returns-in-Value c =
    let e = a_value (goal.at.returns-in-Value c).In-Value in
    let h = value_here c.args.run.bytes.now c.args.run.sound _ _ _ _ e in
    record { is = h.0; shorter = value_shorter c.args.run.bytes.now c.args.run.sound _ _ _ _ e }

a_structure : (c : In-Structure)
    → item_at c.args.run.bytes.now 0 (length c.args.run.bytes.now) ≡ Some (Structure c.in-Structure.tag c.in-Structure.length)
a_structure c = sym c.item_at.ensures ∙ c.in_ok-tag.was ∙ ap Some c.in-Structure.is

pub overflow_add-next : goal.overflow_add-next
overflow_add-next c =
    let i = structure_inside c.args.run.bytes.now c.args.run.sound _ _ (a_structure c) in
    omega (arith, i)

pub slice_bounds-members-end : goal.slice_bounds-members-end
slice_bounds-members-end c =
    let i = structure_inside c.args.run.bytes.now c.args.run.sound _ _ (a_structure (goal.at.slice_bounds-members-end c).In-Structure) in
    omega (arith, i)

pub invariant_of-body : goal.invariant_of-body
invariant_of-body c =
    record { sound = (structure_here c.args.run.bytes.now c.args.run.sound _ _ (a_structure (goal.at.invariant_of-body c).In-Structure)).1 }

pub slice_bounds-bytes-count-in-Structure : goal.slice_bounds-bytes-count-in-Structure
slice_bounds-bytes-count-in-Structure c =
    structure_inside c.args.run.bytes.now c.args.run.sound _ _ (a_structure (goal.at.slice_bounds-bytes-count-in-Structure c).In-Structure)

pub slice_bounds-bytes-start-in-Structure : goal.slice_bounds-bytes-start-in-Structure
slice_bounds-bytes-start-in-Structure c =
    let i = structure_inside c.args.run.bytes.now c.args.run.sound _ _ (a_structure (goal.at.slice_bounds-bytes-start-in-Structure c).In-Structure) in
    omega (arith, i)

pub invariant_of-result-in-Structure : goal.invariant_of-result-in-Structure
invariant_of-result-in-Structure c =
    record { sound = (structure_here c.args.run.bytes.now c.args.run.sound _ _ (a_structure (goal.at.invariant_of-result-in-Structure c).In-Structure)).2 }

pub returns-in-Structure : goal.returns-in-Structure
returns-in-Structure c =
    let e = a_structure (goal.at.returns-in-Structure c).In-Structure in
    record {
      is = (structure_here c.args.run.bytes.now c.args.run.sound _ _ e).0;
      shorter = structure_shorter c.args.run.bytes.now c.args.run.sound _ _ e;
    }
