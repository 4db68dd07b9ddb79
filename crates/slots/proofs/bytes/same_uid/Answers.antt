-- `same_uid` meets its contract: the part that is compared is the slot's KeyUID.
-- Assumes nothing.
use native.Mathlib.Omega.{arith}
use mathlib.Core.Path.{◌≡◌, ap, ◌∙◌}
use Prim.Native.Nat.{min, ◌-◌}
use lib.ListN.{length, take, drop, length-drop}
use lib.Seq.{length-take-le}
use Rattle.cells.specs.Predicates.{same}
use Rattle.rules.specs.Numbers.{slot_width}
use Rattle.rules.specs.Slots.{uid_length}
use Rattle.slots.proofs.CacheLaws.{uid_taken}
use Rattle.slots.proofs.bytes.same_uid.Goals as goal

pub returns : goal.returns
returns c =
    let slot = c.args.slot.now in
    let l : length (take (slot_width - 1) (drop 1 c.args.slot.now)) ≡ slot_width - 1 =
    length-take-le (slot_width - 1) (drop 1 slot) (simp length-drop (omega arith)) in
    let n : c.min-n.result ≡ min (uid_length c.args.slot.now) (slot_width - 1) =
    c.min-n.ensures ∙ ap (λ k. min k (length (take (slot_width - 1) (drop 1 slot)))) c.from.ensures ∙ ap (min (uid_length slot)) l in
    c.equal.ensures ∙ ap (λ uid. same uid c.args.uid.now) (uid_taken slot c.told-slot n)
