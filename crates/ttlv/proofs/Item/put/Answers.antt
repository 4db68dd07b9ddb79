-- `put` meets its contract: a head, and then a value if the item has one.
-- Assumes nothing.
use native.Mathlib.Omega.{arith}
use mathlib.Core.Path.{sym, ap, ◌∙◌}
use mathlib.Core.List.{◌++◌}
use lib.ListN.{length, drop}
use lib.Seq.{length-take-le}
use Rattle.cells.proofs.CellsLaws.{lent_length}
use Rattle.rules.specs.Ttlv.{item_head}
use Rattle.rules.proofs.TtlvFrontLaws.{length_head}
use Rattle.ttlv.proofs.TreeLaws.{room_value}
use Rattle.ttlv.proofs.PutLaws.{room_head, piece_head, piece_by, after_head}
use Rattle.ttlv.proofs.Item.put.Goals as goal

pub slice_bounds-copy_from_slice-end : goal.slice_bounds-copy_from_slice-end
slice_bounds-copy_from_slice-end c = omega (arith, room_head c.args.self, c.requires.0)

pub slice_bounds-copy_from_slice-end-2 : goal.slice_bounds-copy_from_slice-end-2
slice_bounds-copy_from_slice-end-2 c =
    sym (length-take-le item_head c.args.out.now (omega (arith, room_head c.args.self, c.requires.0)))

pub copy_from_slice-requires : goal.copy_from_slice-requires
copy_from_slice-requires c =
    let i = c.args.self in
    length-take-le item_head c.args.out.now (omega (arith, room_head i, c.requires.0))
    ∙ sym (ap length c.head.ensures ∙ length_head i.tag i.kind i.length)

pub returns-then-self-eq-STRUCTURE : goal.returns-then-self-eq-STRUCTURE
returns-then-self-eq-STRUCTURE c =
    let s = c.args in
    let head_put = ap (◌++ drop item_head s.out.now) (c.copy_from_slice.ensures.after ∙ c.head.ensures) in
    head_put ∙ piece_head s.values.now s.self s.out.now c.if-self-eq-STRUCTURE.true

pub put_value-requires : goal.put_value-requires
put_value-requires c =
    let s = c.args in
    let p = c.requires in
    let head_put = ap (◌++ drop item_head s.out.now) (c.copy_from_slice.ensures.after ∙ c.head.ensures) in
    let n = lent_length s.self.start s.self.length s.values.now (p.1.there c.if-self-eq-STRUCTURE.false) in
    let r = room_value s.self c.if-self-eq-STRUCTURE.false in
    let q = p.0 in
    let l = after_head s.self s.out.now _ (omega (arith, room_head s.self)) head_put in
    rw n (omega arith)

pub returns : goal.returns
returns c =
    let s = c.args in
    let head_put = ap (◌++ drop item_head s.out.now) (c.copy_from_slice.ensures.after ∙ c.head.ensures) in
    piece_by s.values.now s.self s.out.now _ c.put_value.new.out c.if-self-eq-STRUCTURE.false c.requires.1 head_put c.put_value.ensures
