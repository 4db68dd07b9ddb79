-- `set_each` meets its contract: the first i cells are set, the rest is as it was.
-- Assumes nothing.
use mathlib.Core.Path.{ap, ◌∙◌}
use mathlib.Core.List.{◌++◌}
use native.Mathlib.Nat.{zero-mul, le_antisymm}
use Prim.Native.Nat.{◌*◌}
use lib.ListN.{drop}
use Rattle.cells.specs.Cells.{copies}
use Rattle.marks.proofs.StoreLaws.{set_next, set_all}
use Rattle.marks.proofs.set_each.Goals as goal

pub loop-i-init : goal.loop-i-init
unfolding copies
loop-i-init g c = rw zero-mul

pub loop-i-preserved : goal.loop-i-preserved
loop-i-preserved g c =
    rw (c.copy_from_slice.ensures.after) (set_next g.row.W c.loop-i.i c.args.cell.now c.args.cells.now c.told-cell c.loop-i.invariant)

pub returns : goal.returns
returns g c =
    let all = le_antisymm c.loop-i.auto.i-end c.loop-i-test.false in
    c.loop-i.invariant
    ∙ ap (λ i. copies i c.args.cell.now ++ drop (i * g.row.W) c.args.cells.now) all
    ∙ set_all g.row.W c.args.cell.now c.args.cells.now c.requires.whole
