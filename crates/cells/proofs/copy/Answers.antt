-- `cells::copy` meets its contract: the first i bytes are those of src, the rest is as it was.
-- Assumes nothing.
use Rattle.std.proofs.Common.{◌≡◌, ◌∙◌, ap, arith, length, set, get_or, length-set, eq-eqb, ne_eqb}
use Rattle.cells.proofs.CellsLaws.{copy_more, copy_end}
use Rattle.cells.proofs.copy.Goals as goal

pub returns-then-part-src : goal.returns-then-part-src
returns-then-part-src c =
    rw (ne_eqb (length c.args.part.now) (length c.args.src.now) c.if-part-src.true)

pub loop-i-preserved : goal.loop-i-preserved
loop-i-preserved c =
    let part = c.args.part.now in
    let src = c.args.src.now in
    let i = c.loop-i.i in (
      ap (λ d. set d i (get_or src i 0)) c.loop-i.invariant.0 ∙ copy_more part src i (omega arith) (omega arith),
      simp length-set c.loop-i.invariant.1,
    )

pub returns : goal.returns
returns c =
    let part = c.args.part.now in
    let src = c.args.src.now in
    let same : length part ≡ length src = omega arith in
    c.loop-i.invariant.0 ∙ copy_end part src c.loop-i.i (omega arith) same ∙ (rw (eq-eqb (length part) (length src) same))
