-- `wipe` meets its contract: what is not zeroed was not filled.
-- Assumes nothing.
use Rattle.std.proofs.Common.{sym, arith, length-take-le}
use Rattle.drive.specs.Acting.{replace_most}
use Rattle.drive.proofs.ActingLaws.{wiped, wiped_all}
use Rattle.drive.proofs.act.wipe.Goals as goal

pub slice_bounds-fill_zero-end-2 : goal.slice_bounds-fill_zero-end-2
slice_bounds-fill_zero-end-2 c =
    sym (length-take-le replace_most c.args.frame.now (omega arith))

pub returns-then-line : goal.returns-then-line
returns-then-line c left =
    wiped_all c.args.frame.now replace_most (omega arith) c.requires c.fill_zero.ensures c.fill_zero-then-line.ensures

pub returns-else-line : goal.returns-else-line
returns-else-line c left =
    let short = c.if-line.false in
    wiped c.args.line.now c.args.frame.now replace_most (omega arith) (omega arith) (omega arith) c.fill_zero.ensures c.requires left
