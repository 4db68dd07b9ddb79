-- `out_of_range` meets its contract: a first block past the end is out of range whatever is added to it.
-- Assumes nothing.
use Rattle.std.proofs.Common.{◌+◌, sym, arith, lt-ltb}
use Rattle.rules.specs.Numbers.{blocks_each}
use Rattle.drive.proofs.io.out_of_range.Goals as goal

pub returns-then-c : goal.returns-then-c
returns-then-c c =
    let r = c.args.c in
    sym (lt-ltb blocks_each (r.first + r.more + 1) (omega arith))
