-- `digits::write_line` meets its contract: the digits, then the line feed behind them.
-- Assumes nothing.
use Rattle.std.proofs.Common.{arith}
use Rattle.digits.proofs.WritingLaws.{wrote_not, wrote_all}
use Rattle.digits.proofs.writing.write_line.Goals as goal

pub returns-then-out-n : goal.returns-then-out-n
returns-then-out-n c =
    let s = c.args in
    λ a e. wrote_not a s.bytes.now s.out.now e c.if-out-n.true

pub returns : goal.returns
returns c =
    let s = c.args in
    λ a e. rw c.put_digits.ensures (wrote_all a s.bytes.now s.out.now e (omega arith))
