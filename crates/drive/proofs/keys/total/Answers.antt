-- `total` meets its contract: the sum so far and the rest are the whole.
-- Assumes nothing.
use Rattle.std.proofs.Common.{◌≡◌, length, arith, rules}
use Rattle.rules.specs.Numbers.{namespaces}
use Rattle.rules.proofs.SoundLaws.{total_end}
use Rattle.drive.proofs.keys.total.Goals as goal

pub returns : goal.returns
returns c =
    let counts = c.args.counts.now in
    let size : length counts ≡ namespaces = search rules in
    let none = total_end counts c.loop-n.n-index (omega arith) in
    (omega arith, omega arith)
