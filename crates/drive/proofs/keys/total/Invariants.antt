-- Assumes nothing.
use Rattle.std.proofs.Common.{◌≡◌, ◌+◌, ◌*◌, ◌≤◌, drop}
use Rattle.rules.specs.State.{total}
use Rattle.drive.proofs.keys.total.Given as goal

abbrev pub invariant-loop-n : goal.invariant-loop-n
invariant-loop-n l = (l.sum + total (drop l.n-index l.counts) ≡ total l.counts) × (l.sum ≤ l.n-index * 255)
