-- `set_by_runs` meets its contract: the whole runs, and the marks behind them.
-- Assumes nothing.
use lib.ListN.{length}
use Rattle.marks.proofs.StoreLaws.{set_by_runs}
use Rattle.marks.proofs.set_by_runs.Goals as goal

pub returns : goal.returns
returns c =
    let cut = c.split_at_mut-runs in
    rw (c.set_each.ensures, c.set_each-2.ensures, c.pattern_of-pattern.ensures)
    (set_by_runs (length c.args.marks.now) c.args.identity.now cut.result.0.now cut.result.1.now cut.ensures.front_len cut.ensures.back_len)
