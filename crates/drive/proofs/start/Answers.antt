-- `start` meets its contract: the cache is emptied, which keeps its length, and then judged with the store.
-- Assumes nothing.
use Rattle.std.proofs.Common.{◌∙◌, arith}
use Rattle.drive.proofs.KeysLaws.{started, zeroed_by_length}
use Rattle.drive.proofs.start.Goals as goal

pub returns : goal.returns
returns c =
    started c.args.kek.now c.args.keys.now c.args.marks.now _ _ _ _ c.both_locked.ensures c.emptied.ensures
    (c.zeroed.ensures ∙ zeroed_by_length _ c.args.keys.now c.args.marks.now (omega arith))
