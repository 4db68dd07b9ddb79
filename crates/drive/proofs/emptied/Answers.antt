-- `emptied` meets its contract: the slots zeroed, then the key-encryption key behind them.
-- Assumes nothing.
use Rattle.std.proofs.Common.{arith}
use Rattle.rules.proofs.StateLaws.{wrong_cache_lem}
use Rattle.drive.proofs.KeysLaws.{emptied_is}
use Rattle.drive.proofs.emptied.Goals as goal

pub returns-then-keys-ne-CACHE_SIZE : goal.returns-then-keys-ne-CACHE_SIZE
returns-then-keys-ne-CACHE_SIZE c =
    rw (wrong_cache_lem c.args.keys.now c.if-keys-ne-CACHE_SIZE.true)

pub returns : goal.returns
returns c =
    let a = c.args in
    emptied_is a.kek.now a.keys.now (omega arith) c.if-keys-ne-CACHE_SIZE.false _ c.clear_all.ensures _ c.copy.ensures
