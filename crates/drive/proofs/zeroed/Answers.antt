-- `zeroed` meets its contract: each return is one of the checks.
-- Assumes nothing.
use Rattle.std.proofs.Common.{◌≡◌, false}
use Rattle.rules.specs.State.{wrong_cache, wrong_store}
use Rattle.rules.proofs.StateLaws.{right_cache, wrong_cache_lem}
use Rattle.drive.specs.Acting.{zeroed}
use Rattle.drive.proofs.KeysLaws.{wrong_store_lem, right_store}
use Rattle.drive.proofs.zeroed.Goals as goal

pub returns-then-marks-ne-STORE_SIZE : goal.returns-then-marks-ne-STORE_SIZE
unfolding zeroed
returns-then-marks-ne-STORE_SIZE c =
    rw (wrong_store_lem c.args.marks.now c.if-marks-ne-STORE_SIZE.true)

pub returns-then-keys-ne-CACHE_SIZE : goal.returns-then-keys-ne-CACHE_SIZE
unfolding zeroed
returns-then-keys-ne-CACHE_SIZE c =
    let a = c.args in
    let store : wrong_store a.marks.now ≡ false = right_store a.marks.now c.if-marks-ne-STORE_SIZE.false in
    rw (store, wrong_cache_lem a.keys.now c.if-keys-ne-CACHE_SIZE.true)

pub returns : goal.returns
unfolding zeroed
returns c =
    let a = c.args in
    let store : wrong_store a.marks.now ≡ false = right_store a.marks.now c.if-marks-ne-STORE_SIZE.false in
    let cache : wrong_cache a.keys.now ≡ false = right_cache a.keys.now c.if-keys-ne-CACHE_SIZE.false in
    rw (store, cache, c.fill_zero.ensures, c.if-marks-ne-STORE_SIZE.false)
