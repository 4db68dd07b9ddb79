-- `wrap::steps::put_block` meets its contract: four stores.
-- Assumes nothing.
use native.Mathlib.Omega.{arith}
use Rattle.wrap.proofs.StepsLaws.{put_words}
use Rattle.wrap.proofs.steps.put_block.Goals as goal

pub returns : goal.returns
returns c =
    let s = c.args in
    put_words s.bytes.now _ _ _ _ s.at s.x (omega arith) (omega arith)
    c.put_word.ensures c.put_word-2.ensures c.put_word-3.ensures c.put_word-4.ensures
