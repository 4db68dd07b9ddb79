-- `aes::keys::sub_word` meets its contract: the word's own bytes.
-- Assumes nothing.
use mathlib.Core.Path.{◌∙◌}
use native.Mathlib.Omega.{arith}
use Rattle.aes.proofs.WordsLaws.{own_diagonal}
use Rattle.aes.proofs.keys.sub_word.Goals as goal

pub returns : goal.returns
returns c =
    let w = c.args.w in
    c.from_be_bytes.ensures ∙ c.substituted.ensures w w w w (c.to_be_bytes.ensures ∙ own_diagonal w (omega arith))
