-- `aes::keys::unmixed` meets its contract: the substitution, then the look-up.
-- Assumes nothing.
use mathlib.Core.Path.{◌∙◌}
use native.Mathlib.Omega.{arith}
use Rattle.std.proofs.Common.{rules}
use Rattle.aes.specs.ByTables.{sub_word_by}
use Rattle.aes.proofs.WordsLaws.{own_diagonal, diagonal_back}
use Rattle.aes.proofs.keys.unmixed.Goals as goal

pub returns : goal.returns
returns c =
    let w = c.args.w in
    let word = c.substituted.ensures w w w w (c.to_be_bytes.ensures ∙ own_diagonal w (omega arith)) in
    let s = sub_word_by c.args.tables.now.sub.now w in
    c.mixed.ensures s s s s (diagonal_back c.substituted.result s (search rules) (λ i. search rules) word)
