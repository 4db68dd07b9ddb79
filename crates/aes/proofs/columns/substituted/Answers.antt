-- `aes::columns::substituted` meets its contract: each look-up is one of the definition.
-- Assumes nothing.
use mathlib.Core.Path.{ap, ◌∙◌}
use lib.ListN.{get_or}
use Rattle.aes.specs.Words.{word4}
use Rattle.aes.specs.ByTables.{substituted_of}
use Rattle.aes.proofs.WordsLaws.{from_bytes}
use Rattle.aes.proofs.columns.substituted.Goals as goal

pub returns : goal.returns
unfolding substituted_of
returns c = λ p q r v is.
    let s = c.args.sub.now in
    let e = c.from.ensures ∙ ap (λ l. get_or l 0 0) is in
    let f = c.from-2.ensures ∙ ap (λ l. get_or l 1 0) is in
    let g = c.from-3.ensures ∙ ap (λ l. get_or l 2 0) is in
    let h = c.from-4.ensures ∙ ap (λ l. get_or l 3 0) is in
    from_bytes _ _ _ _ ∙ (λ i. word4 (get_or s (e i) 0) (get_or s (f i) 0) (get_or s (g i) 0) (get_or s (h i) 0))
