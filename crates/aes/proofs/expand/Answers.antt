-- `aes::expand` meets its contract: the key's own words, then the others.
-- Assumes nothing.
use mathlib.Core.Path.{ap, ap₂, ◌∙◌}
use mathlib.Core.List.{◌++◌}
use lib.ListN.{take, drop, length}
use lib.Seq.{take_at}
use borrow.Author.Tests.{eq-eqb}
use Rattle.aes.specs.ByTables.{words_of, expanded_by}
use Rattle.aes.proofs.ExpandingLaws.{words_length}
use Rattle.aes.proofs.expand.Goals as goal

pub returns-in-Some : goal.returns-in-Some
returns-in-Some c =
    let key = c.args.key.now in
    let w = c.args.w.now in
    let whole = c.in-Some.ensures.cases in
    let first =
    ap (take 8) (c.first_words.ensures ∙ ap (λ k. words_of k 8 ++ drop 8 w) whole.same)
    ∙ take_at (words_of key 8) (drop 8 w) 8 (words_length key 8) in
    c.next_words.ensures ∙ ap₂ (λ b l. expanded_by b l 52) c.sub_table.ensures first ∙ (rw (eq-eqb (length key) 32 whole.long))
