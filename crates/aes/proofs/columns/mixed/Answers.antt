-- `aes::columns::mixed` meets its contract: each look-up is one of the definition, turned to its row.
-- Assumes nothing.
use mathlib.Core.Path.{ap, ◌∙◌}
use native.Mathlib.Omega.{arith}
use lib.ListN.{get_or}
use lib.Bits.{bit_xor}
use Rattle.rules.specs.AesBytes.{◌⊕◌}
use Rattle.aes.specs.ByTables.{column_of, turned1, turned2, turned3}
use Rattle.aes.proofs.WordsLaws.{rotated1, rotated2, rotated3}
use Rattle.aes.proofs.columns.mixed.Goals as goal

pub returns : goal.returns
unfolding column_of ◌⊕◌
returns c = λ p q r v is.
    let t = c.args.table.now in
    let e = c.from.ensures ∙ ap (λ l. get_or l 0 0) is in
    let f = c.from-2.ensures ∙ ap (λ l. get_or l 1 0) is in
    let g = c.from-3.ensures ∙ ap (λ l. get_or l 2 0) is in
    let h = c.from-4.ensures ∙ ap (λ l. get_or l 3 0) is in
    let y = c.rotate_right.ensures ∙ rotated1 _ (omega arith) ∙ ap (λ n. turned1 (get_or t n 0)) f in
    let z = c.rotate_right-2.ensures ∙ rotated2 _ (omega arith) ∙ ap (λ n. turned2 (get_or t n 0)) g in
    let w = c.rotate_right-3.ensures ∙ rotated3 _ (omega arith) ∙ ap (λ n. turned3 (get_or t n 0)) h in
    λ i. bit_xor (bit_xor (get_or t (e i) 0) (y i)) (bit_xor (z i) (w i))
