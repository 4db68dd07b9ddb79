-- `worded` meets its contract.
-- Assumes nothing.
use mathlib.Core.Path.{◌≡◌, ◌∙◌}
use mathlib.Core.List.{[]}
use lib.Dec.{eqb}
use lib.Pointwise.{pointwise}
use borrow.Author.Rules.{rules}
use borrow.Author.Tests.{tests}
use Rattle.cells.specs.Predicates.{same}
use Rattle.rules.specs.Ttlv.{Text}
use Rattle.kmip.specs.Runs.{items_of}
use Rattle.kmip.proofs.NumberLaws.{same_bytes}
use Rattle.kmip.proofs.RowLaws.{value_missed, value_alone, some_and}
use Rattle.kmip.proofs.rows.worded.Goals as goal

pub returns : goal.returns
returns c =
    let s = c.args in
    let items = items_of s.run in
    let text = s.text.now in
    some_and _ _ _ c.value.result c.is_some_and.result _ c.is_some_and.ensures c.value.ensures
    (λ missed. value_missed s.tag Text (λ name. same name text) items missed [])
    (λ p tested found.
    let told : c.is_some_and.result ≡ pointwise eqb p.0.now text = search (rules, tests) in
    told ∙ same_bytes p.0.now text ∙ value_alone s.tag Text (λ name. same name text) items _ _ found)
