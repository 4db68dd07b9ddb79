-- `vendored` meets its contract.
-- Assumes nothing.
use mathlib.Core.Path.{◌≡◌, sym, ap, ◌∙◌}
use mathlib.Core.Bool.{Bool, not, ◌&&◌}
use mathlib.Core.List.{List, []}
use Prim.Native.Nat.{ℕ}
use lib.Dec.{eqb}
use lib.Pointwise.{pointwise}
use borrow.Author.Rules.{rules}
use borrow.Author.Tests.{tests}
use Rattle.cells.specs.Predicates.{same}
use Rattle.rules.specs.Ttlv.{Text}
use Rattle.rules.specs.Kmip.{has, ◌is_a◌with◌, uid_name, AttributeName}
use Rattle.kmip.specs.Runs.{items_of}
use Rattle.kmip.proofs.NumberLaws.{same_bytes}
use Rattle.kmip.proofs.RowLaws.{value_missed, value_alone, some_and}
use Rattle.kmip.proofs.attributes.vendored.Goals as goal

abbrev other : List ℕ → Bool
other name = not (same name uid_name)

pub returns-then-worded : goal.returns-then-worded
returns-then-worded c =
    let items = items_of c.args.attribute in
    some_and _ _ _ c.value.result c.is_some_and.result (has (AttributeName is_a Text with other) items) c.is_some_and.ensures c.value.ensures
    (λ missed. value_missed AttributeName Text other items missed [])
    (λ p tested found.
    let told : c.is_some_and.result ≡ not (pointwise eqb p.0.now uid_name) = search (rules, tests) in
    told ∙ ap not (same_bytes p.0.now uid_name) ∙ value_alone AttributeName Text other items _ _ found)
    ∙ ap (λ b. b && has (AttributeName is_a Text with other) items) (sym c.if-worded.true ∙ c.worded.ensures)
