-- `valued` meets its contract.
-- Assumes nothing.
use mathlib.Core.Path.{◌≡◌, sym, ap, ◌∙◌}
use borrow.Author.Rules.{rules}
use borrow.Author.Tests.{tests}
use Rattle.rules.specs.Ttlv.{Integer}
use Rattle.rules.specs.Kmip.{from, in_order, value_then, has, ◌is_a◌with◌, is, named, AttributeValue}
use Rattle.kmip.specs.Runs.{items_of}
use Rattle.kmip.proofs.RowLaws.{row_alone, some_and}
use Rattle.kmip.proofs.attributes.valued.Goals as goal

pub returns : goal.returns
unfolding in_order value_then from
returns c =
    let good = has (AttributeValue is_a Integer with is c.args.n) in
    let members = named c.args.name.now (items_of c.args.run) in
    some_and _ _ _ c.named.result c.is_some_and.result (good members) c.is_some_and.ensures c.named.ensures
    (λ missed. ap good missed)
    (λ attribute tested found.
    let told : c.is_some_and.result ≡ has (AttributeValue is_a Integer with is c.args.n) (items_of attribute) = search (rules, tests, row_alone) in
    told ∙ ap good (sym found))
