-- `named` meets its contract.
-- Assumes nothing.
use borrow.Author.Rules.{rules}
use borrow.Author.Tests.{tests}
use Rattle.rules.specs.Kmip.{named}
use Rattle.kmip.specs.Runs.{items_of}
use Rattle.kmip.proofs.SearchLaws.{gave}
use Rattle.kmip.proofs.AttributesLaws.{Unnamed, unnamed_over, Named, named_here}
use Rattle.kmip.proofs.attributes.named.Goals as goal

pub returns : goal.returns
unfolding named
returns c =
    let name = c.args.name.now in
    gave (named name) (Unnamed name) (unnamed_over name) items_of (Named name) (named_here name) _ _
    (λ x r q h. search (rules, tests)) (λ x q h. search (rules, tests)) (λ x b q h. search (rules, tests))
    _ c.find_map.result _ _ c.find_map.ensures.ran c.find_map.ensures.runs
