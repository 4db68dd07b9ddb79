-- `each_vendored` meets its contract.
-- Assumes nothing.
use mathlib.Core.Path.{refl}
use borrow.Author.Rules.{rules}
use borrow.Author.Tests.{tests}
use Rattle.rules.specs.Kmip.{each_vendored}
use Rattle.kmip.proofs.SearchLaws.{all_asked}
use Rattle.kmip.proofs.AttributesLaws.{vendored_item, each_on}
use Rattle.kmip.proofs.attributes.each_vendored.Goals as goal

pub returns : goal.returns
unfolding each_vendored
returns c = all_asked _ each_vendored vendored_item each_on refl _ _ _ c.all.ensures.ran (λ x b q h. search (rules, tests))
