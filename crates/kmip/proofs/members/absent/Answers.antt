-- `absent` meets its contract.
-- Assumes nothing.
use mathlib.Core.Bool.{not}
use mathlib.Core.Path.{refl}
use lib.Dec.{eqb}
use borrow.Author.Rules.{rules}
use borrow.Author.Tests.{tests}
use Rattle.rules.specs.Kmip.{lacks}
use Rattle.kmip.proofs.SearchLaws.{all_asked, lacks_on}
use Rattle.kmip.proofs.members.absent.Goals as goal

pub returns : goal.returns
unfolding lacks
returns c =
    let tag = c.args.tag in
    all_asked _ (lacks tag) (λ x. not (eqb x.tag tag)) (lacks_on tag) refl _ _ _ c.all.ensures.ran (λ x b q h. search (rules, tests))
