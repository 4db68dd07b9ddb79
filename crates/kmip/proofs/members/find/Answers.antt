-- `find` meets its contract.
-- Assumes nothing.
use mathlib.Core.Path.{◌≡◌, ap, ◌∙◌}
use borrow.Author.Rules.{rules}
use borrow.Author.Tests.{tests}
use Rattle.rules.specs.Kmip.{from}
use Rattle.kmip.proofs.SearchLaws.{passed, Other, from_over, from_here}
use Rattle.kmip.proofs.members.find.Goals as goal

pub returns-in_err-item : goal.returns-in_err-item
unfolding from
returns-in_err-item c =
    let r = c.in_err-item.ensures.ran in
    let p = passed _ _ (from c.args.tag) (Other c.args.tag) (from_over c.args.tag) (λ x q h. search (rules, tests)) _ _ _ _ r.2.1 r.3 in
    rw c.from_residual.ensures (p.1 ∙ ap (from c.args.tag) r.2.2)

pub returns : goal.returns
unfolding from
returns c =
    let r = c.in_ok-item.ensures.ran in
    let x = c.in_ok-item.item in
    let p = passed _ _ (from c.args.tag) (Other c.args.tag) (from_over c.args.tag) (λ x q h. search (rules, tests)) _ _ _ _ r.2.1 r.3 in
    let here : c.in_ok-item.item.tag ≡ c.args.tag = let h = r.4.1 in search (rules, tests) in
    p.1 ∙ ap (from c.args.tag) (r.2.2.is ∙ rw here) ∙ from_here c.args.tag x.body _
