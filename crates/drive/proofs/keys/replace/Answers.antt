-- `replace` meets its contract: the shared checks lead to a refusal or to the place.
-- Assumes nothing.
use Rattle.std.proofs.lemmas.Result.{err_from_is_err_and}
use Rattle.std.proofs.Common.{[], ◌∙◌, ap}
use Rattle.drive.specs.Contents.{contents}
use Rattle.drive.specs.Acting.{after}
use Rattle.drive.proofs.ActingLaws.{passed_on, found_small, replace_refused, replace_found}
use Rattle.drive.proofs.keys.replace.Goals as goal

pub returns-in_err-place : goal.returns-in_err-place
returns-in_err-place c =
    λ marks.
    let a = c.args in
    ap (λ r. after r a.registers.now a.keys.now marks) (passed_on (err_from_is_err_and _ c.from_residual.ensures.1))
    ∙ replace_refused a.registers.now a.keys.now marks a.ns a.tag (contents a.x.uid.now a.x.key.now) a.old.now _ c.in_err-place.ensures

pub replace_at-requires : goal.replace_at-requires
replace_at-requires c =
    let a = c.args in
    (found_small a.registers.now a.keys.now [] a.ns a.tag _ c.in_ok-place.ensures c.requires, c.requires)

pub returns : goal.returns
returns c =
    λ marks.
    let a = c.args in
    c.replace_at.ensures marks
    ∙ replace_found a.registers.now a.keys.now marks a.ns a.tag (contents a.x.uid.now a.x.key.now) a.old.now _ c.in_ok-place.ensures
