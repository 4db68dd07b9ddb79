-- `load` meets its contract: the shared checks lead to a refusal or to the place.
-- Assumes nothing.
use Rattle.std.proofs.lemmas.Result.{err_from_is_err_and}
use Rattle.std.proofs.Common.{[], ◌∙◌, ap}
use Rattle.drive.specs.Contents.{contents}
use Rattle.drive.specs.Acting.{after}
use Rattle.drive.proofs.ActingLaws.{passed_on, found_small, load_refused, load_found}
use Rattle.drive.proofs.keys.load.Goals as goal

pub returns-in_err-place : goal.returns-in_err-place
returns-in_err-place c =
    λ marks.
    let a = c.args in
    ap (λ r. after r a.registers.now a.keys.now marks) (passed_on (err_from_is_err_and _ c.from_residual.ensures.1))
    ∙ load_refused a.registers.now a.keys.now marks a.ns a.tag (contents a.x.uid.now a.x.key.now) _ c.in_err-place.ensures

pub load_at-requires : goal.load_at-requires
load_at-requires c =
    let a = c.args in
    (found_small a.registers.now a.keys.now [] a.ns a.tag _ c.in_ok-place.ensures c.requires, c.requires)

pub returns : goal.returns
returns c =
    λ marks.
    let a = c.args in
    c.load_at.ensures marks
    ∙ load_found a.registers.now a.keys.now marks a.ns a.tag (contents a.x.uid.now a.x.key.now) _ c.in_ok-place.ensures
