-- `locate` meets its contract: the namespace first, then the tag.
-- Assumes nothing.
use Rattle.std.proofs.lemmas.Result.{err_from_is_err_and}
use Rattle.std.proofs.Common.{◌∙◌, []}
use Rattle.rules.proofs.StateLaws.{is_namespace_lem}
use Rattle.drive.proofs.ActingLaws.{passed_on, is_managed, locate_refused, locate_managed}
use Rattle.drive.proofs.answers.locate.Goals as goal

pub returns-in_err-n : goal.returns-in_err-n
returns-in_err-n c =
    let a = c.args in
    passed_on (err_from_is_err_and _ c.from_residual.ensures.1) ∙ locate_refused a.registers.now [] [] a.ns a.tag _ c.in_err-n.ensures

pub place-requires : goal.place-requires
place-requires c =
    is_namespace_lem c.args.ns (is_managed c.args.registers.now [] [] c.args.ns _ c.in_ok-n.ensures).named

pub returns : goal.returns
returns c =
    let a = c.args in
    c.place.ensures ∙ locate_managed a.registers.now [] [] a.ns a.tag _ c.in_ok-n.ensures
