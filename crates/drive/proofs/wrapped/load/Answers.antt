-- `wrapped::load` meets its contract: the shared checks lead to a refusal or to the opening.
-- Assumes nothing.
use Rattle.std.proofs.lemmas.Result.{err_from_is_err_and}
use Rattle.std.proofs.Common.{[], ap, refl, ◌∙◌}
use Rattle.rules.specs.Numbers.{wrapped_size}
use Rattle.rules.specs.Frames.{contents_at}
use Rattle.drive.specs.Acting.{after}
use Rattle.drive.proofs.ActingLaws.{passed_on, found_passes}
use Rattle.drive.proofs.WrappedLaws.{wrapped_refused}
use Rattle.drive.proofs.wrapped.load.Goals as goal

pub returns-in_err-locate : goal.returns-in_err-locate
returns-in_err-locate c =
    let a = c.args in (
      λ marks.
          ap (λ r. after r a.registers.now a.keys.now marks) (passed_on (err_from_is_err_and _ c.from_residual.ensures.1))
          ∙ wrapped_refused a.registers.now a.keys.now marks a.ns a.tag (contents_at wrapped_size 5 a.l a.f.now) _ c.in_err-locate.ensures,
      refl,
      λ z. z,
    )

pub opened-requires : goal.opened-requires
opened-requires c =
    let a = c.args in
    (c.requires.0, c.requires.1, found_passes a.registers.now a.keys.now [] a.ns a.tag _ c.in_ok-locate.ensures)
