-- `reset` meets its contract: the length, then the fields.
-- Assumes nothing.
use Rattle.std.proofs.lemmas.Result.{err_from_is_err_and}
use Rattle.frames.proofs.KindsLaws.{right_length, short_of}
use Rattle.frames.proofs.kinds.reset.Goals as goal

pub returns-in_err-level : goal.returns-in_err-level
returns-in_err-level c =
    short_of 2 c.args.f.now _ (err_from_is_err_and _ c.from_residual.ensures.1) c.in_err-level.ensures

pub returns : goal.returns
returns c =
    rw c.in_ok-level.ensures.0 (right_length 2 c.args.f.now _ c.in_ok-level.ensures.1)
