-- `clear_all` meets its contract: the length, then the fields.
-- Assumes nothing.
use Rattle.std.proofs.lemmas.Result.{err_from_is_err_and}
use Rattle.frames.proofs.KindsLaws.{right_length, short_of}
use Rattle.frames.proofs.kinds.clear_all.Goals as goal

pub returns-in_err-ns : goal.returns-in_err-ns
returns-in_err-ns c =
    short_of 2 c.args.f.now _ (err_from_is_err_and _ c.from_residual.ensures.1) c.in_err-ns.ensures

pub returns : goal.returns
returns c =
    rw (c.namespace_of.ensures, c.in_ok-ns.ensures.0) (right_length 2 c.args.f.now _ c.in_ok-ns.ensures.1)
