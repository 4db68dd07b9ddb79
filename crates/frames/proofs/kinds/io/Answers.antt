-- `io` meets its contract: the length, then the fields.
-- Assumes nothing.
use Rattle.std.proofs.lemmas.Result.{err_from_is_err_and}
use Rattle.cells.proofs.CellsLaws.{lent_rest}
use Rattle.frames.proofs.KindsLaws.{right_length, short_of}
use Rattle.frames.proofs.kinds.io.Goals as goal

pub returns-in_err-exactly : goal.returns-in_err-exactly
returns-in_err-exactly c =
    short_of 65 c.args.f.now _ (err_from_is_err_and _ c.from_residual.ensures.1) c.in_err-exactly.ensures

pub returns : goal.returns
returns c =
    rw (c.command.ensures, lent_rest 1 c.args.f.now) (right_length 65 c.args.f.now _ c.in_ok-exactly.ensures.1)
