-- `clear_one` meets its contract: the length, then the fields.
-- Assumes nothing.
use Rattle.std.proofs.lemmas.Result.{err_from_is_err_and}
use Rattle.std.proofs.Common.{refl, arith}
use Rattle.frames.proofs.FieldsLaws.{pair_at}
use Rattle.frames.proofs.KindsLaws.{right_length, short_of}
use Rattle.frames.proofs.kinds.clear_one.Goals as goal

pub returns-in_err-ns : goal.returns-in_err-ns
returns-in_err-ns c =
    short_of 4 c.args.f.now _ (err_from_is_err_and _ c.from_residual.ensures.1) c.in_err-ns.ensures

pub returns : goal.returns
returns c =
    let f = c.args.f.now in
    let size = c.in_ok-ns.ensures.1 in
    rw (c.namespace_of.ensures, c.tag_of.ensures, c.in_ok-ns.ensures.0, ← pair_at 2 3 f refl (omega arith)) (right_length 4 f _ size)
