-- `set_features` meets its contract: the length, then the fields.
-- Assumes nothing.
use Rattle.std.proofs.lemmas.Result.{err_from_is_err_and}
use Rattle.std.proofs.Common.{◌≡◌, ◌∙◌, refl, arith}
use Rattle.rules.specs.Fields.{bytes}
use Rattle.frames.proofs.FieldsLaws.{four_at}
use Rattle.frames.proofs.KindsLaws.{right_length, short_of}
use Rattle.frames.proofs.kinds.set_features.Goals as goal

pub returns-in_err-a : goal.returns-in_err-a
returns-in_err-a c =
    short_of 5 c.args.f.now _ (err_from_is_err_and _ c.from_residual.ensures.1) c.in_err-a.ensures

pub returns : goal.returns
returns c =
    let f = c.args.f.now in
    let size = c.in_ok-a.ensures.1 in
    let dword : c.from_le_bytes.result ≡ bytes 1 4 f =
    c.from_le_bytes.ensures ∙ rw c.in_ok-a.ensures.0 (four_at 1 2 f refl 3 4 refl refl (omega arith)) in
    rw dword (right_length 5 f _ size)
