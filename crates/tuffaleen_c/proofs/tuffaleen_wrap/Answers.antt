-- `tuffaleen_wrap` meets its contract: the sizes are those of the types.
-- Assumes nothing.
use mathlib.Core.Path.{◌∙◌}
use native.Mathlib.Omega.{arith}
use Rattle.tuffaleen_c.proofs.CourierLaws.{wrapped_by}
use Rattle.tuffaleen_c.proofs.tuffaleen_wrap.Goals as goal

pub returns : goal.returns
returns c =
    let a = c.args in
    (c.wrap.ensures.0 ∙ wrapped_by a.kek.now a.bytes.now (omega arith) (omega arith), c.wrap.ensures.1)
