-- `tuffaleen_unwrap` meets its contract: the sizes are those of the types.
-- Assumes nothing.
use native.Mathlib.Omega.{arith}
use Rattle.tuffaleen_c.proofs.CourierLaws.{c_opened, c_shut}
use Rattle.tuffaleen_c.proofs.tuffaleen_unwrap.Goals as goal

pub returns-then-unwrap : goal.returns-then-unwrap
returns-then-unwrap c =
    let a = c.args in (
      c_opened a.kek.now a.bytes.now _ (omega arith) (omega arith) _ (rw c.if-unwrap.true at c.unwrap.ensures.0)
          c.number.ensures,
      c.unwrap.ensures.1,
    )

pub returns : goal.returns
returns c =
    let a = c.args in (
      c_shut a.kek.now a.bytes.now _ (omega arith) (omega arith) _ (rw c.if-unwrap.false at c.unwrap.ensures.0)
          c.from.ensures,
      c.unwrap.ensures.1,
    )
