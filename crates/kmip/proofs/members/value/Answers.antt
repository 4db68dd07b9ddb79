-- `value` meets its contract.
-- Assumes nothing.
use mathlib.Core.Path.{ap}
use Rattle.rules.specs.Kmip.{value_then}
use Rattle.kmip.proofs.SearchLaws.{no_value}
use Rattle.kmip.proofs.members.value.Goals as goal
use Rattle.kmip.proofs.members.value.Goals.{in_default-via-in-Value+else-k-kind, in_default-via-in_default}

pub returns-in_err-body : goal.returns-in_err-body
unfolding value_then
returns-in_err-body c = rw c.from_residual.ensures (λ good more. ap (value_then c.args.kind good more) c.in_err-body.ensures)

pub returns-in_default : goal.returns-in_default
returns-in_default c =
    no_value c.args.kind c.args.tag c.in_ok-body.body _ _ c.in_ok-body.ensures
    (λ bytes e. elim c.in_default.branch [
      | in_default-via-in-Value+else-k-kind w ↦ let o = w.if-k-kind.false in let i = w.in-Value.is in o (cc)
      | in_default-via-in_default w ↦ let i = w.in_default.is in cc
    ])
