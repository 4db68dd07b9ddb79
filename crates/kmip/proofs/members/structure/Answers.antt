-- `structure` meets its contract.
-- Assumes nothing.
use mathlib.Core.Path.{ap}
use Rattle.rules.specs.Kmip.{structure_then}
use Rattle.kmip.proofs.SearchLaws.{no_structure}
use Rattle.kmip.proofs.members.structure.Goals as goal

pub returns-in_err-body : goal.returns-in_err-body
unfolding structure_then
returns-in_err-body c = rw c.from_residual.ensures (λ good more. ap (structure_then good more) c.in_err-body.ensures)

pub returns-in_default : goal.returns-in_default
returns-in_default c =
    no_structure c.args.tag c.in_ok-body.body _ _ c.in_ok-body.ensures (λ run e. let i = c.in_default.is in cc)
