-- `parameters` meets its contract.
-- Assumes nothing.
use mathlib.Core.Path.{refl, sym, ◌∙◌}
use mathlib.Core.Bool.{Bool}
use mathlib.Core.List.{[]}
use Rattle.std.specs.Prelude.{Some}
use Rattle.rules.specs.Ttlv.{Items, Enumeration}
use Rattle.rules.specs.Kmip.{has, ◌is_a◌with◌, is, CryptographicParameters, KeyRoleType, DEK}
use Rattle.kmip.specs.Runs.{items_of}
use Rattle.kmip.proofs.RowLaws.{structure_missed, structure_alone, structure_gives, row_alone}
use Rattle.kmip.proofs.attributes.parameters.Goals as goal

abbrev good : Items → Bool
good members = has (KeyRoleType is_a Enumeration with is DEK) members

pub returns-in_err-parameters : goal.returns-in_err-parameters
returns-in_err-parameters c =
    rw c.from_residual.ensures (structure_missed CryptographicParameters good (items_of c.args.run) c.in_err-parameters.ensures [])

pub returns-in_err-numbered : goal.returns-in_err-numbered
returns-in_err-numbered c =
    rw c.from_residual-in_err-numbered.ensures
    (sym (structure_alone CryptographicParameters good (items_of c.args.run) _ _ c.in_ok-parameters.ensures) ∙ c.in_err-numbered.ensures [])

pub returns : goal.returns
returns c =
    let members = items_of c.in_ok-parameters.parameters in
    let role = row_alone (KeyRoleType is_a Enumeration with is DEK) members (Some c.in_ok-numbered.field-0) c.in_ok-numbered.ensures in
    structure_gives CryptographicParameters good (items_of c.args.run) items_of (λ found. found) _ _ c.in_ok-parameters.ensures
    (Some c.in_ok-parameters.parameters) (sym role, refl)
