-- `version` meets its contract.
-- Assumes nothing.
use mathlib.Core.Path.{◌≡◌, sym, ◌∙◌}
use borrow.Author.Rules.{rules}
use borrow.Author.Tests.{tests}
use Rattle.rules.specs.Ttlv.{Integer}
use Rattle.rules.specs.Kmip.{has, in_order, protocol_version, ◌is_a◌with◌, any, ProtocolVersionMinor}
use Rattle.kmip.specs.Runs.{items_of}
use Rattle.kmip.proofs.RowLaws.{number_alone, some_and}
use Rattle.kmip.proofs.rows.version.Goals as goal

pub returns : goal.returns
returns c =
    some_and _ _ _ c.major.result c.is_some_and.result (in_order protocol_version (items_of c.args.run)) c.is_some_and.ensures c.major.ensures
    (λ missed. missed _)
    (λ rest tested found.
    let told : c.is_some_and.result ≡ has (ProtocolVersionMinor is_a Integer with any) (items_of rest) = search (rules, tests, number_alone) in
    told ∙ sym (found.0 _))
