-- `header` meets its contract.
-- Assumes nothing.
use mathlib.Core.Path.{◌≡◌, sym, ◌∙◌}
use mathlib.Core.Bool.{◌&&◌}
use borrow.Author.Rules.{rules}
use borrow.Author.Tests.{tests}
use Rattle.rules.specs.Ttlv.{Integer}
use Rattle.rules.specs.Kmip.{has, in_order, protocol_version, request_header, ◌is_a◌with◌, is, BatchCount, ProtocolVersion}
use Rattle.kmip.specs.Runs.{items_of}
use Rattle.kmip.proofs.RowLaws.{row_alone, structure_missed, structure_row, some_and}
use Rattle.kmip.proofs.rows.header.Goals as goal

pub returns : goal.returns
returns c =
    let items = items_of c.args.run in
    some_and _ _ _ c.structure.result c.is_some_and.result (in_order request_header items) c.is_some_and.ensures c.structure.ensures
    (λ missed. structure_missed ProtocolVersion (in_order protocol_version) items missed _)
    (λ p tested found.
    let told : c.is_some_and.result
    ≡ in_order protocol_version (items_of p.0) && has (BatchCount is_a Integer with is 1) (items_of p.1) = search (rules, tests, row_alone) in
    told ∙ sym (structure_row ProtocolVersion (in_order protocol_version) items _ _ found _))
