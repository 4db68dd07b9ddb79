-- `message` meets its contract.
-- Assumes nothing.
use mathlib.Core.Path.{◌≡◌, sym, ap, ◌∙◌}
use mathlib.Core.List.{List, ◌∷◌}
use Rattle.rules.specs.Slots.{Contents}
use Rattle.rules.specs.Ttlv.{Items}
use Rattle.rules.specs.Kmip.{Want, from, behind_of, in_order, ◌holds◌, batch_item, request_header, brought_by, BatchItem, RequestHeader}
use Rattle.kmip.specs.Reading.{shown}
use Rattle.kmip.specs.Runs.{items_of, payload_of}
use Rattle.kmip.proofs.RowLaws.{structure_missed, structure_met, structure_failed, last_missed, last_gives}
use Rattle.kmip.proofs.message.message.Goals as goal
use Rattle.kmip.proofs.message.message.Goals.{Else-not-header}

pub returns-in_err-members : goal.returns-in_err-members
returns-in_err-members c =
    rw c.from_residual.ensures (structure_missed RequestHeader (in_order request_header) (items_of c.args.run) c.in_err-members.ensures _)

pub returns-then-not-header : goal.returns-then-not-header
returns-then-not-header c =
    structure_failed RequestHeader (in_order request_header) (items_of c.args.run) _ _ c.in_ok-members.ensures
    (sym c.header.ensures ∙ c.if-not-header.true) _

-- the header's row is met
met : (c : Else-not-header)
    → ((wants : List Want) → in_order (RequestHeader holds in_order request_header ∷ wants) (items_of c.args.run)
    ≡ in_order wants (items_of c.in_ok-members.rest))
    × (behind_of (from RequestHeader (items_of c.args.run)) ≡ items_of c.in_ok-members.rest)
met c = (
  structure_met RequestHeader (in_order request_header) (items_of c.args.run) _ _ c.in_ok-members.ensures (sym c.header.ensures ∙ c.if-not-header.false),
  ap behind_of c.in_ok-members.ensures,
)

pub returns-in_err-members-2 : goal.returns-in_err-members-2
returns-in_err-members-2 c =
    let s = c.args.slot in
    rw c.from_residual-in_err-members-2.ensures
    (last_missed (RequestHeader holds in_order request_header) (items_of c.args.run) _ (met (goal.at.returns-in_err-members-2 c).Else-not-header) BatchItem
    (in_order (batch_item s.namespace s.tag)) c.in_err-members-2.ensures)

abbrev brings : Items → Contents
brings batch = brought_by (payload_of batch)

pub returns : goal.returns
returns c =
    let s = c.args.slot in
    last_gives (RequestHeader holds in_order request_header) (items_of c.args.run) _ (met (goal.at.returns c).Else-not-header) BatchItem
    (in_order (batch_item s.namespace s.tag)) shown brings _ _ c.in_ok-members-2.ensures _ c.batch.ensures
