-- `batch` meets its contract.
-- Assumes nothing.
use Rattle.rules.specs.Ttlv.{Enumeration}
use Rattle.rules.specs.Kmip.{◌is_a◌with◌, is, payload_good, brought_by, Import, Operation, RequestPayload}
use Rattle.kmip.specs.Reading.{shown}
use Rattle.kmip.specs.Runs.{items_of}
use Rattle.kmip.proofs.RowLaws.{last_missed, last_gives}
use Rattle.kmip.proofs.message.batch.Goals as goal

pub returns-in_err-members : goal.returns-in_err-members
returns-in_err-members c =
    let s = c.args.slot in
    rw c.from_residual-in_err-members.ensures
    (last_missed (Operation is_a Enumeration with is Import) (items_of c.args.run) _ c.in_ok-rest.ensures RequestPayload
    (payload_good s.namespace s.tag) c.in_err-members.ensures)

pub returns : goal.returns
returns c =
    let s = c.args.slot in
    last_gives (Operation is_a Enumeration with is Import) (items_of c.args.run) _ c.in_ok-rest.ensures RequestPayload
    (payload_good s.namespace s.tag) shown brought_by _ _ c.in_ok-members.ensures _ c.payload.ensures
