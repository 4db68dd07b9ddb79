-- `total_room` meets its contract: the chain is the sum.
-- Assumes nothing.
use mathlib.Core.Path.{◌≡◌, ◌∙◌}
use mathlib.Core.List.{map}
use Rattle.std.proofs.Common.{rules}
use Rattle.std.proofs.iter.runs.Made.{chains}
use Rattle.std.specs.List.{sum}
use Rattle.ttlv.specs.Listing.{first_item}
use Rattle.ttlv.specs.Writing.{room_of}
use Rattle.ttlv.proofs.RoomLaws.{rooms_sum}
use Rattle.ttlv.proofs.writing.Items.room.Goals as goal

pub returns : goal.returns
returns c =
    let e : c.sum.result ≡ sum (map (λ ns. room_of (first_item ns)) c.args.self.arrays.now) = search (rules, chains) in
    e ∙ rooms_sum c.args.self.arrays.now
