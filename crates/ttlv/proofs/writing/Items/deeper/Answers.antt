-- `members` meets its contract: they end where the first other item stands.
-- Assumes nothing.
use mathlib.Core.Path.{◌∙◌, ap}
use lib.ListN.{length, take}
use Rattle.std.specs.Option.{unwrap_or}
use Rattle.ttlv.specs.Pieces.{items_of}
use Rattle.ttlv.proofs.RoomLaws.{deeper_take}
use Rattle.ttlv.proofs.writing.Items.deeper.Goals as goal

pub returns : goal.returns
returns c =
    let s = c.args in
    let arrays = s.self.arrays.now in
    ap (λ k. items_of (take k arrays)) (c.unwrap_or-count.ensures ∙ ap (λ o. unwrap_or o (length arrays)) c.first_not_deeper.ensures)
    ∙ deeper_take s.depth arrays
