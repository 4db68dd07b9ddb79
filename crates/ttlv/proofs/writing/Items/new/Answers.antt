-- `first_items` meets its contract: the items of so many numbers, or none if they are not there.
-- Assumes nothing.
use Rattle.ttlv.proofs.ItemsInLaws.{arrays_items}
use Rattle.ttlv.proofs.writing.Items.new.Goals as goal

pub returns : goal.returns
returns c =
    let got = c.in_ok-get.ensures.lookup.0 in
    let s = c.args in
    arrays_items s.count s.numbers.now c.in_ok-get.field-0.now c.as_chunks.result.0.now c.if-count-gt-ITEMS_MOST.false got.1
    got.2 c.as_chunks.ensures.front
