-- `put_value` meets its contract: the value is copied, and zeros stand behind it.
-- Assumes nothing.
use lib.ListN.{length}
use Rattle.cells.specs.Cells.{zeros}
use Rattle.ttlv.proofs.FrontLaws.{to_eight_is}
use Rattle.ttlv.proofs.PutLaws.{value_by}
use Rattle.ttlv.proofs.writing.put_value.Goals as goal

pub returns : goal.returns
unfolding zeros
returns c =
    let s = c.args in
    let m = c.next_multiple_of-end in
    let eight = to_eight_is (length s.value.now) m.result m.ensures.lower_bound m.ensures.upper_bound m.ensures.multiple in
    value_by s.value.now s.out.now c.copy_from_slice.new.self c.fill.new.self m.result eight c.requires
    c.copy_from_slice.ensures.after (c.fill.ensures.after (λ y e. e))
