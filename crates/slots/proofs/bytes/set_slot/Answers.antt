-- `set_slot` meets its contract: the head, all of it, then the key.
-- Assumes nothing.
use native.Mathlib.Omega.{arith}
use mathlib.Core.Path.{◌≡◌, ap, ◌∙◌}
use lib.ListN.{length, take}
use lib.Seq.{take_all}
use Rattle.slots.specs.Cache.{head_size, head_bytes}
use Rattle.slots.proofs.CacheLaws.{length_head, set_slot_is}
use Rattle.slots.proofs.bytes.set_slot.Goals as goal

pub returns : goal.returns
returns c =
    let made = c.head_of.ensures in
    let size = ap length made ∙ length_head c.args.uid.now c.requires.1 in
    let whole : take head_size c.head_of.result ≡ c.head_of.result = take_all head_size c.head_of.result (omega arith) in
    let copied = c.copy_from_slice.ensures.after in
    let head : c.copy_from_slice.new.self ≡ head_bytes c.args.uid.now = cc in
    set_slot_is c.args.uid.now c.args.key.now c.args.slot.now c.requires.0 c.requires.1 c.requires.2 head c.copy_from_slice-2.ensures.after
