-- `lay` meets its contract: the pieces of the message, one behind the other.
-- Assumes nothing.
use borrow.Author.Rules.{rules}
use native.Mathlib.Omega.{arith}
use mathlib.Core.Path.{◌≡◌, sym, ap, ◌∙◌}
use mathlib.Core.List.{◌++◌}
use lib.ListN.{length, drop}
use lib.Seq.{length-take-le}
use Rattle.std.specs.Int.{next_multiple_of}
use Rattle.rules.specs.Ttlv.{to_eight}
use Rattle.kmip.specs.Pieces.{before_size, before_uid}
use Rattle.kmip.proofs.LayingLaws.{uid_laid, message_long, laid}
use Rattle.kmip.proofs.writing.lay.Goals as goal

pub slice_bounds-copy_from_slice-end-2 : goal.slice_bounds-copy_from_slice-end-2
slice_bounds-copy_from_slice-end-2 c = let p = c.requires in sym (length-take-le before_size c.args.out.now (omega arith))

pub copy_from_slice-requires : goal.copy_from_slice-requires
unfolding before_uid
copy_from_slice-requires c = let p = c.requires in length-take-le before_size c.args.out.now (omega arith) ∙ sym (ap length c.up_to_uid.ensures)

to_eight_lem : (l : _) → next_multiple_of l 8 ≡ to_eight l
to_eight_lem l = omega arith

pub returns : goal.returns
returns c =
    let s = c.args in
    let p = c.requires in
    let front = ap (λ z. z ++ drop before_size s.out.now) (c.copy_from_slice.ensures.after ∙ c.up_to_uid.ensures) in
    let room = c.next_multiple_of-room.ensures.value ∙ to_eight_lem (length s.uid.now) in
    rw (
      c.fill.ensures.after (λ y e. e),
      uid_laid s.ns s.tag s.uid.now s.key.now s.out.now (search rules) (search rules) p.1 p.2 c.told-key p.0 _ _ front c.copy.ensures,
      c.copy_from_slice.ensures.after,
      c.up_to_uid.ensures,
      c.copy_from_slice-2.ensures.after,
      c.up_to_key.ensures,
      c.copy_from_slice-3.ensures.after,
      room,
    ) (
      message_long s.ns s.tag s.uid.now s.key.now s.out.now (search rules) (search rules) p.1 p.2 c.told-key p.0,
      laid s.ns s.tag s.uid.now s.key.now s.out.now (search rules) (search rules) p.1 p.2 c.told-key p.0,
    )
