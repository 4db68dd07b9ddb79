-- `lay` meets its contract: the pieces so far, and what is left of the items completes the whole.
-- Assumes nothing.
use native.Mathlib.Omega.{arith}
use mathlib.Core.List.{List, ◌∷◌}
use mathlib.Core.Path.{◌≡◌}
use Prim.Native.Nat.{ℕ}
use Rattle.ttlv.specs.declared.Item.{Item}
use Rattle.ttlv.specs.Writing.{deeper, room_for}
use Rattle.ttlv.specs.Pieces.{with_length, Layable}
use Rattle.ttlv.proofs.ItemLoopLaws.{no_item}
use Rattle.ttlv.proofs.LayLaws.{Laying, Piece, left_fits, lay_end, piece_inside, piece_lent, lay_more, first_lent}
use Rattle.ttlv.proofs.writing.Items.lay.Goals as goal

-- an item is written next
piece_of : {is left behind : List Item} {values out₀ out : List ℕ} {at : ℕ} {w p : Item} → Layable is values out₀
    → Laying values is out₀ out at left → left ≡ w ∷ behind → p ≡ with_length w (room_for (deeper w.depth behind))
    → Piece values is out₀ out at w behind p
piece_of able so_far step written = record { so_far = rw (← step) so_far; fits = able.room; is_piece = written }

pub as_written-item-requires : goal.as_written-item-requires
as_written-item-requires c =
    let step = first_lent c.loop-left.left.now c.from.result c.from.ensures c.in-len1-up.len_at_least in
    left_fits c.from.result c.loop-left.invariant c.requires.fits step

pub put-requires : goal.put-requires
put-requires c =
    let step = first_lent c.loop-left.left.now c.from.result c.from.ensures c.in-len1-up.len_at_least in
    let piece = piece_of c.requires c.loop-left.invariant step c.as_written-item.ensures in
    (piece_lent piece, piece_inside piece)

pub loop-left-preserved : goal.loop-left-preserved
loop-left-preserved c =
    let step = first_lent c.loop-left.left.now c.from.result c.from.ensures c.in-len1-up.len_at_least in
    let piece = piece_of c.requires c.loop-left.invariant step c.as_written-item.ensures in
    lay_more piece c.put.new.out c.room-at.result c.put.ensures c.room-at.ensures.is

pub returns : goal.returns
returns c =
    lay_end c.loop-left.invariant (no_item 0 c.loop-left.left.now (omega arith)) c.requires.inside
