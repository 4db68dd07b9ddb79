-- `clear_at` meets its contract: 07 0A, or the emptied slot.
-- Assumes nothing.
use mathlib.Core.Bool.{not}
use mathlib.Core.Path.{ap}
use Rattle.std.proofs.Common.{◌≡◌, true, false, ◌∙◌}
use Rattle.cells.specs.Cells.{cell}
use Rattle.rules.specs.Numbers.{slot_width}
use Rattle.rules.specs.Slots.{empty}
use Rattle.slots.proofs.CacheLaws.{cleared_is}
use Rattle.drive.specs.Acting.{clear_at}
use Rattle.drive.proofs.KeysLaws.{empty_by, full_by}
use Rattle.drive.proofs.keys.clear_at.Goals as goal

pub returns-then-not-loaded : goal.returns-then-not-loaded
unfolding clear_at
returns-then-not-loaded c =
    λ marks.
    let a = c.args in
    let none : empty (cell slot_width a.place a.keys.now) ≡ true =
    empty_by a.keys.now c.requires.1 a.place c.requires.0 _ c.loaded.ensures (ap not c.if-not-loaded.true) in
    rw none

pub returns : goal.returns
unfolding clear_at
returns c =
    λ marks.
    let a = c.args in
    let full : empty (cell slot_width a.place a.keys.now) ≡ false =
    full_by a.keys.now c.requires.1 a.place c.requires.0 _ c.loaded.ensures (ap not c.if-not-loaded.false) in
    let cleared = c.clear.ensures ∙ cleared_is a.keys.now c.requires.1 a.place c.requires.0 in
    rw (cleared, full)
