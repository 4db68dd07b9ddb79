-- `load_at` meets its contract: 07 09, or what `put` does.
-- Assumes nothing.
use Rattle.std.proofs.Common.{◌≡◌, true, false, ◌∙◌}
use Rattle.cells.specs.Cells.{cell}
use Rattle.rules.specs.Numbers.{slot_width}
use Rattle.rules.specs.Slots.{loaded}
use Rattle.drive.specs.Acting.{load_at}
use Rattle.drive.proofs.ActingLaws.{cache_of}
use Rattle.drive.proofs.KeysLaws.{loaded_by}
use Rattle.drive.proofs.keys.load_at.Goals as goal

pub returns-then-loaded : goal.returns-then-loaded
unfolding load_at
returns-then-loaded c =
    λ marks.
    let a = c.args in
    let size = cache_of a.registers.now a.keys.now c.requires.1 in
    let full : loaded (cell slot_width a.place a.keys.now) ≡ true =
    loaded_by a.keys.now size a.place c.requires.0 _ c.loaded.ensures ∙ c.if-loaded.true in
    rw full

pub returns : goal.returns
unfolding load_at
returns c =
    λ marks.
    let a = c.args in
    let size = cache_of a.registers.now a.keys.now c.requires.1 in
    let free : loaded (cell slot_width a.place a.keys.now) ≡ false =
    loaded_by a.keys.now size a.place c.requires.0 _ c.loaded.ensures ∙ c.if-loaded.false in
    rw free (c.put.ensures marks)
