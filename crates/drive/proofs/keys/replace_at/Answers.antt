-- `replace_at` meets its contract: each return is one of the checks.
-- Assumes nothing.
use mathlib.Core.Bool.{not}
use mathlib.Core.Path.{ap}
use Rattle.std.proofs.Common.{◌≡◌, true, false, ◌∙◌}
use Rattle.cells.specs.Cells.{cell}
use Rattle.cells.specs.Predicates.{same}
use Rattle.rules.specs.Numbers.{slot_width}
use Rattle.rules.specs.Slots.{empty, uid_of}
use Rattle.drive.specs.Acting.{replace_at}
use Rattle.drive.proofs.ActingLaws.{cache_of}
use Rattle.drive.proofs.KeysLaws.{empty_by, full_by, holds_by}
use Rattle.drive.proofs.keys.replace_at.Goals as goal

pub returns-then-not-loaded : goal.returns-then-not-loaded
unfolding replace_at
returns-then-not-loaded c =
    λ marks.
    let a = c.args in
    let size = cache_of a.registers.now a.keys.now c.requires.1 in
    let none : empty (cell slot_width a.place a.keys.now) ≡ true =
    empty_by a.keys.now size a.place c.requires.0 _ c.loaded.ensures (ap not c.if-not-loaded.true) in
    rw none

pub returns-then-not-holds_uid : goal.returns-then-not-holds_uid
unfolding replace_at
returns-then-not-holds_uid c =
    λ marks.
    let a = c.args in
    let size = cache_of a.registers.now a.keys.now c.requires.1 in
    let full : empty (cell slot_width a.place a.keys.now) ≡ false =
    full_by a.keys.now size a.place c.requires.0 _ c.loaded.ensures (ap not c.if-not-loaded.false) in
    let holds : same (uid_of (cell slot_width a.place a.keys.now)) a.old.now ≡ false =
    holds_by a.keys.now size a.place c.requires.0 a.old.now _ c.holds_uid.ensures full ∙ c.if-not-holds_uid.true in
    rw (full, holds)

pub returns : goal.returns
unfolding replace_at
returns c =
    λ marks.
    let a = c.args in
    let size = cache_of a.registers.now a.keys.now c.requires.1 in
    let full : empty (cell slot_width a.place a.keys.now) ≡ false =
    full_by a.keys.now size a.place c.requires.0 _ c.loaded.ensures (ap not c.if-not-loaded.false) in
    let holds : same (uid_of (cell slot_width a.place a.keys.now)) a.old.now ≡ true =
    holds_by a.keys.now size a.place c.requires.0 a.old.now _ c.holds_uid.ensures full ∙ c.if-not-holds_uid.false in
    rw (full, holds) (c.put.ensures marks)
