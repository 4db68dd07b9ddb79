-- `put` meets its contract: 07 0C, or the slot's bytes.
-- Assumes nothing.
use Rattle.std.proofs.Common.{◌≡◌, true, false, sym, ◌∙◌}
use Rattle.rules.specs.View.{view_of, other_key}
use Rattle.slots.proofs.CacheLaws.{stored_is}
use Rattle.drive.specs.Contents.{contents}
use Rattle.drive.specs.Acting.{state, put_at}
use Rattle.drive.proofs.ActingLaws.{cache_of}
use Rattle.drive.proofs.keys.put.Goals as goal

pub returns-then-other_key : goal.returns-then-other_key
unfolding put_at
returns-then-other_key c =
    λ marks.
    let a = c.args in
    let x = contents a.x.uid.now a.x.key.now in
    let other : other_key (view_of (state a.registers.now a.keys.now marks)).slots x ≡ true = sym c.other_key.ensures ∙ c.if-other_key.true in
    rw other

pub returns : goal.returns
unfolding put_at
returns c =
    λ marks.
    let a = c.args in
    let x = contents a.x.uid.now a.x.key.now in
    let none : other_key (view_of (state a.registers.now a.keys.now marks)).slots x ≡ false = sym c.other_key.ensures ∙ c.if-other_key.false in
    let size = cache_of a.registers.now a.keys.now c.requires.1 in
    let stored = c.store.ensures ∙ stored_is a.keys.now size a.place x c.requires.0 a.x.fits in
    rw (stored, none)
