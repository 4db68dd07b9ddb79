-- `key_place` meets its contract: CETYPE, then where the tag leads.
-- Assumes nothing.
use Rattle.std.proofs.lemmas.Result.{err_from_is_err_and}
use Rattle.std.proofs.Common.{◌≡◌, true, false, [], sym, ap, ◌∙◌}
use borrow.Author.Tests.{not-true, not-false}
use Rattle.cells.specs.Cells.{cell}
use Rattle.rules.specs.Numbers.{slot_width}
use Rattle.rules.specs.Slots.{empty, loaded}
use Rattle.slots.proofs.CacheLaws.{slot_is}
use Rattle.drive.specs.Acting.{state}
use Rattle.drive.proofs.ActingLaws.{passed_on, cache_of}
use Rattle.drive.proofs.IoLaws.{wrong_type, tag_refused, tag_inside, tag_found}
use Rattle.drive.proofs.io.key_place.Goals as goal

pub returns-then-c-ne1 : goal.returns-then-c-ne1
returns-then-c-ne1 c =
    let a = c.args in
    wrong_type (state a.registers.now a.keys.now []) a.c c.if-c-ne1.true

pub returns-in_err-at : goal.returns-in_err-at
returns-in_err-at c =
    let a = c.args in
    passed_on (err_from_is_err_and _ c.from_residual.ensures.1)
    ∙ tag_refused (state a.registers.now a.keys.now []) a.c a.n c.requires.1.1 c.if-c-ne1.false _ c.in_err-at.ensures

pub returns-then-not-loaded : goal.returns-then-not-loaded
returns-then-not-loaded c =
    let a = c.args in
    let now = state a.registers.now a.keys.now [] in
    let led = tag_found now a.c a.n c.requires.1.1 c.if-c-ne1.false _ c.in_ok-at.ensures in
    let inside = tag_inside now a.c a.n c.requires.1.1 c.if-c-ne1.false c.requires.0 c.requires.1.0 _ c.in_ok-at.ensures in
    let is = c.loaded.ensures ∙ ap loaded (slot_is a.keys.now (cache_of a.registers.now a.keys.now c.requires.0) c.in_ok-at.at inside) in
    let none : empty (cell slot_width c.in_ok-at.at a.keys.now) ≡ true = not-false _ (sym is ∙ c.if-not-loaded.true) in
    rw none at led

pub returns : goal.returns
returns c =
    let a = c.args in
    let now = state a.registers.now a.keys.now [] in
    let led = tag_found now a.c a.n c.requires.1.1 c.if-c-ne1.false _ c.in_ok-at.ensures in
    let inside = tag_inside now a.c a.n c.requires.1.1 c.if-c-ne1.false c.requires.0 c.requires.1.0 _ c.in_ok-at.ensures in
    let is = c.loaded.ensures ∙ ap loaded (slot_is a.keys.now (cache_of a.registers.now a.keys.now c.requires.0) c.in_ok-at.at inside) in
    let some : empty (cell slot_width c.in_ok-at.at a.keys.now) ≡ false = not-true _ (sym is ∙ c.if-not-loaded.false) in
    rw some at led
