-- `clear_all` meets its contract: the checks of the namespace, then what is emptied.
-- Assumes nothing.
use Rattle.std.proofs.lemmas.Result.{err_from_is_err_and}
use Rattle.std.proofs.Common.{[], ap, ◌∙◌, sym}
use Rattle.rules.specs.State.{refuse}
use Rattle.rules.specs.Effects.{empty_slots}
use Rattle.rules.specs.Order.{clear_all}
use Rattle.slots.specs.Cache.{cleared_up_to}
use Rattle.slots.proofs.ClearLaws.{sound_clear}
use Rattle.drive.specs.Acting.{state, after}
use Rattle.drive.proofs.ActingLaws.{passed_on, is_managed, unmanaged_refused}
use Rattle.drive.proofs.keys.clear_all.Goals as goal

pub returns-in_err-tags : goal.returns-in_err-tags
unfolding clear_all
returns-in_err-tags c =
    λ marks. let a = c.args in
    let s = state a.registers.now a.keys.now marks in
    ap (λ r. after r a.registers.now a.keys.now marks) (passed_on (err_from_is_err_and _ c.from_residual.ensures.1))
    ∙ sym (unmanaged_refused a.registers.now a.keys.now marks a.ns (refuse s) _ _ c.in_err-tags.ensures)

pub returns : goal.returns
unfolding clear_all empty_slots
returns c =
    λ marks. let a = c.args in
    let m = is_managed a.registers.now [] [] a.ns _ c.in_ok-tags.ensures in
    let counted = ap (λ n. cleared_up_to a.ns n a.keys.now) m.counts in
    let emptied = c.clear_up_to.ensures ∙ counted ∙ sound_clear (state a.registers.now a.keys.now []) c.requires a.ns m.named in
    rw (emptied, m.named, m.held)
