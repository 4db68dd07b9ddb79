-- `release` meets its contract: the checks of the namespace, then what is emptied.
-- Assumes nothing.
use Rattle.std.proofs.lemmas.Result.{err_from_is_err_and}
use Rattle.std.proofs.Common.{[], ap, ◌∙◌, sym}
use Rattle.rules.specs.State.{refuse}
use Rattle.rules.specs.Effects.{set_count, empty_slots, zero_marks}
use Rattle.rules.specs.Order.{release}
use Rattle.rules.proofs.StateLaws.{is_namespace_lem}
use Rattle.slots.specs.Cache.{cleared_up_to}
use Rattle.slots.proofs.ClearLaws.{sound_clear}
use Rattle.drive.specs.Acting.{state, after}
use Rattle.drive.proofs.ActingLaws.{passed_on, is_managed, unmanaged_refused}
use Rattle.drive.proofs.KeysLaws.{zeroed_is}
use Rattle.drive.proofs.keys.release.Goals as goal

pub returns-in_err-tags : goal.returns-in_err-tags
unfolding release
returns-in_err-tags c =
    let a = c.args in
    let s = state a.registers.now a.keys.now c.args.marks.now in
    ap (λ r. after r a.registers.now a.keys.now c.args.marks.now) (passed_on (err_from_is_err_and _ c.from_residual.ensures.1))
    ∙ sym (unmanaged_refused a.registers.now a.keys.now c.args.marks.now a.ns (refuse s) _ _ c.in_err-tags.ensures)

pub set_count-requires : goal.set_count-requires
set_count-requires c =
    let a = c.args in
    is_namespace_lem a.ns (is_managed a.registers.now [] [] a.ns _ c.in_ok-tags.ensures).named

pub returns : goal.returns
unfolding release empty_slots zero_marks set_count
returns c =
    let a = c.args in
    let m = is_managed a.registers.now [] [] a.ns _ c.in_ok-tags.ensures in
    let counted = ap (λ n. cleared_up_to a.ns n a.keys.now) m.counts in
    let emptied = c.clear_up_to.ensures ∙ counted ∙ sound_clear (state a.registers.now a.keys.now c.args.marks.now) c.requires.sound a.ns m.named in
    let unwritten = c.zero_namespace.ensures ∙ zeroed_is a.marks.now c.requires.sized.store a.ns m.named in
    rw (c.set_count.ensures, unwritten, emptied, m.named, m.held)
