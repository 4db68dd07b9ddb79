-- `reach` meets its contract: each return is one of the checks.
-- Assumes nothing.
use Rattle.std.proofs.lemmas.Result.{err_from_is_err_and}
use Rattle.std.proofs.Common.{◌≡◌, false, [], sym, ◌∙◌, rules}
use Rattle.rules.specs.State.{no_namespace}
use Rattle.rules.proofs.StateLaws.{is_namespace_lem}
use Rattle.drive.specs.Acting.{state, reached}
use Rattle.drive.proofs.ActingLaws.{passed_on}
use Rattle.drive.proofs.KeysLaws.{managed_by, unmanaged_by}
use Rattle.drive.proofs.IoLaws.{reach_keyed, reach_none}
use Rattle.drive.proofs.io.reach.Goals as goal

pub returns-then-no_namespace : goal.returns-then-no_namespace
unfolding reached
returns-then-no_namespace c =
    rw (sym c.no_namespace.ensures ∙ c.if-no_namespace.true)

pub returns-then-out_of_range : goal.returns-then-out_of_range
unfolding reached
returns-then-out_of_range c =
    let is : no_namespace c.args.c.ns ≡ false = sym c.no_namespace.ensures ∙ c.if-no_namespace.false in
    rw (is, sym c.out_of_range.ensures ∙ c.if-out_of_range.true)

pub count-requires : goal.count-requires
count-requires c =
    is_namespace_lem _ (sym c.no_namespace.ensures ∙ c.if-no_namespace.false)

pub returns-in-0 : goal.returns-in-0
returns-in-0 c =
    let a = c.args in
    let s = state a.registers.now a.keys.now [] in
    reach_none s a.c (sym c.no_namespace.ensures ∙ c.if-no_namespace.false) (sym c.out_of_range.ensures ∙ c.if-out_of_range.false)
    (unmanaged_by a.registers.now a.c.ns _ c.count.ensures c.in-0.is)

pub key_place-requires : goal.key_place-requires
key_place-requires c =
    (c.requires, (is_namespace_lem _ (sym c.no_namespace.ensures ∙ c.if-no_namespace.false), c.count.ensures))

pub returns-in_err-key_place-in_default : goal.returns-in_err-key_place-in_default
returns-in_err-key_place-in_default c =
    let a = c.args in
    let s = state a.registers.now a.keys.now [] in
    passed_on (err_from_is_err_and _ c.from_residual.ensures.1)
    ∙ reach_keyed s a.c (sym c.no_namespace.ensures ∙ c.if-no_namespace.false) (sym c.out_of_range.ensures ∙ c.if-out_of_range.false)
    (managed_by a.registers.now a.c.ns _ c.count.ensures (search rules)) _ c.in_err-key_place-in_default.ensures

pub returns-in_ok-key_place-in_default : goal.returns-in_ok-key_place-in_default
returns-in_ok-key_place-in_default c =
    let a = c.args in
    let s = state a.registers.now a.keys.now [] in
    reach_keyed s a.c (sym c.no_namespace.ensures ∙ c.if-no_namespace.false) (sym c.out_of_range.ensures ∙ c.if-out_of_range.false)
    (managed_by a.registers.now a.c.ns _ c.count.ensures (search rules)) _ c.in_ok-key_place-in_default.ensures
