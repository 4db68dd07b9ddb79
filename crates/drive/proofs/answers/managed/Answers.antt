-- `managed` meets its contract: each return is one of the checks.
-- Assumes nothing.
use Rattle.std.proofs.Common.{◌≡◌, ◌∙◌, sym, ap, false, [], Ok, rules}
use Rattle.rules.specs.State.{no_namespace}
use Rattle.rules.specs.View.{view_of, managed}
use Rattle.rules.proofs.StateLaws.{is_namespace_lem}
use Rattle.drive.specs.Acting.{state, counted}
use Rattle.drive.proofs.KeysLaws.{managed_by, unmanaged_by}
use Rattle.drive.proofs.answers.managed.Goals as goal

pub returns-then-no_namespace : goal.returns-then-no_namespace
unfolding counted
returns-then-no_namespace c =
    rw (sym c.no_namespace.ensures ∙ c.if-no_namespace.true)

pub count-requires : goal.count-requires
count-requires c =
    is_namespace_lem c.args.ns (sym c.no_namespace.ensures ∙ c.if-no_namespace.false)

pub returns-in-0 : goal.returns-in-0
unfolding counted
returns-in-0 c =
    let d = c.args.registers.now in
    let named : no_namespace c.args.ns ≡ false = sym c.no_namespace.ensures ∙ c.if-no_namespace.false in
    let free : managed (view_of (state d [] [])) c.args.ns ≡ false = unmanaged_by d c.args.ns _ c.count.ensures c.in-0.is in
    rw (named, free)

pub returns-in_default : goal.returns-in_default
unfolding counted
returns-in_default c =
    let d = c.args.registers.now in
    let named : no_namespace c.args.ns ≡ false = sym c.no_namespace.ensures ∙ c.if-no_namespace.false in
    rw (named, managed_by d c.args.ns _ c.count.ensures (search rules)) (ap Ok c.count.ensures)
