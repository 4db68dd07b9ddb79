-- `clear_up_to` meets its contract: a run of slots from the namespace's first on.
-- Assumes nothing.
use native.Mathlib.Omega.{arith}
use mathlib.Core.Path.{◌≡◌, ap, ◌∙◌}
use mathlib.Core.Bool.{true}
use Prim.Native.Nat.{min, ◌≤◌}
use Rattle.std.proofs.lemmas.Bool.Decides.{nat_tests}
use Rattle.rules.specs.Numbers.{namespaces, tags_most}
use Rattle.rules.specs.State.{no_namespace}
use Rattle.slots.proofs.CacheLaws.{clear_namespace, clear_no_namespace}
use Rattle.slots.proofs.clear_up_to.Goals as goal

pub returns-then-contains : goal.returns-then-contains
returns-then-contains c =
    let lo : 1 ≤ c.args.ns.0 = grind (arith, nat_tests) in
    let hi : c.args.ns.0 ≤ namespaces = grind (arith, nat_tests) in
    c.clear_run.ensures
    ∙ clear_namespace c.args.ns c.args.count c.args.keys.now lo hi (c.min-tags.ensures ∙ ap (λ n. min n tags_most) c.from.ensures)

pub returns-else-contains : goal.returns-else-contains
returns-else-contains c =
    let none : no_namespace c.args.ns ≡ true = grind (arith, nat_tests) in
    clear_no_namespace c.args.ns c.args.count c.args.keys.now none
