-- `some_differs` meets its contract: each return is one of the tests.
-- Assumes nothing.
use mathlib.Core.Path.{sym, ◌∙◌}
use Rattle.marks.specs.Store.{some_differs}
use Rattle.marks.proofs.StoreLaws.{some_differs_is}
use Rattle.marks.proofs.some_differs.Goals as goal

pub returns-then-not-in_store : goal.returns-then-not-in_store
unfolding some_differs
returns-then-not-in_store c = rw (sym c.in_store.ensures ∙ c.if-not-in_store.true)

pub returns-in-Some : goal.returns-in-Some
returns-in-Some c =
    let there = sym c.in_store.ensures ∙ c.if-not-in_store.false in
    (rw c.in-Some.ensures.cases.same at c.differs_by_runs.ensures) ∙ some_differs_is c.args.first c.args.n c.args.identity.now c.args.marks.now there

pub returns-in_default : goal.returns-in_default
returns-in_default c =
    let there = sym c.in_store.ensures ∙ c.if-not-in_store.false in
    c.differs_each.ensures ∙ some_differs_is c.args.first c.args.n c.args.identity.now c.args.marks.now there
