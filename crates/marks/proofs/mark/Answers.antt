-- `mark` meets its contract: each return is one of the tests.
-- Assumes nothing.
use mathlib.Core.Path.{sym, ◌∙◌}
use lib.ListN.{length}
use borrow.Author.Tests.{ne_eqb}
use mathlib.Core.Bool.{and-false}
use Rattle.rules.specs.Numbers.{mark_width}
use Rattle.marks.specs.Store.{in_store, marked}
use Rattle.marks.proofs.StoreLaws.{marked_is}
use Rattle.marks.proofs.mark.Goals as goal

pub returns-in_default : goal.returns-in_default
unfolding marked
returns-in_default c =
    rw (ne_eqb (length c.args.identity.now) mark_width c.in_default.ensures.cases, and-false (in_store c.args.marks.now c.args.first c.args.n))

pub returns-then-not-in_store : goal.returns-then-not-in_store
unfolding marked
returns-then-not-in_store c = rw (sym c.in_store.ensures ∙ c.if-not-in_store.true)

pub returns-then-n-lt-LONG_MARKS : goal.returns-then-n-lt-LONG_MARKS
returns-then-n-lt-LONG_MARKS c =
    let whole = c.in-Some.ensures.cases in
    let there = sym c.in_store.ensures ∙ c.if-not-in_store.false in
    marked_is c.args.first c.args.n c.args.identity.now c.args.marks.now there whole.long (rw whole.same at c.set_each.ensures)

pub returns-else-n-lt-LONG_MARKS : goal.returns-else-n-lt-LONG_MARKS
returns-else-n-lt-LONG_MARKS c =
    let whole = c.in-Some.ensures.cases in
    let there = sym c.in_store.ensures ∙ c.if-not-in_store.false in
    marked_is c.args.first c.args.n c.args.identity.now c.args.marks.now there whole.long (rw whole.same at c.set_by_runs.ensures)
