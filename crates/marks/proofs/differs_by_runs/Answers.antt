-- `differs_by_runs` meets its contract: one of the runs has a mark that differs, or one of the marks behind them does.
-- Assumes nothing.
use mathlib.Core.Path.{sym, ◌∙◌}
use Rattle.std.proofs.Common.{rules, tests}
use Rattle.std.proofs.lemmas.Iterator.{YieldsList-from_slice}
use Rattle.std.proofs.lemmas.Iterator.Search.{any_from_yields_List}
use Rattle.marks.specs.Runs.{one_differs}
use Rattle.marks.proofs.StoreLaws.{by_runs}
use Rattle.marks.proofs.differs_by_runs.Goals as goal

pub returns-then-any : goal.returns-then-any
returns-then-any c =
    let in_a_run = any_from_yields_List (λ run. one_differs c.args.identity.now run) _ _ c.any.result c.any.ensures.ran
    (YieldsList-from_slice _ (c.iter.ensures.rest ∙ c.as_chunks.ensures.front)) (λ x b q k. search (rules, tests)) in
    c.if-any.true
    ∙ sym (by_runs c.args.identity.now c.args.marks.now c.as_chunks.result.1.now (sym c.if-any.true ∙ in_a_run) c.as_chunks.ensures.back)

pub returns-else-any : goal.returns-else-any
returns-else-any c =
    let in_a_run = any_from_yields_List (λ run. one_differs c.args.identity.now run) _ _ c.any.result c.any.ensures.ran
    (YieldsList-from_slice _ (c.iter.ensures.rest ∙ c.as_chunks.ensures.front)) (λ x b q k. search (rules, tests)) in
    c.differs_each.ensures
    ∙ sym (by_runs c.args.identity.now c.args.marks.now c.as_chunks.result.1.now (sym c.if-any.false ∙ in_a_run) c.as_chunks.ensures.back)
