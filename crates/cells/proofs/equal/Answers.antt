-- `cells::equal` meets its contract: the fold over the bytes, two by two.
-- Assumes nothing.
use Rattle.std.proofs.Common.{rules, tests}
use mathlib.Core.Path.{ap, ◌∙◌}
use mathlib.Core.Bool.{true, ◌&&◌}
use lib.Dec.{eqb}
use lib.ListN.{length}
use borrow.Author.Tests.{ne_eqb}
use Rattle.std.specs.Slice.Iter.{iter_rest}
use Rattle.std.specs.Iterator.Adapters.{zip_first, zip_second}
use Rattle.std.proofs.lemmas.Iterator.{YieldsList-from_slice, YieldsList-from_zip}
use Rattle.std.proofs.lemmas.Iterator.Consumers.{fold_from_yields_List}
use Rattle.cells.proofs.PredicatesLaws.{fold_same, same_eq, to_false}
use Rattle.cells.proofs.equal.Goals as goal

pub returns-then-a-b : goal.returns-then-a-b
returns-then-a-b c =
    fold_from_yields_List _ (λ so p. so && eqb p.0 p.1) true c.fold.result c.fold.ensures.ran
    (YieldsList-from_zip
    (YieldsList-from_slice {s = zip_first c.zip.result} c.args.a.now (ap iter_rest c.zip.ensures.first ∙ c.iter.ensures.rest))
    (YieldsList-from_slice {s = zip_second c.zip.result} c.args.b.now c.zip.ensures.second.0))
    (λ a x b q called. search (rules, tests))
    ∙ fold_same c.args.a.now c.args.b.now c.if-a-b.true

pub returns-else-a-b : goal.returns-else-a-b
returns-else-a-b c =
    ne_eqb _ _ c.if-a-b.false ∙ to_false _ (λ e. c.if-a-b.false (ap length (same_eq _ _ e)))
