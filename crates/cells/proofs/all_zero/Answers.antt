-- `cells::all_zero` meets its contract: the fold over all bytes.
-- Assumes nothing.
use Rattle.std.proofs.Common.{rules, tests}
use mathlib.Core.Path.{◌∙◌}
use mathlib.Core.Bool.{true, ◌&&◌}
use lib.Dec.{eqb}
use Rattle.std.proofs.lemmas.Iterator.Consumers.{fold_from_yields_List}
use Rattle.std.proofs.lemmas.Iterator.{YieldsList-from_slice}
use Rattle.cells.proofs.PredicatesLaws.{fold_zero}
use Rattle.cells.proofs.all_zero.Goals as goal

pub returns : goal.returns
returns c =
    fold_from_yields_List _ (λ zero x. zero && eqb x 0) true c.fold.result c.fold.ensures.ran
    (YieldsList-from_slice c.args.a.now c.iter.ensures.rest) (λ a x b q called. search (rules, tests))
    ∙ fold_zero true c.args.a.now
