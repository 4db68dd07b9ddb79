-- `mark_covered` meets its contract: the marks become the slot's identity.
-- Assumes nothing.
use Rattle.std.proofs.Common.{ap, ◌∙◌}
use Rattle.marks.specs.Store.{marked}
use Rattle.drive.proofs.io.mark_covered.Goals as goal

pub returns : goal.returns
returns c =
    let a = c.args in
    c.mark.ensures ∙ ap (λ i. marked a.block a.n i a.marks.now) c.identity.ensures
