-- `wrong_key` meets its contract: the marks are held to the slot's identity.
-- Assumes nothing.
use Rattle.std.proofs.Common.{ap, ◌∙◌}
use Rattle.marks.specs.Store.{some_differs}
use Rattle.drive.proofs.io.wrong_key.Goals as goal

pub returns : goal.returns
returns c =
    let a = c.args in
    c.some_differs.ensures ∙ ap (λ m. some_differs a.block a.n m a.marks.now) c.identity.ensures
