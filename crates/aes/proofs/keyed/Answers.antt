-- `aes::keyed` meets its contract: the closure is called on the words of the expanded key.
-- Assumes nothing.
use mathlib.Core.Path.{refl, ◌∙◌}
use borrow.Author.Tests.{eq-eqb}
use Rattle.aes.proofs.keyed.Goals as goal

pub returns-clause-told : goal.returns-clause-told
returns-clause-told g c = λ e. (
  _,
  record { shown = _; shows = c.expand.ensures ∙ (rw (eq-eqb _ _ e)); left = _; met = c.run-told.ensures; leaves = refl },
)
