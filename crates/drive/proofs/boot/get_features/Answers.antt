-- `get_features` meets its contract.
-- Assumes nothing.
use Rattle.rules.specs.Order.{get_features}
use Rattle.drive.proofs.boot.get_features.Goals as goal

pub returns : goal.returns
unfolding get_features
returns c = λ keys marks. rw c.shown.ensures
