-- `numbered` meets its contract.
-- Assumes nothing.
use mathlib.Core.Path.{refl, sym, ap}
use lib.Dec.{eqb}
use Rattle.rules.specs.Kmip.{is}
use Rattle.kmip.specs.Runs.{items_of, type_of}
use Rattle.kmip.proofs.RowLaws.{value_missed, value_row_by}
use Rattle.kmip.proofs.rows.numbered.Goals as goal

pub returns-in_err-number : goal.returns-in_err-number
returns-in_err-number c =
    let s = c.args in
    rw c.from_residual.ensures (value_missed s.tag (type_of s.kind) (is s.n) (items_of s.run) c.in_err-number.ensures)

pub returns : goal.returns
returns c =
    let s = c.args in
    let found = c.in_ok-number.ensures in
    rw c.then_some.ensures
    (value_row_by s.tag (type_of s.kind) (is s.n) (items_of s.run) _ _ found.1 _ (ap (λ k. eqb k s.n) (sym found.2)) c.in_ok-number.behind refl)
