-- `item_at` meets its contract.
-- Assumes nothing.
use mathlib.Core.Path.{sym, ap, ◌∙◌}
use Rattle.cells.specs.Cells.{part}
use Rattle.rules.specs.Ttlv.{front}
use Rattle.ttlv.specs.Reading.{placed, front_at}
use Rattle.ttlv.proofs.FrontLaws.{item_there, item_none}
use Rattle.ttlv.proofs.item_at.Goals as goal

pub returns-in_err-get : goal.returns-in_err-get
returns-in_err-get c =
    let s = c.args in
    rw c.from_residual.ensures (item_none s.bytes.now s.at s.end c.in_err-get.ensures.lookup.0)

pub returns : goal.returns
unfolding front_at part
returns c =
    let s = c.args in
    let got = c.in_ok-get.ensures.lookup.0 in
    c.front_of.ensures ∙ ap (λ run. placed s.at (front run)) got.2 ∙ sym (item_there s.bytes.now s.at s.end got.0 got.1)
