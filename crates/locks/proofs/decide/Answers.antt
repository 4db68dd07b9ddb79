-- `locks::decide` meets its contract: where every test passes, each partition has the state that its field asks for.
-- Assumes nothing.
use native.Mathlib.Omega.{arith}
use Rattle.std.proofs.Common.{◌∙◌}
use Rattle.locks.proofs.DecidingLaws.{field0_mask, decided_done}
use Rattle.locks.proofs.decide.Goals as goal

pub returns : goal.returns
returns c =
    let s = c.args in
    let asked0 = c.in_ok-asked0.ensures in
    let asked1 = c.in_ok-asked1.ensures in
    let next0 = c.in_ok-next.ensures in
    let next1 = c.in_ok-next-2.ensures in
    decided_done s.locks s.dword11 c.ranges.dword11.fits c.if-dword11-ne0.false (field0_mask s.dword11) (omega (arith, field0_mask)) asked0.0 asked1.0
    (next0.0 ∙ asked0.1 _) (cc (asked1.1 s.locks.partition1)) next0.1 (cc)
