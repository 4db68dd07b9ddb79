-- `wrapped::clear` meets its contract: the key lies behind the integrity value.
-- Assumes nothing.
use Rattle.std.proofs.Common.{◌+◌}
use Rattle.cells.proofs.CellsLaws.{lent_is}
use Rattle.rules.specs.Numbers.{key_size}
use Rattle.drive.proofs.wrapped.clear.Goals as goal

pub invariant_of-x : goal.invariant_of-x
invariant_of-x c =
    let a = c.args in
    record { fits = rw (lent_is 5 a.l a.f.now, lent_is (5 + a.l + 8) key_size a.f.now) c.requires.1.0 }

pub returns : goal.returns
returns c = λ m.
    let a = c.args in
    rw (lent_is 5 a.l a.f.now, lent_is (5 + a.l + 8) key_size a.f.now) at (c.load.ensures m)
