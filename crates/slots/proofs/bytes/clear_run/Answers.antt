-- `clear_run` meets its contract: the bytes of a run of slots become zero.
-- Assumes nothing.
use native.Mathlib.Omega.{arith}
use mathlib.Core.Path.{◌∙◌}
use Rattle.cells.proofs.CellsLaws.{zero_cells}
use Rattle.rules.specs.Numbers.{slot_width}
use Rattle.rules.proofs.StateLaws.{right_cache}
use Rattle.slots.proofs.bytes.clear_run.Goals as goal

pub returns-then-keys-eq-CACHE_SIZE : goal.returns-then-keys-eq-CACHE_SIZE
returns-then-keys-eq-CACHE_SIZE c =
    rw (right_cache c.args.keys.now c.if-keys-eq-CACHE_SIZE.true)
    (c.zero_part.ensures ∙ zero_cells slot_width c.args.first c.args.n c.args.keys.now (omega arith))
