-- `sound` meets its contract: what is left tells what the whole is.
-- Assumes nothing.
use mathlib.Core.List.{[]}
use mathlib.Core.Option.{none, some}
use Rattle.ttlv.proofs.WalkLaws.{tell_more, tell_end}
use Rattle.ttlv.proofs.sound.Goals as goal

pub loop-preserved : goal.loop-preserved
loop-preserved c = let on = rw c.in-Ok-Some.field-0-is at c.in-Ok-Some.ensures in tell_more c.loop.invariant _ _ on.0 on.1

pub returns-in-Ok-None : goal.returns-in-Ok-None
returns-in-Ok-None c = tell_end c.loop.invariant (some []) (rw c.in-Ok-None.field-0-is at c.in-Ok-None.ensures)

pub returns-in-Err : goal.returns-in-Err
returns-in-Err c = tell_end c.loop.invariant none c.in-Err.ensures
