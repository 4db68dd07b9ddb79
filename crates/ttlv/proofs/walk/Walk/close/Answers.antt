-- `close` meets its contract: what is left stays.
-- Assumes nothing.
use mathlib.Core.Path.{sym, ◌∙◌}
use Rattle.ttlv.proofs.WalkLaws.{walk_between, close_between, close_rest}
use Rattle.ttlv.proofs.walk.Walk.close.Goals as goal

pub invariant_of-self : goal.invariant_of-self
invariant_of-self c =
    let o = close_between (walk_between c.loop-self.self) c.loop-self-test.true (sym c.if-self.true) in
    record { inside = o.inside; few = o.few; nested = o.nested }

pub loop-self-preserved : goal.loop-self-preserved
loop-self-preserved c =
    let i = c.loop-self.invariant in
    (i.0, i.1, close_rest (walk_between c.loop-self.self) c.loop-self-test.true (sym c.if-self.true) ∙ i.2)
