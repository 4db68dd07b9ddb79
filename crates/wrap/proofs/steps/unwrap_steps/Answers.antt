-- `wrap::steps::unwrap_steps` meets its contract: the steps left to go back lead where all 24 lead.
-- Assumes nothing.
use mathlib.Core.Path.{◌≡◌, refl, sym, ap, ◌∙◌}
use Prim.Native.Nat.{◌-◌}
use native.Mathlib.Omega.{arith}
use Rattle.std.proofs.Common.{rules}
use Rattle.wrap.specs.Steps.{block_at, put_block, counted, start_of, unwrap_steps_by}
use Rattle.wrap.proofs.StepsLaws.{unwrap_more}
use Rattle.wrap.proofs.steps.unwrap_steps.Goals as goal

pub loop-t-init : goal.loop-t-init
loop-t-init g c = λ f h. refl

pub loop-t-preserved : goal.loop-t-preserved
loop-t-preserved g c = λ f h.
    let t = c.loop-t.t-counter in
    let s = c.loop-t.bytes in
    let x : c.step.ensures.0 ≡ f (counted t (block_at (start_of t) s)) = search rules in
    ap (unwrap_steps_by f (t - 1)) (c.step.ensures.2 ∙ ap (λ b. put_block (start_of t) b s) x)
    ∙ unwrap_more f t s (omega arith) ∙ c.loop-t.invariant f h

pub returns : goal.returns
unfolding unwrap_steps_by
returns g c = λ f h.
    let none : c.loop-t.t-counter ≡ 0 = omega arith in
    sym (ap (λ n. unwrap_steps_by f n c.loop-t.bytes) none) ∙ c.loop-t.invariant f h
