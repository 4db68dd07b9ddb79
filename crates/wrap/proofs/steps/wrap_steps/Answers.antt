-- `wrap::steps::wrap_steps` meets its contract: so far the bytes are those of the steps before t.
-- Assumes nothing.
use mathlib.Core.Path.{◌≡◌, refl, ap, ◌∙◌}
use Prim.Native.Nat.{◌-◌}
use native.Mathlib.Omega.{arith}
use Rattle.std.proofs.Common.{rules}
use Rattle.wrap.specs.Steps.{block_at, put_block, counted, start_of, wrap_step_by, wrap_steps_by}
use Rattle.wrap.proofs.StepsLaws.{wrap_more}
use Rattle.wrap.proofs.steps.wrap_steps.Goals as goal

pub loop-t-init : goal.loop-t-init
unfolding wrap_steps_by
loop-t-init g c = λ f h. refl

pub loop-t-preserved : goal.loop-t-preserved
loop-t-preserved g c = λ f h.
    let t = c.loop-t.t-counter in
    let s = c.loop-t.bytes in
    let x : c.step.ensures.0 ≡ counted t (f (block_at (start_of t) s)) = search rules in
    c.step.ensures.2 ∙ ap (λ b. put_block (start_of t) b s) x ∙ ap (wrap_step_by f t) (c.loop-t.invariant f h)
    ∙ wrap_more f t c.args.bytes.now (omega arith)

pub returns : goal.returns
returns g c = λ f h.
    let all : c.loop-t.t-counter - 1 ≡ 24 = omega arith in
    c.loop-t.invariant f h ∙ ap (λ n. wrap_steps_by f n c.args.bytes.now) all
