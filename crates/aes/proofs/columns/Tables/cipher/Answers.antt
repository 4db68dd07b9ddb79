-- `aes::columns::Tables::cipher` meets its contract: the first round key, so far the rounds before r, and the last.
-- Assumes nothing.
use mathlib.Core.Path.{◌≡◌, refl, ap, ap₂, ◌∙◌}
use Prim.Native.Nat.{◌-◌}
use native.Mathlib.Omega.{arith}
use Rattle.aes.specs.ByTables.{added, round_of, last_of, rounds_with}
use Rattle.aes.proofs.LoopsLaws.{rounds_more}
use Rattle.aes.proofs.columns.Tables.cipher.Goals as goal

pub loop-r-init : goal.loop-r-init
unfolding rounds_with
loop-r-init g c = λ k h. refl

pub loop-r-preserved : goal.loop-r-preserved
loop-r-preserved g c = λ k h.
    let t = c.args.self.now.mix.now in
    let r = c.loop-r.r in
    c.round-s.ensures ∙ ap₂ (round_of t) (c.loop-r.invariant k h) (h r _ (omega arith) c.key-in-loop-r.ensures)
    ∙ rounds_more t k r _ (omega arith)

pub returns : goal.returns
returns g c = λ k h.
    let t = c.args.self.now.mix.now in
    let all : c.loop-r.r - 1 ≡ 13 = omega arith in
    let start = c.bitxor-s.ensures ∙ ap (added c.args.block) (h 0 _ (omega arith) c.key.ensures) in
    let s = c.loop-r.invariant k h ∙ ap₂ (rounds_with t k) all start in
    c.last.ensures ∙ ap₂ (last_of c.args.self.now.sub.now) s (h 14 _ (omega arith) c.key-2.ensures)
