-- `aes::keys::next_words` meets its contract: the words before i are those of the expansion.
-- Assumes nothing.
use mathlib.Core.Path.{refl, sym, ap, ◌∙◌}
use Prim.Native.Nat.{◌-◌}
use native.Mathlib.Omega.{arith}
use lib.ListN.{take, get_or, length-set}
use lib.Seq.{take_all}
use Rattle.rules.specs.AesBytes.{◌⊕◌}
use Rattle.aes.specs.ByTables.{expanded_by}
use Rattle.aes.proofs.LoopsLaws.{next_more}
use Rattle.aes.proofs.keys.next_words.Goals as goal

pub loop-i-init : goal.loop-i-init
unfolding expanded_by
loop-i-init c = (refl, omega arith)

pub loop-i-preserved : goal.loop-i-preserved
unfolding ◌⊕◌
loop-i-preserved c =
    let w = c.loop-i.w in
    let i = c.loop-i.i in (
      next_more c.args.sub.now (take 8 c.args.w.now) w i _ (omega arith) (omega arith) c.loop-i.invariant.0
          (ap (λ x. get_or w (i - 8) 0 ⊕ x) c.turned.ensures),
      (simp length-set (omega arith)),
    )

pub returns : goal.returns
returns c =
    sym (take_all c.loop-i.i c.loop-i.w (omega arith))
    ∙ c.loop-i.invariant.0 ∙ ap (expanded_by c.args.sub.now (take 8 c.args.w.now)) (omega arith)
