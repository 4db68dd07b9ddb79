-- `good_list` meets its contract: what is left to test decides the whole.
-- Assumes nothing.
use mathlib.Core.Path.{sym, ◌∙◌}
use Rattle.ttlv.proofs.GoodLaws.{good_depth}
use Rattle.ttlv.proofs.ItemLoopLaws.{next_item, no_item, good_more, good_stop, good_end}
use Rattle.ttlv.proofs.writing.Items.are_good.Goals as goal

pub returns-then-not-is_good : goal.returns-then-not-is_good
returns-then-not-is_good c =
    let s = c.args in
    let l = c.loop-numbers in
    let w = c.from-item in
    let step = next_item l.numbers-index s.self.arrays.now w.result w.ensures c.loop-numbers-test.true in
    good_stop s.n l.most _ w.result _ step (sym c.is_good.ensures ∙ c.if-not-is_good.true) ∙ l.invariant

pub most_behind-most-requires : goal.most_behind-most-requires
most_behind-most-requires c =
    good_depth c.args.n c.loop-numbers.most c.from-item.result (sym c.is_good.ensures ∙ c.if-not-is_good.false)

pub loop-numbers-preserved : goal.loop-numbers-preserved
loop-numbers-preserved c =
    let s = c.args in
    let l = c.loop-numbers in
    let w = c.from-item in
    let b = c.most_behind-most in
    let step = next_item l.numbers-index s.self.arrays.now w.result w.ensures c.loop-numbers-test.true in
    good_more s.n l.most _ w.result _ b.result step (sym c.is_good.ensures ∙ c.if-not-is_good.false) b.ensures ∙ l.invariant

pub returns : goal.returns
returns c =
    let s = c.args in
    let l = c.loop-numbers in
    good_end s.n l.most _ (no_item l.numbers-index s.self.arrays.now c.loop-numbers-test.false) ∙ l.invariant
