-- `aes::keys::unmix` meets its contract: the words up to the index are mixed back, the rest is as it was.
-- Assumes nothing.
use mathlib.Core.Path.{refl, ap, ◌∙◌}
use native.Mathlib.Omega.{arith}
use lib.ListN.{set}
use lib.Seq.{take_all}
use borrow.Rule.Slice.PartMut.{mid_of, put_mid}
use Rattle.std.proofs.lemmas.Grind.{common_steps}
use Rattle.std.proofs.lemmas.List.{drop_all}
use Rattle.std.proofs.lemmas.List.Edits.{map_over_more}
use Rattle.aes.specs.ByTables.{unmixed_word}
use Rattle.aes.proofs.LoopsLaws.{unmix_end}
use Rattle.aes.proofs.keys.unmix.Goals as goal

pub loop-word-init : goal.loop-word-init
loop-word-init c = refl

pub loop-word-preserved : goal.loop-word-preserved
loop-word-preserved c =
    let f = unmixed_word c.args.tables.now.mix.now c.args.tables.now.sub.now in
    ap (set c.loop-word.word-items c.loop-word.word-index) c.unmixed.ensures
    ∙ map_over_more f (mid_of 4 52 c.args.w.now) c.loop-word.word-items c.loop-word.word-index _ (omega arith) c.loop-word.invariant
    (grind (arith, common_steps))

pub returns : goal.returns
returns c =
    ap (put_mid 4 52 c.args.w.now) (c.loop-word.invariant ∙ (grind (arith, common_steps, take_all, drop_all)))
    ∙ unmix_end _ _ c.args.w.now
