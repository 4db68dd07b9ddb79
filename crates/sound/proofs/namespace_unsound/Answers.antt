-- `namespace_unsound` meets its contract: the allocated slots, and all bytes behind them.
-- Assumes nothing.
use Rattle.std.proofs.Common.{rules, tests}
use Rattle.std.proofs.lemmas.Iterator.{YieldsList-from_slice}
use Rattle.std.proofs.lemmas.Iterator.Search.{any_from_yields_List}
use mathlib.Core.Path.{◌≡◌, sym, ap, ◌∙◌}
use mathlib.Core.Bool.{true, false, not, ◌||◌}
use Prim.Native.Nat.{min}
use Rattle.std.specs.List.{list_any}
use Rattle.rules.specs.Numbers.{tags_most}
use Rattle.rules.specs.Sound.{slot_unsound}
use Rattle.cells.specs.Predicates.{all_zero}
use Rattle.sound.proofs.ScanLaws.{behind_marked, namespace_split}
use Rattle.sound.proofs.namespace_unsound.Goals as goal

pub returns-else-any : goal.returns-else-any
returns-else-any c =
    let a = ap not (c.all_zero.ensures ∙ ap all_zero c.as_flattened.ensures.value) ∙ behind_marked c.split_at.result.1.now in
    let at : c.min-count.result ≡ min c.args.count tags_most = c.min-count.ensures ∙ ap (λ n. min n tags_most) c.from.ensures in
    let front = any_from_yields_List (λ s. slot_unsound false s) _ _ c.any.result c.any.ensures.ran
    (YieldsList-from_slice c.split_at.result.0.now c.iter.ensures.rest) (λ x b q k. search (rules, tests)) in
    a
    ∙ ap (λ b. b || list_any (λ s. slot_unsound true s) c.split_at.result.1.now) (sym c.if-any.false ∙ front)
    ∙ namespace_split c.args.count c.args.slots.now c.told-slots at c.split_at.ensures.front c.split_at.ensures.back
