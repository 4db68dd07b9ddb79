-- `counts_unsound` meets its contract.
-- Assumes nothing.
use Rattle.std.proofs.Common.{rules, tests}
use Rattle.std.proofs.iter.runs.Sources.{sums}
use Rattle.std.proofs.lemmas.Iterator.{YieldsList-from_slice, YieldsList-from_map}
use Rattle.std.proofs.lemmas.Iterator.Search.{any_from_yields_List}
use Rattle.std.proofs.lemmas.Iterator.Consumers.{sum_by_from_yields_List}
use mathlib.Core.Path.{sym, ap, ◌∙◌}
use mathlib.Core.Bool.{◌||◌}
use lib.Dec.{ltb}
use Rattle.std.specs.Slice.Iter.{iter_rest}
use Rattle.std.specs.Iterator.Adapters.{map_source}
use Rattle.rules.specs.Numbers.{tags_most, pool_slots}
use Rattle.rules.specs.State.{total}
use Rattle.sound.proofs.ScanLaws.{above_any, total_is}
use Rattle.sound.proofs.counts_unsound.Goals as goal

pub sum-requires-clause-fits : goal.sum-requires-clause-fits
sum-requires-clause-fits c = search (rules, sums)

pub returns-then-any : goal.returns-then-any
returns-then-any c =
    let above = any_from_yields_List (λ n. ltb tags_most n) _ _ c.any.result c.any.ensures.ran
    (YieldsList-from_slice c.args.counts c.iter.ensures.rest) (λ x b q k. search (rules, tests)) in
    c.if-any.true ∙ sym (ap (λ b. b || ltb pool_slots (total c.args.counts)) (sym (above_any tags_most c.args.counts) ∙ sym above ∙ c.if-any.true))

pub returns-else-any : goal.returns-else-any
returns-else-any c =
    let above = any_from_yields_List (λ n. ltb tags_most n) _ _ c.any.result c.any.ensures.ran
    (YieldsList-from_slice c.args.counts c.iter.ensures.rest) (λ x b q k. search (rules, tests)) in
    let source = ap iter_rest c.map.ensures.source ∙ c.iter-else-any.ensures.rest in
    let sum = sum_by_from_yields_List (λ n. n) c.args.counts c.map.result c.sum.result c.sum.ensures.ran
    (YieldsList-from_map _ (λ n. n) (YieldsList-from_slice {s = map_source c.map.result} c.args.counts source)
    c.map.ensures.closure (λ x r q k. search rules)) in
    ap (ltb pool_slots) (sum ∙ total_is c.args.counts)
    ∙ ap (λ b. b || ltb pool_slots (total c.args.counts)) (sym c.if-any.false ∙ above ∙ above_any tags_most c.args.counts)
