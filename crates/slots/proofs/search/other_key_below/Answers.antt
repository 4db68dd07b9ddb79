-- `other_key_below` meets its contract: the first slots of the namespace, at most all.
-- Assumes nothing.
use Rattle.std.proofs.Common.{rules, tests}
use mathlib.Core.Path.{◌≡◌, ap, ◌∙◌}
use Prim.Native.Nat.{min}
use Rattle.std.proofs.lemmas.Iterator.{YieldsList-from_slice}
use Rattle.std.proofs.lemmas.Iterator.Search.{any_from_yields_List}
use Rattle.rules.specs.Numbers.{tags_most}
use Rattle.slots.specs.Cache.{other_key_behind}
use Rattle.slots.proofs.SearchLaws.{first_slots}
use Rattle.slots.proofs.search.other_key_below.Goals as goal

pub returns : goal.returns
returns c =
    let n : c.min-n.result ≡ min c.args.count tags_most = c.min-n.ensures ∙ ap (λ k. min k tags_most) c.from.ensures in
    any_from_yields_List (λ s. other_key_behind c.args.head.now c.args.key.now s) _ _ c.any.result c.any.ensures.ran
    (YieldsList-from_slice _ (c.iter.ensures.rest ∙ first_slots c.args.count c.args.slots.now c.told-slots n)) (λ x b q k. search (rules, tests))
