-- The promises of item lists hold of the code, since what it leaves is what the
-- definitions say.
-- Assumes nothing.
use mathlib.Core.Path.{◌≡◌, sym, ap, ◌∙◌}
use mathlib.Core.Option.{some}
use lib.ListN.{take}
use Rattle.rules.specs.Ttlv.{read_items}
use Rattle.ttlv.specs.Listing.{items_in, Reading}
use Rattle.ttlv.specs.Writing.{tree_of, Wrote}
use Rattle.ttlv.proofs.WrittenLaws.{lists_promised}
use Rattle.ttlv.proofs.ListedLaws.{listed_as_items}
use Rattle.promises.specs.Lists.{ListDemands}
use Rattle.promises.proofs.LeavesLaws.{reading_is, writing_is}

pub list_demands : ListDemands
list_demands = record {
  listed_so = λ xs places o l n e.
      let r = reading_is xs places o l in
      ap (λ (x : Reading). some (items_in n x.places)) r
      ∙ lists_promised.listed_so xs places n (ap (λ (x : Reading). x.result) (sym r) ∙ e);
  listed_as_items = λ xs places o l bytes n e.
      let r = reading_is xs places o l in
      listed_as_items xs places n bytes (ap (λ (x : Reading). x.result) (sym r) ∙ e)
      ∙ ap (λ (x : Reading). some (tree_of xs (items_in n x.places))) (sym r);
  written_back = λ items count values out o l bytes n e.
      let r = writing_is items count values out o l in
      ap (λ (x : Wrote). read_items (take n x.out)) r
      ∙ lists_promised.written_back items count values out n bytes (ap (λ (x : Wrote). x.result) (sym r) ∙ e);
}
