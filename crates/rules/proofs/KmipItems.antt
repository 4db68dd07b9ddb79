-- Which items bring a key: the checker computes it.
-- Assumes nothing.
use mathlib.Core.Path.{refl}
use Rattle.cells.specs.Cells.{zeros}
use Rattle.cells.specs.Predicates.{same}
use Rattle.rules.specs.Fields.{big_endian}
use Rattle.rules.specs.Kmip.{from, value_then, structure_then, in_order, lacks, each_vendored, named, is_request}
use Rattle.rules.specs.KmipItems.{taken, not_taken, all_bring, none_brings, KmipItemsRight}

pub kmip_items_right : KmipItemsRight
unfolding zeros same big_endian from value_then structure_then in_order lacks each_vendored named is_request taken not_taken all_bring none_brings
kmip_items_right = record { all_taken = refl; none_taken = refl }
