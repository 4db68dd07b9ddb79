-- Each line stands for what the table says: the checker computes it.
-- Assumes nothing.
use mathlib.Core.Path.{refl}
use Rattle.cells.specs.Cells.{part, zeros}
use Rattle.cells.specs.Predicates.{same, all_zero}
use Rattle.rules.specs.Fields.{little, big_endian}
use Rattle.rules.specs.FrameLine.{first_bad, decoded, line_checks}
use Rattle.rules.specs.Ttlv.{is_value, front_of, front, with_value, with_structure, on_front, read_by, read_at}
use Rattle.rules.specs.Kmip.{from, value_then, structure_then, in_order, lacks, each_vendored, named, is_request, load_in}
use Rattle.rules.specs.Frames.{command_of, read_load, read_wrapped, read_replace, read_message, kinds, read_frame}
use Rattle.rules.specs.Start.{start}
use Rattle.rules.specs.Examples.{codes}
use Rattle.rules.specs.Readings.{ReadingsRight}
use Rattle.rules.specs.Readings as readings

pub readings_right : ReadingsRight
unfolding part zeros same all_zero little big_endian first_bad decoded line_checks is_value front_of front with_value with_structure on_front read_by read_at
    from value_then structure_then in_order lacks each_vendored named is_request load_in
    command_of read_load read_wrapped read_replace read_message kinds read_frame codes readings.from start
readings_right = record {
  kind_01 = (refl, refl);
  kind_02 = (refl, refl);
  kind_03 = (refl, refl);
  kind_04 = (refl, refl);
  kind_05 = (refl, refl);
  kind_06 = (refl, refl);
  kind_07 = (refl, refl);
  kind_08 = (refl, refl);
  kind_09 = (refl, refl);
  kind_0A = (refl, refl);
  kind_0B = (refl, refl);
  kind_0C = (refl, refl);
  kind_0D = (refl, refl);
  kind_0E = (refl, refl);
  kind_00 = refl;
  kind_0F = refl;
  kind_FF = refl;
  first_slot = refl;
  last_of_the_first = refl;
  first_of_the_last = refl;
  last_slot = refl;
  first_block = refl;
  last_block_of_the_first = refl;
  first_block_of_the_last = refl;
  last_block = refl;
  program_key = refl;
  all_wrong = refl;
}
