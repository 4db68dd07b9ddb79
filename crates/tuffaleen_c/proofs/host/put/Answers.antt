-- `put` meets its contract: the three parts, one behind the other.
-- Assumes nothing.
use Rattle.std.proofs.Common.{◌≡◌, length, sym, ◌∙◌, length-take-le, arith, rules}
use Rattle.tuffaleen_c.specs.Host.{header_places, tper_places, key_per_io_places}
use Rattle.tuffaleen_c.proofs.HostLaws.{parts}
use Rattle.tuffaleen_c.proofs.host.put.Goals as goal

pub slice_bounds-copy_from_slice-end-2 : goal.slice_bounds-copy_from_slice-end-2
slice_bounds-copy_from_slice-end-2 c = sym (length-take-le header_places c.args.fields.now (omega arith))

pub copy_from_slice-requires : goal.copy_from_slice-requires
copy_from_slice-requires c =
    let size : length c.header_numbers.result ≡ header_places = search rules in
    length-take-le header_places c.args.fields.now (omega arith) ∙ sym size

pub returns : goal.returns
returns c =
    let header : length c.header_numbers.result ≡ header_places = search rules in
    let tper : length c.tper_numbers.result ≡ tper_places = search rules in
    let key_per_io : length c.key_per_io_numbers.result ≡ key_per_io_places = search rules in
    rw (c.copy_from_slice.ensures.after, c.copy_from_slice-2.ensures.after, c.copy_from_slice-3.ensures.after)
    (parts c.args.fields.now _ _ _ header tper
    ∙ (rw (c.header_numbers.ensures, c.tper_numbers.ensures, c.key_per_io_numbers.ensures)))
