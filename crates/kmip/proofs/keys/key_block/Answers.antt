-- `key_block` meets its contract.
-- Assumes nothing.
use mathlib.Core.Path.{refl, ap, ◌∙◌}
use mathlib.Core.Bool.{Bool, ◌&&◌, and-false}
use mathlib.Core.List.{[]}
use lib.ListN.{length}
use lib.Dec.{eqb}
use Rattle.std.specs.Prelude.{Some}
use Rattle.rules.specs.Numbers.{key_size}
use Rattle.rules.specs.Ttlv.{Items, Enumeration, ByteString}
use Rattle.rules.specs.Kmip.{from, has, bytes_of, ◌is_a◌with◌, ◌holds◌, is, KeyFormatType, KeyMaterial, KeyValue, Raw}
use Rattle.kmip.specs.Runs.{items_of}
use Rattle.kmip.proofs.RowLaws.{structure_missed, structure_gives, row_alone, gives_as}
use Rattle.kmip.proofs.keys.key_block.Goals as goal

abbrev good : Items → Bool
good members = has (KeyMaterial is_a ByteString with (λ key. eqb (length key) key_size)) members

pub returns-in_err-members : goal.returns-in_err-members
returns-in_err-members c =
    let items = items_of c.args.run in
    rw c.from_residual-in_err-members.ensures
    (ap (λ b. has (KeyFormatType is_a Enumeration with is Raw) items && b) (structure_missed KeyValue good items c.in_err-members.ensures []) ∙ and-false _)

pub returns : goal.returns
returns c =
    let items = items_of c.args.run in
    let format = row_alone (KeyFormatType is_a Enumeration with is Raw) items (Some c.in_ok-numbered.field-0) c.in_ok-numbered.ensures in
    gives_as (λ key. key.now) _ (ap (λ b. b && has (KeyValue holds good) items) format) refl
    (structure_gives KeyValue good items (λ key. key.now) (λ members. bytes_of (from KeyMaterial members)) _ _ c.in_ok-members.ensures _ c.material.ensures)
