-- `wrapped::open` meets its contract: the key-encryption key and the wrapped key are lent where they lie.
-- Assumes nothing.
use Rattle.std.proofs.Common.{◌≡◌, ◌+◌, drop, ap, ◌∙◌, ap₂, arith, length-drop}
use Rattle.cells.specs.Cells.{part, write}
use Rattle.cells.proofs.CellsLaws.{length_part, lent_is, lent_rest, back}
use Rattle.rules.specs.Numbers.{wrapped_size, slots_size}
use Rattle.rules.specs.KeyWrap.{unwrap}
use Rattle.wrap.specs.Wrapping.{Opening, told, opened_in}
use Rattle.drive.proofs.WrappedLaws.{opened_by}
use Rattle.drive.proofs.wrapped.open.Goals as goal

pub returns : goal.returns
returns c =
    let a = c.args in
    let at = 5 + a.l in
    let kek = drop slots_size a.keys.now in
    let wrapped = part at wrapped_size a.f.now in
    let long = length_part at wrapped_size a.f.now (omega arith) in
    let e : ◌≡◌ {A = Opening} (record { opened = c.unwrap.result; bytes = c.unwrap.new.bytes }) (told (unwrap kek wrapped)) =
    c.unwrap.ensures.0 ∙ ap₂ opened_in (lent_rest slots_size a.keys.now) (lent_is at wrapped_size a.f.now)
    ∙ opened_by kek wrapped (simp length-drop (omega arith)) long in (
      ap (λ (o : Opening). o.opened) e,
      back at wrapped_size _ a.f.now ∙ ap (λ v. write at wrapped_size v a.f.now) (ap (λ (o : Opening). o.bytes) e),
      c.unwrap.ensures.1,
    )
