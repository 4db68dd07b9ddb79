-- `other_key` meets its contract.
-- Assumes nothing.
use Rattle.std.proofs.Common.{[], ◌∙◌}
use Rattle.slots.proofs.AllocatedLaws.{sound_other_key}
use Rattle.drive.specs.Contents.{contents}
use Rattle.drive.specs.Acting.{state}
use Rattle.drive.proofs.keys.other_key.Goals as goal

pub returns : goal.returns
returns c =
    let a = c.args in
    c.other_key_allocated.ensures
    ∙ sound_other_key (state a.registers.now a.keys.now []) c.requires (contents a.x.uid.now a.x.key.now) a.x.fits.some
