-- `save` meets its contract: the counts and the two lock bytes go to the front.
-- Assumes nothing.
use Rattle.std.proofs.Common.{◌≡◌, length, rules}
use Rattle.rules.specs.Numbers.{namespaces}
use Rattle.tuffaleen_c.proofs.ImageLaws.{registers_front}
use Rattle.tuffaleen_c.proofs.image.save.Goals as goal

pub returns : goal.returns
returns c =
    let four : length c.args.registers.counts ≡ namespaces = search rules in
    rw (c.copy_from_slice.ensures.after, c.from.ensures, c.from-2.ensures) (registers_front c.args.image.now _ c.requires four _ _)
