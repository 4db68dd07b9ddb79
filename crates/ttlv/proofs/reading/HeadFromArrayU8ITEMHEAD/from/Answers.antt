-- A head's eight bytes are read as three numbers.
-- Assumes nothing.
use native.Mathlib.Omega.{arith}
use mathlib.Core.Path.{refl}
use Rattle.rules.specs.Fields.{big_endian}
use Rattle.ttlv.proofs.reading.HeadFromArrayU8ITEMHEAD.from.Goals as goal

pub returns : goal.returns
unfolding big_endian
returns c =
    record {
      tag_is = omega (arith, c.from_be_bytes.ensures);
      kind_is = refl;
      length_is = omega (arith, c.from_be_bytes-2.ensures);
      length_fits = omega arith;
    }
