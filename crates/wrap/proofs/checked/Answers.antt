-- `wrap::checked` meets its contract: the first eight bytes as a number.
-- Assumes nothing.
use mathlib.Core.Path.{◌≡◌, ap, ◌∙◌}
use lib.ListN.{take}
use lib.Dec.{eqb}
use Rattle.std.proofs.Common.{rules}
use Rattle.std.specs.Int.{w64, from_be_bytes}
use Rattle.cells.specs.Cells.{zeros}
use Rattle.rules.specs.AesPromises.{Bytes}
use Rattle.wrap.proofs.WrappingLaws.{opens, stays_shut}
use Rattle.wrap.proofs.checked.Goals as goal

pub returns-then-not-opened : goal.returns-then-not-opened
unfolding zeros
returns-then-not-opened c =
    let s = c.args.bytes.now in
    let r = c.is_some_and-opened.result in
    let value : r ≡ eqb (from_be_bytes w64 (take 8 s)) 0xA6A6A6A6A6A6A6A6 = search rules in
    let h : Bytes 40 s = record { long = c.told-bytes; small = c.fits-bytes } in
    stays_shut s h r value c.if-not-opened.true _ (c.fill.ensures.after (λ y p. search rules) ∙ ap zeros c.told-bytes)

pub returns-else-not-opened : goal.returns-else-not-opened
returns-else-not-opened c =
    let s = c.args.bytes.now in
    let r = c.is_some_and-opened.result in
    let value : r ≡ eqb (from_be_bytes w64 (take 8 s)) 0xA6A6A6A6A6A6A6A6 = search rules in
    let h : Bytes 40 s = record { long = c.told-bytes; small = c.fits-bytes } in
    opens s h r value c.if-not-opened.false
