-- `command` meets its contract: each field stands where the paper says, and the mask cuts CETYPE out.
-- Assumes nothing.
use Rattle.std.proofs.Common.{◌≡◌, ◌∙◌, refl, arith}
use lib.Bits.{and_mask}
use Rattle.rules.specs.Fields.{bytes}
use Rattle.rules.specs.Frames.{command_of}
use Rattle.frames.proofs.FieldsLaws.{little_next, pair_at, two_at, four_at}
use Rattle.frames.proofs.fields.command.Goals as goal

pub returns : goal.returns
unfolding command_of
returns c =
    let f = c.args.c.now in
    let size = c.requires in
    let dword12 : c.from_le_bytes-dword12.result ≡ bytes 48 51 f =
    c.from_le_bytes-dword12.ensures ∙ four_at 48 49 f refl 50 51 refl refl (omega arith) in
    let ns : c.from_le_bytes.result ≡ bytes 4 7 f = c.from_le_bytes.ensures ∙ four_at 4 5 f refl 6 7 refl refl (omega arith) in
    let first : c.from_le_bytes-2.result ≡ bytes 40 47 f =
    let low = four_at 40 41 f refl 42 43 refl refl (omega arith) in
    let high = four_at 44 45 f refl 46 47 refl refl (omega arith) in
    let a = little_next 40 41 7 f (omega arith) refl in
    let b = little_next 41 42 6 f (omega arith) refl in
    let d = little_next 42 43 5 f (omega arith) refl in
    let e = little_next 43 44 4 f (omega arith) refl in
    c.from_le_bytes-2.ensures ∙ omega arith in
    let more : c.from_le_bytes-3.result ≡ bytes 48 49 f = c.from_le_bytes-3.ensures ∙ two_at 48 49 f refl (omega arith) in
    rw (dword12, ns, first, more, c.tag_of.ensures, pair_at 52 53 f refl (omega arith), and_mask _ 4)
