-- `aes::keys::turned` meets its contract: by the place of the word among eight.
-- Assumes nothing.
use mathlib.Core.Path.{◌≡◌, ap, ap₂, ◌∙◌}
use Prim.Native.Nat.{◌%◌}
use native.Mathlib.Omega.{arith}
use lib.Bits.{bit_xor}
use borrow.Author.Tests.{eq-eqb, ne_eqb}
use Rattle.rules.specs.AesBytes.{◌⊕◌}
use Rattle.rules.specs.Aes.{round_constants}
use Rattle.aes.specs.ByTables.{sub_word_by, turned_by}
use Rattle.aes.proofs.WordsLaws.{high_byte, rotated_left}
use Rattle.aes.proofs.keys.turned.Goals as goal

pub returns-in-0 : goal.returns-in-0
unfolding turned_by ◌⊕◌ round_constants
returns-in-0 c =
    let word = c.sub_word.ensures ∙ ap (sub_word_by c.args.sub.now) (c.rotate_left.ensures ∙ rotated_left c.args.temp (omega arith)) in
    ap₂ bit_xor word (c.from_be_bytes-constant.ensures ∙ high_byte _) ∙ (rw (eq-eqb _ _ c.in-0.is))

pub returns-in-4 : goal.returns-in-4
unfolding turned_by
returns-in-4 c =
    c.sub_word-in-4.ensures ∙ (rw c.in-4.is)

pub returns-in_default : goal.returns-in_default
unfolding turned_by
returns-in_default c =
    let first : (c.args.i % 8 ≡ 0) → ⊥ = omega arith in
    let fourth : (c.args.i % 8 ≡ 4) → ⊥ = omega arith in
    rw (ne_eqb _ _ first, ne_eqb _ _ fourth)
