-- `aes::inv_cipher_by` meets its contract: the round keys from the last, mirrored.
-- Assumes nothing.
use mathlib.Core.Path.{ap, ◌∙◌}
use Prim.Native.Nat.{ℕ, ◌-◌}
use Rattle.std.proofs.Common.{rules}
use Rattle.aes.specs.ByTables.{mirrored, key_at, ciphered}
use Rattle.aes.specs.declared.Block.{Block}
use Rattle.aes.proofs.LoopsLaws.{cipher_backward}
use Rattle.aes.proofs.inv_cipher_by.Goals as goal

pub returns : goal.returns
returns c =
    let s = c.args in
    let key : ℕ → Block = λ r. mirrored (key_at s.w.now (14 - r)) in
    let told = c.cipher-told.ensures key (λ r k h p. search rules) ∙ ap (ciphered s.table.now s.sub.now key) c.mirrored.ensures in
    c.mirrored-2.ensures ∙ ap mirrored told ∙ cipher_backward s.table.now s.sub.now s.w.now s.block
