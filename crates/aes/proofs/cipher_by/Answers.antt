-- `aes::cipher_by` meets its contract: the round keys in order.
-- Assumes nothing.
use mathlib.Core.Path.{◌∙◌}
use Rattle.std.proofs.Common.{rules}
use Rattle.aes.specs.ByTables.{key_at}
use Rattle.aes.proofs.LoopsLaws.{cipher_forward}
use Rattle.aes.proofs.cipher_by.Goals as goal

pub returns : goal.returns
returns c =
    let s = c.args in
    c.cipher.ensures (key_at s.w.now) (λ r k h p. search rules) ∙ cipher_forward s.table.now s.sub.now s.w.now s.block
