-- `aes::cipher` meets its contract: the cipher over the key's round keys.
-- Assumes nothing.
use mathlib.Core.Path.{◌≡◌, ap, ◌∙◌}
use native.Mathlib.Omega.{arith}
use lib.ListN.{length}
use Rattle.std.proofs.Common.{rules}
use Rattle.fips197.specs.Boxes.{sbox}
use Rattle.aes.specs.Words.{Fit}
use Rattle.aes.specs.Tables.{mix_table}
use Rattle.aes.specs.ByTables.{words_of, expanded_by, cipher_by}
use Rattle.aes.proofs.CipherLaws.{coded}
use Rattle.aes.proofs.cipher.Goals as goal

pub returns : goal.returns
returns c =
    let key = c.args.key.now in
    let s = c.args.block in
    let fit : Fit s = record { a = search rules; b = search rules; c = search rules; d = search rules } in
    let told : length key ≡ 32 → c.keyed.result ≡ cipher_by mix_table sbox (expanded_by sbox (words_of key 8) 52) s =
    λ e.
    let h = (c.keyed.ensures.told e).1 in
    let run : c.keyed.result ≡ cipher_by mix_table sbox h.shown.now s = search rules in
    run ∙ ap (λ w. cipher_by mix_table sbox w s) h.shows in
    (coded key (λ i. omega (arith, c.type_inv.key i)) s fit c.keyed.result c.keyed.ensures.other told, c.keyed.ensures.wiped)
