-- `aes::inv_cipher` meets its contract: the inverse over the key's round keys mixed back.
-- Assumes nothing.
use mathlib.Core.Path.{◌≡◌, ap, ◌∙◌}
use native.Mathlib.Omega.{arith}
use lib.ListN.{length}
use Rattle.std.proofs.Common.{rules}
use Rattle.fips197.specs.Boxes.{sbox, inv_sbox}
use Rattle.aes.specs.Words.{Fit}
use Rattle.aes.specs.Tables.{inv_mix_table}
use Rattle.aes.specs.ByTables.{words_of, expanded_by, unmixed_by, inv_cipher_by}
use Rattle.aes.proofs.CipherLaws.{decoded}
use Rattle.aes.proofs.inv_cipher.Goals as goal

pub returns : goal.returns
returns c =
    let key = c.args.key.now in
    let s = c.args.block in
    let fit : Fit s = record { a = search rules; b = search rules; c = search rules; d = search rules } in
    let told : length key ≡ 32
    → c.keyed.result ≡ inv_cipher_by inv_mix_table inv_sbox (unmixed_by inv_mix_table sbox (expanded_by sbox (words_of key 8) 52)) s =
    λ e.
    let h = (c.keyed.ensures.told e).1 in
    let run : c.keyed.result ≡ inv_cipher_by inv_mix_table inv_sbox (unmixed_by inv_mix_table sbox h.shown.now) s = search rules in
    run ∙ ap (λ w. inv_cipher_by inv_mix_table inv_sbox (unmixed_by inv_mix_table sbox w) s) h.shows in
    (decoded key (λ i. omega (arith, c.type_inv.key i)) s fit c.keyed.result c.keyed.ensures.other told, c.keyed.ensures.wiped)
