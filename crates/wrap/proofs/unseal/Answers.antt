-- `wrap::unseal` meets its contract: where both sizes are right, the steps back, then the value is looked at.
-- Assumes nothing.
use mathlib.Core.Path.{ap, ◌∙◌}
use native.Mathlib.Omega.{arith}
use Rattle.std.proofs.Common.{rules}
use Rattle.fips197.specs.Boxes.{inv_sbox}
use Rattle.rules.specs.AesPromises.{Bytes}
use Rattle.aes.specs.Tables.{inv_mix_table}
use Rattle.aes.specs.ByTables.{inv_cipher_by}
use Rattle.wrap.specs.Steps.{unwrap_steps_by}
use Rattle.wrap.proofs.WrappingLaws.{not_opened, opened}
use Rattle.wrap.proofs.unseal.Goals as goal

pub returns-then-kek-ne-KEK_SIZE : goal.returns-then-kek-ne-KEK_SIZE
returns-then-kek-ne-KEK_SIZE c = not_opened c.args.kek.now c.args.bytes.now (λ k b. c.if-kek-ne-KEK_SIZE.true k)

pub returns-in_default : goal.returns-in_default
returns-in_default c = not_opened c.args.kek.now c.args.bytes.now (λ k b. c.in_default.ensures.cases b)

pub returns : goal.returns
returns c =
    let kek = c.args.kek.now in
    let s = c.args.bytes.now in
    let u = c.unmix.new.w in
    let whole = c.in-Some.ensures.cases in
    let hk : Bytes 32 kek = record { long = c.if-kek-ne-KEK_SIZE.false; small = λ i. omega (arith, c.type_inv.kek i) } in
    let hs : Bytes 40 s = record { long = whole.long; small = λ i. search rules } in
    let back = c.unwrap_all.ensures ∙ ap (unwrap_steps_by (inv_cipher_by inv_mix_table inv_sbox u) 24) whole.same in
    c.checked.ensures ∙ opened kek s hk hs c.args.w.now c.expand.new.w c.expand.ensures u c.unwrap_all.new.bytes c.unmix.ensures back
