-- `wrap::seal` meets its contract: where both sizes are right, the value, the key, the steps.
-- Assumes nothing.
use mathlib.Core.Path.{ap, ap₂, ◌∙◌}
use mathlib.Core.List.{◌++◌}
use native.Mathlib.Omega.{arith}
use lib.ListN.{drop}
use Rattle.std.proofs.Common.{rules}
use Rattle.fips197.specs.Boxes.{sbox}
use Rattle.rules.specs.AesPromises.{Bytes}
use Rattle.rules.specs.KeyWrap.{initial_value}
use Rattle.aes.specs.Tables.{mix_table}
use Rattle.aes.specs.ByTables.{cipher_by}
use Rattle.wrap.specs.Steps.{wrap_steps_by}
use Rattle.wrap.proofs.WrappingLaws.{not_wrapped, wrapped}
use Rattle.wrap.proofs.seal.Goals as goal

pub returns-then-kek-ne-KEK_SIZE : goal.returns-then-kek-ne-KEK_SIZE
returns-then-kek-ne-KEK_SIZE c = not_wrapped c.args.kek.now c.args.bytes.now (λ k b. c.if-kek-ne-KEK_SIZE.true k)

pub returns-in_default : goal.returns-in_default
returns-in_default c = not_wrapped c.args.kek.now c.args.bytes.now (λ k b. c.in_default.ensures.cases b)

pub returns-in-Some : goal.returns-in-Some
unfolding initial_value
returns-in-Some c =
    let kek = c.args.kek.now in
    let s = c.args.bytes.now in
    let whole = c.in-Some.ensures.cases in
    let hk : Bytes 32 kek = record { long = c.if-kek-ne-KEK_SIZE.false; small = λ i. omega (arith, c.type_inv.kek i) } in
    let hs : Bytes 40 s = record { long = whole.long; small = λ i. search rules } in
    let front = ap₂ (λ v l. v ++ drop 8 l) (c.copy_from_slice.ensures.after ∙ c.to_be_bytes.ensures) whole.same in
    c.wrap_all.ensures ∙ ap (wrap_steps_by (cipher_by mix_table sbox c.expand.new.w) 24) front
    ∙ wrapped kek s hk hs c.args.w.now c.expand.new.w c.expand.ensures
