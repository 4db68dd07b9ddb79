-- `number` meets its contract.
-- Assumes nothing.
use mathlib.Core.Path.{sym, ap, ◌∙◌}
use lib.ListN.{length}
use Rattle.rules.specs.Fields.{big_endian}
use Rattle.rules.specs.Ttlv.{is_value, value}
use Rattle.kmip.specs.Runs.{items_of}
use Rattle.kmip.proofs.RunLaws.{value_typed}
use Rattle.kmip.proofs.NumberLaws.{ok_told, not_ok, four_long, of_four}
use Rattle.kmip.proofs.rows.number.Goals as goal

pub returns-in_err-bytes : goal.returns-in_err-bytes
returns-in_err-bytes c = rw (c.from_residual.ensures, ← c.code.ensures) c.in_err-bytes.ensures

pub returns-in_err-bytes-2 : goal.returns-in_err-bytes-2
returns-in_err-bytes-2 c =
    let bytes = c.in_ok-bytes.bytes.now in
    let fits = value_typed c.args.run.bytes.now c.args.run.sound c.args.tag _ bytes _ c.in_ok-bytes.ensures in
    let l = four_long c.args.kind (length bytes) (ap (λ k. is_value k (length bytes)) (sym c.code.ensures) ∙ fits) in
    absurd (not_ok c.try_from.result (c.try_from.ensures.0 l) c.in_err-bytes-2.ensures.value)

pub returns : goal.returns
returns c =
    let bytes = c.in_ok-bytes.bytes.now in
    let chunk = ok_told _ _ c.try_from.result c.in_ok-bytes-2.bytes c.try_from.ensures.1 c.in_ok-bytes-2.ensures.value in (
      bytes,
      c.in_ok-bytes.ensures ∙ ap (λ k. value c.args.tag k bytes (items_of c.in_ok-bytes.behind)) c.code.ensures,
      c.from_be_bytes.ensures ∙ of_four c.in_ok-bytes-2.bytes (ap length chunk.same ∙ chunk.long) ∙ ap big_endian chunk.same,
    )
