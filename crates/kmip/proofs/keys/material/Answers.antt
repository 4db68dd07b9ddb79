-- `material` meets its contract.
-- Assumes nothing.
use mathlib.Core.Path.{sym, ap}
use mathlib.Core.List.{[]}
use lib.ListN.{length}
use lib.Dec.{eqb}
use Rattle.rules.specs.Numbers.{key_size}
use Rattle.rules.specs.Ttlv.{ByteString}
use Rattle.rules.specs.Kmip.{bytes_of, KeyMaterial}
use Rattle.kmip.specs.Runs.{items_of}
use Rattle.kmip.proofs.NumberLaws.{chunk_given}
use Rattle.kmip.proofs.RowLaws.{value_missed, value_alone, gives_as}
use Rattle.kmip.proofs.keys.material.Goals as goal

pub returns-in_err-key : goal.returns-in_err-key
returns-in_err-key c =
    rw c.from_residual.ensures
    (value_missed KeyMaterial ByteString (λ key. eqb (length key) key_size) (items_of c.args.run) c.in_err-key.ensures [])

pub returns : goal.returns
returns c =
    let is = c.in_ok-key.ensures in
    rw c.ok.ensures.value
    (gives_as (λ key. key.now) _ (value_alone KeyMaterial ByteString (λ key. eqb (length key) key_size) (items_of c.args.run) _ _ is)
    (ap bytes_of (sym is)) (chunk_given key_size c.in_ok-key.key.now c.try_into.result c.try_into.ensures.1))
