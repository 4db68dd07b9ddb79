-- `symmetric` meets its contract.
-- Assumes nothing.
use mathlib.Core.Path.{sym, ap, ◌∙◌}
use mathlib.Core.List.{List, []}
use Prim.Native.Nat.{ℕ}
use Rattle.std.specs.Prelude.{Some}
use Rattle.std.specs.Borrow.{Bor}
use Rattle.rules.specs.Ttlv.{Items}
use Rattle.rules.specs.Kmip.{from, key_block, bytes_of, members_of, KeyBlock, KeyMaterial, KeyValue}
use Rattle.kmip.specs.declared.run.Run.{Run}
use Rattle.kmip.specs.Runs.{items_of}
use Rattle.kmip.proofs.RowLaws.{structure_missed, structure_alone, structure_gives}
use Rattle.kmip.proofs.keys.symmetric.Goals as goal

pub returns-in_err-block : goal.returns-in_err-block
returns-in_err-block c = rw c.from_residual.ensures (structure_missed KeyBlock key_block (items_of c.args.run) c.in_err-block.ensures [])

pub returns-in_err-key : goal.returns-in_err-key
returns-in_err-key c =
    rw c.from_residual-in_err-key.ensures
    (sym (structure_alone KeyBlock key_block (items_of c.args.run) _ _ c.in_ok-block.ensures) ∙ c.in_err-key.ensures)

abbrev shown : Run × Bor (List ℕ) → Items × List ℕ
shown p = (items_of p.0, p.1.now)

abbrev of : Items → Items × List ℕ
of block = (block, bytes_of (from KeyMaterial (members_of (from KeyValue block))))

pub returns : goal.returns
returns c =
    let told = c.in_ok-key.ensures in
    structure_gives KeyBlock key_block (items_of c.args.run) shown of _ _ c.in_ok-block.ensures (Some (c.in_ok-block.block, c.in_ok-key.key))
    (told.0, ap (λ (k : List ℕ). (items_of c.in_ok-block.block, k)) told.1)
