-- `aes::columns::Tables::round` meets its contract: column by column.
-- Assumes nothing.
use mathlib.Core.Path.{◌≡◌, ◌∙◌}
use Rattle.std.proofs.Common.{rules}
use Rattle.aes.specs.ByTables.{added, column_of}
use Rattle.aes.proofs.columns.Tables.round.Goals as goal

pub returns : goal.returns
returns c =
    let s = c.args.s in
    let t = c.args.self.now.mix.now in
    let x = c.by_diagonals.result in
    let a : x.a ≡ column_of t s.a s.b s.c s.d = search rules in
    let b : x.b ≡ column_of t s.b s.c s.d s.a = search rules in
    let d : x.c ≡ column_of t s.c s.d s.a s.b = search rules in
    let e : x.d ≡ column_of t s.d s.a s.b s.c = search rules in
    c.bitxor.ensures ∙ (λ i. added (record { a = a i; b = b i; c = d i; d = e i }) c.args.key)
