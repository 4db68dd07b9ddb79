-- `aes::columns::Tables::last` meets its contract: each column by its bytes alone.
-- Assumes nothing.
use mathlib.Core.Path.{◌≡◌, ◌∙◌}
use Rattle.std.proofs.Common.{rules}
use Rattle.aes.specs.ByTables.{added, substituted_of}
use Rattle.aes.proofs.columns.Tables.last.Goals as goal

pub returns : goal.returns
returns c =
    let s = c.args.s in
    let t = c.args.self.now.sub.now in
    let x = c.by_diagonals.result in
    let a : x.a ≡ substituted_of t s.a s.b s.c s.d = search rules in
    let b : x.b ≡ substituted_of t s.b s.c s.d s.a = search rules in
    let d : x.c ≡ substituted_of t s.c s.d s.a s.b = search rules in
    let e : x.d ≡ substituted_of t s.d s.a s.b s.c = search rules in
    c.bitxor.ensures ∙ (λ i. added (record { a = a i; b = b i; c = d i; d = e i }) c.args.key)
