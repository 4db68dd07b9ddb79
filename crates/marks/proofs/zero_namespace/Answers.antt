-- `zero_namespace` meets its contract: one fill zeroes a run of marks.
-- Assumes nothing.
use native.Mathlib.Omega.{arith}
use mathlib.Core.Path.{◌≡◌, ap, ◌∙◌}
use Prim.Native.Nat.{◌-◌, ◌*◌, ◌≤◌}
use lib.ListN.{length}
use borrow.Author.Tests.{eq-eqb, le-ltb}
use Rattle.std.proofs.lemmas.Bool.Decides.{nat_tests}
use Rattle.cells.specs.Cells.{fill}
use Rattle.cells.proofs.CellsLaws.{zero_cells}
use Rattle.rules.specs.Numbers.{namespaces, blocks_each, mark_width, store_size}
use Rattle.rules.specs.Marks.{block_of, never_written}
use Rattle.marks.specs.Store.{zeroed}
use Rattle.marks.proofs.zero_namespace.Goals as goal

pub returns-then-contains : goal.returns-then-contains
unfolding zeroed
returns-then-contains c =
    let s = c.args in
    let size : length s.marks.now ≡ store_size = omega arith in
    let lo : 1 ≤ s.ns.0 = grind (arith, nat_tests) in
    let hi : s.ns.0 ≤ namespaces = grind (arith, nat_tests) in
    let i = (s.ns.0 - 1) * blocks_each in
    let at : i ≡ block_of s.ns 0 = omega arith in
    c.zero_part.ensures
    ∙ zero_cells mark_width i blocks_each s.marks.now (omega arith)
    ∙ ap (λ k. fill mark_width k blocks_each never_written s.marks.now) at
    ∙ (rw (eq-eqb (length s.marks.now) store_size size, le-ltb s.ns.0 1 lo, le-ltb namespaces s.ns.0 hi))

pub returns-else-marks-eq-STORE_SIZE : goal.returns-else-marks-eq-STORE_SIZE
unfolding zeroed
returns-else-marks-eq-STORE_SIZE c = grind (arith, nat_tests)
