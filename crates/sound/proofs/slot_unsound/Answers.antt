-- `slot_unsound` meets its contract: each return is one way through the test.
-- Assumes nothing.
use native.Mathlib.Omega.{arith}
use mathlib.Core.Path.{◌≡◌, sym, ap, ◌∙◌}
use mathlib.Core.Bool.{false, not}
use Prim.Native.Nat.{◌+◌, ◌-◌}
use lib.ListN.{take, drop}
use borrow.Author.Tests.{eq-eqb, ne_eqb, lt-ltb}
use Rattle.cells.specs.Cells.{part}
use Rattle.cells.specs.Predicates.{all_zero}
use Rattle.rules.specs.Numbers.{uid_most}
use Rattle.rules.specs.Slots.{uid_length}
use Rattle.rules.proofs.SoundLaws.{empty_is, long_is, rest_is}
use Rattle.sound.proofs.slot_unsound.Goals as goal

pub returns-then-n-eq0 : goal.returns-then-n-eq0
returns-then-n-eq0 c =
    ap not c.all_zero.ensures ∙ empty_is c.args.slot.now false (eq-eqb (uid_length c.args.slot.now) 0 (sym c.from-n.ensures ∙ c.if-n-eq0.true))

pub returns-then-n-gt-UID_MOST : goal.returns-then-n-gt-UID_MOST
returns-then-n-gt-UID_MOST c =
    let n = c.from-n.ensures in
    lt-ltb uid_most c.from-n.result c.if-n-gt-UID_MOST.true
    ∙ long_is c.args.slot.now false (ne_eqb (uid_length c.args.slot.now) 0 (λ z. c.if-n-eq0.false (n ∙ z))) (omega arith)

pub returns-else-n-gt-UID_MOST : goal.returns-else-n-gt-UID_MOST
unfolding part
returns-else-n-gt-UID_MOST c =
    let n = c.from-n.ensures in
    let width : uid_most + 1 - (1 + c.from-n.result) ≡ uid_most - c.from-n.result = omega arith in
    let h = c.all_zero-else-n-gt-UID_MOST.ensures in
    ap not (h
    ∙ ap (λ k. all_zero (take k (drop (1 + c.from-n.result) c.args.slot.now))) width
    ∙ ap (λ k. all_zero (take (uid_most - k) (drop (1 + k) c.args.slot.now))) n)
    ∙ rest_is c.args.slot.now (ne_eqb (uid_length c.args.slot.now) 0 (λ z. c.if-n-eq0.false (n ∙ z))) (omega arith)
