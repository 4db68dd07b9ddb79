-- `front_of` meets its contract: each way out is a case of the front.
-- Assumes nothing.
use mathlib.Core.Path.{◌≡◌, sym, ap, ◌∙◌}
use Rattle.rules.specs.Ttlv.{Structure, is_value}
use Rattle.ttlv.proofs.FrontLaws.{to_eight_is, head_read, short_none, structure_read, unvalued_read, past_read, unclean_read, value_read}
use Rattle.ttlv.proofs.reading.front_of.Goals as goal
use Rattle.ttlv.proofs.reading.front_of.Goals.{then-not-is_value-via-then-not-is_value, then-not-is_value-via-else-not-is_value+then-not-all_zero}

pub returns-in_err-head : goal.returns-in_err-head
returns-in_err-head c = rw c.from_residual.ensures (short_none c.args.at c.args.run.now c.in_err-head.ensures.cases)

pub returns-then-from-eq-STRUCTURE : goal.returns-then-from-eq-STRUCTURE
returns-then-from-eq-STRUCTURE c =
    let r = head_read _ _ _ c.from-tag.result c.from-tag.ensures c.in_ok-head.ensures.cases in
    c.then_some.ensures ∙ structure_read r c.args.at (sym c.from.ensures ∙ c.if-from-eq-STRUCTURE.true)

pub returns-in_err-padding : goal.returns-in_err-padding
returns-in_err-padding c =
    let r = head_read _ _ _ c.from-tag.result c.from-tag.ensures c.in_ok-head.ensures.cases in
    let e : c.from-tag.result.kind ≡ Structure → ⊥ = λ q. c.if-from-eq-STRUCTURE.false (c.from.ensures ∙ q) in
    let m = c.next_multiple_of-whole.ensures in
    let whole = to_eight_is _ _ m.lower_bound m.upper_bound m.multiple in
    rw c.from_residual-in_err-padding.ensures (past_read r c.args.at e _ whole c.in_err-padding.ensures.lookup.0)

pub returns-then-not-is_value : goal.returns-then-not-is_value
returns-then-not-is_value c =
    let r = head_read _ _ _ c.from-tag.result c.from-tag.ensures c.in_ok-head.ensures.cases in
    let e : c.from-tag.result.kind ≡ Structure → ⊥ = λ q. c.if-from-eq-STRUCTURE.false (c.from.ensures ∙ q) in
    let m = c.next_multiple_of-whole.ensures in
    let whole = to_eight_is _ _ m.lower_bound m.upper_bound m.multiple in
    let value = ap (λ k. is_value k c.from-tag.result.length) (sym c.from-2.ensures) ∙ sym c.is_value.ensures in
    elim c.then-not-is_value.branch [
      | then-not-is_value-via-then-not-is_value w ↦ unvalued_read r c.args.at e (value ∙ w.if-not-is_value.true)
      | then-not-is_value-via-else-not-is_value+then-not-all_zero w ↦
          unclean_read r c.args.at e _ whole _ c.in_ok-padding.ensures.lookup.0.2 (sym w.all_zero.ensures ∙ w.if-not-all_zero.true)
    ]

pub returns : goal.returns
returns c =
    let r = head_read _ _ _ c.from-tag.result c.from-tag.ensures c.in_ok-head.ensures.cases in
    let e : c.from-tag.result.kind ≡ Structure → ⊥ = λ q. c.if-from-eq-STRUCTURE.false (c.from.ensures ∙ q) in
    let m = c.next_multiple_of-whole.ensures in
    let whole = to_eight_is _ _ m.lower_bound m.upper_bound m.multiple in
    let got = c.in_ok-padding.ensures.lookup.0 in
    let value = ap (λ k. is_value k c.from-tag.result.length) (sym c.from-2.ensures) ∙ sym c.is_value.ensures ∙ c.if-not-is_value.false in
    value_read r c.args.at e _ whole _ got.2 value got.1 (sym c.all_zero.ensures ∙ c.if-not-all_zero.false)
