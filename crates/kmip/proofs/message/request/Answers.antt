-- `request` meets its contract.
-- Assumes nothing.
use mathlib.Core.Path.{◌≡◌, ap, ◌∙◌}
use native.Mathlib.Omega.{arith}
use mathlib.Core.Bool.{not}
use Rattle.rules.specs.Ttlv.{end}
use Rattle.kmip.specs.Reading.{loaded}
use Rattle.kmip.specs.Runs.{items_of}
use Rattle.kmip.proofs.RequestLaws.{unsound_none, empty_none, other_none, several_none, tag_none, message_loads, some_told}
use Rattle.kmip.proofs.message.request.Goals as goal
use Rattle.kmip.proofs.message.request.Goals.{
  in_default-via-in-Structure+then-item-eq-REQUEST_MESSAGE+else-is_none,
  in_default-via-in-Structure+else-item-eq-REQUEST_MESSAGE,
  in_default-via-in_default,
}

pub returns-in_err-run : goal.returns-in_err-run
returns-in_err-run c =
    let s = c.args.slot in
    ap loaded c.from_residual.ensures ∙ unsound_none s.namespace s.tag c.args.bytes.now c.in_err-run.ensures

pub returns-in_err-item : goal.returns-in_err-item
returns-in_err-item c =
    let s = c.args.slot in
    ap loaded c.from_residual-in_err-item.ensures
    ∙ empty_none s.namespace s.tag c.args.bytes.now c.in_ok-run.run' c.in_ok-run.ensures c.in_err-item.ensures.steps

pub returns-in-Structure : goal.returns-in-Structure
returns-in-Structure c =
    let s = c.args.slot in
    let first = c.in_ok-item.ensures.steps in
    let alone : items_of c.next.new.self ≡ end = grind arith in
    message_loads s.namespace s.tag c.args.bytes.now c.in_ok-run.run' c.in_ok-run.ensures c.in_ok-item.item.tag c.in_ok-item.item.body _ first.is
    c.in-Structure.members c.in-Structure.is alone c.if-item-eq-REQUEST_MESSAGE.true c.message.result c.message.ensures

pub returns-in_default : goal.returns-in_default
returns-in_default c =
    let s = c.args.slot in
    let xs = c.args.bytes.now in
    let run = c.in_ok-run.run' in
    let item = c.in_ok-item.item in
    let first = c.in_ok-item.ensures.steps in
    elim c.in_default.branch [
      | in_default-via-in-Structure+then-item-eq-REQUEST_MESSAGE+else-is_none w ↦
          let next = some_told _ _ _ (w.is_none.ensures ∙ ap not w.if-is_none.false) w.next-then-item-eq-REQUEST_MESSAGE.ensures.steps in
          several_none s.namespace s.tag xs run c.in_ok-run.ensures item.tag item.body _ first.is w.in-Structure.members w.in-Structure.is _ _ _ next.1.is
      | in_default-via-in-Structure+else-item-eq-REQUEST_MESSAGE w ↦
          tag_none s.namespace s.tag xs run c.in_ok-run.ensures item.tag item.body _ first.is w.in-Structure.members w.in-Structure.is
          w.if-item-eq-REQUEST_MESSAGE.false
      | in_default-via-in_default w ↦
          other_none s.namespace s.tag xs run c.in_ok-run.ensures item.tag item.body _ first.is (λ members e. let i = w.in_default.is in cc)
    ]
