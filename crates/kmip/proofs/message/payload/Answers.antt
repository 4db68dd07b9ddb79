-- `payload` meets its contract.
-- Assumes nothing.
use mathlib.Core.Path.{◌≡◌, ap, ◌∙◌}
use mathlib.Core.List.{List}
use Prim.Native.Nat.{ℕ}
use Rattle.rules.specs.Slots.{Contents}
use Rattle.rules.specs.Ttlv.{Items}
use Rattle.rules.specs.Kmip.{aes256, payload_good}
use Rattle.kmip.specs.Reading.{shown}
use Rattle.kmip.specs.Runs.{items_of}
use Rattle.kmip.proofs.RowLaws.{given_by}
use Rattle.kmip.proofs.MessageLaws.{no_uid, no_object, no_attributes, bad_attributes, no_key, bad_key, payload_is, brought_is}
use Rattle.kmip.proofs.message.payload.Goals as goal

pub returns-in_err-uid : goal.returns-in_err-uid
returns-in_err-uid c =
    let s = c.args.slot in
    rw c.from_residual.ensures (no_uid s.namespace s.tag (items_of c.args.run) c.in_err-uid.ensures)

pub returns-in_err-rest : goal.returns-in_err-rest
returns-in_err-rest c =
    let s = c.args.slot in
    rw c.from_residual-in_err-rest.ensures (no_object s.namespace s.tag (items_of c.args.run) _ _ c.in_ok-uid.ensures c.in_err-rest.ensures)

pub returns-in_err-members : goal.returns-in_err-members
returns-in_err-members c =
    let s = c.args.slot in
    rw c.from_residual-in_err-members.ensures
    (no_attributes s.namespace s.tag (items_of c.args.run) _ _ c.in_ok-uid.ensures _ c.in_ok-rest.ensures c.in_err-members.ensures)

pub returns-in_err-parameters : goal.returns-in_err-parameters
returns-in_err-parameters c =
    let s = c.args.slot in
    rw c.from_residual-in_err-parameters.ensures
    (bad_attributes s.namespace s.tag (items_of c.args.run) _ _ c.in_ok-uid.ensures _ c.in_ok-rest.ensures _ _ c.in_ok-members.ensures
    c.in_err-parameters.ensures)

pub returns-in_err-members-2 : goal.returns-in_err-members-2
returns-in_err-members-2 c =
    let s = c.args.slot in
    rw c.from_residual-in_err-members-2.ensures
    (no_key s.namespace s.tag (items_of c.args.run) _ _ c.in_ok-uid.ensures _ c.in_ok-rest.ensures _ _ c.in_ok-members.ensures
    c.in_ok-parameters.ensures.0 c.in_err-members-2.ensures)

pub returns-in_err-block : goal.returns-in_err-block
returns-in_err-block c =
    let s = c.args.slot in
    rw c.from_residual-in_err-block.ensures
    (bad_key s.namespace s.tag (items_of c.args.run) _ _ c.in_ok-uid.ensures _ c.in_ok-rest.ensures _ _ c.in_ok-members.ensures
    c.in_ok-parameters.ensures.0 _ _ c.in_ok-members-2.ensures c.in_err-block.ensures)

pub returns : goal.returns
returns c =
    let s = c.args.slot in
    let items = items_of c.args.run in
    let block = c.in_ok-block.ensures in
    let in_block : items_of c.in_ok-block.block ≡ _ = ap (λ (p : Items × List ℕ). p.0) block.1 in
    let the_key : c.in_ok-block.key.now ≡ _ = ap (λ (p : Items × List ℕ). p.1) block.1 in
    let is = payload_is s.namespace s.tag items _ _ c.in_ok-uid.ensures _ c.in_ok-rest.ensures _ _ c.in_ok-members.ensures
    c.in_ok-parameters.ensures.0 _ _ c.in_ok-members-2.ensures block.0 in
    let brought = brought_is s.namespace s.tag items _ _ c.in_ok-uid.ensures _ c.in_ok-rest.ensures _ _ c.in_ok-members.ensures
    c.in_ok-parameters.ensures.0 _ _ c.in_ok-members-2.ensures block.0 in
    rw c.then_some.ensures
    (given_by shown (record { uid = c.in_ok-uid.uid; key = c.in_ok-block.key }) (payload_good s.namespace s.tag items) c.aes.result
    (c.aes.ensures ∙ ap (λ i. aes256 i (items_of c.in_ok-block.block)) c.in_ok-parameters.ensures.1 ∙ ap (aes256 _) in_block ∙ is)
    (ap (λ (k : List ℕ). (let x : Contents = record { uid = c.in_ok-uid.uid.now; key = k } in x)) the_key ∙ brought))
