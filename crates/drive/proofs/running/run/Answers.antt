-- `run` meets its contract: after each line what is left completes the whole, and the state stays sound.
-- Assumes nothing.
use Rattle.std.proofs.Common.{subst, arith}
use Rattle.rules.specs.State.{State}
use Rattle.drive.specs.Acting.{state}
use Rattle.drive.proofs.RunningLaws.{Mid, few, room_more, fits, mid_more, mid_end, wrote_bytes, wrote_back, ready_next}
use Rattle.drive.proofs.running.run.Goals as goal

pub overflow_add-bytes : goal.overflow_add-bytes
overflow_add-bytes c =
    let a = c.args in
    let i = c.loop-line in
    let first : State = state a.registers a.keys.now a.marks.now in
    let here : State = state i.registers i.keys i.marks in
    let m = subst (λ left. Mid first a.text.now a.out.now here left i.lines i.bytes i.out) c.in-Some.ensures.steps i.invariant.0 in
    let room = room_more first a.text.now a.out.now here _ _ i.lines i.bytes i.out m in
    let size = wrote_bytes here _ i.out _ _ c.on_line-answer.ensures.0 i.bytes _ room c.write_answer-bytes.ensures in
    let fit = fits first a.text.now a.out.now here _ _ i.lines i.bytes i.out m _ c.on_line-answer.ensures.0 in
    let whole = m.size in
    omega arith

pub overflow_add-lines : goal.overflow_add-lines
overflow_add-lines c =
    let a = c.args in
    let i = c.loop-line in
    let first : State = state a.registers a.keys.now a.marks.now in
    let here : State = state i.registers i.keys i.marks in
    let m = subst (λ left. Mid first a.text.now a.out.now here left i.lines i.bytes i.out) c.in-Some.ensures.steps i.invariant.0 in
    let more = few first a.text.now a.out.now here _ _ i.lines i.bytes i.out m in
    omega arith

pub loop-line-preserved : goal.loop-line-preserved
loop-line-preserved c =
    let a = c.args in
    let i = c.loop-line in
    let first : State = state a.registers a.keys.now a.marks.now in
    let here : State = state i.registers i.keys i.marks in
    let m = subst (λ left. Mid first a.text.now a.out.now here left i.lines i.bytes i.out) c.in-Some.ensures.steps i.invariant.0 in
    let room = room_more first a.text.now a.out.now here _ _ i.lines i.bytes i.out m in
    let size = wrote_bytes here _ i.out _ _ c.on_line-answer.ensures.0 i.bytes _ room c.write_answer-bytes.ensures in
    let back = wrote_back here _ i.out _ _ c.on_line-answer.ensures.0 i.bytes _ room c.write_answer-bytes.ensures in (
      rw (back, size) (mid_more first a.text.now a.out.now here _ _ i.lines i.bytes i.out m _ c.on_line-answer.ensures.0),
      ready_next i.registers i.keys i.marks _ c.on_line-answer.result _ _ _ i.invariant.1 c.on_line-answer.ensures.0,
    )

pub returns : goal.returns
returns c =
    let a = c.args in
    let i = c.loop-line in
    let first : State = state a.registers a.keys.now a.marks.now in
    let here : State = state i.registers i.keys i.marks in
    mid_end first a.text.now a.out.now here i.lines i.bytes i.out
    (subst (λ left. Mid first a.text.now a.out.now here left i.lines i.bytes i.out) c.in-None.ensures.steps.0 i.invariant.0)
