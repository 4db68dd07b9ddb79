-- `answer_line` meets its contract: the call is refused, or its line is answered.
-- Assumes nothing.
use Rattle.std.proofs.Common.{◌≡◌, length, ltb, ap, sym, ◌∙◌, rules}
use Rattle.rules.specs.Numbers.{namespaces}
use Rattle.rules.specs.State.{State}
use Rattle.rules.specs.Call.{room_for, unanswered, answered, call}
use Rattle.drive.specs.Acting.{state}
use Rattle.drive.proofs.AdmitLaws.{shut, let_in, has_room, ready}
use Rattle.drive.proofs.answer_line.Goals as goal

pub on_ready-requires : goal.on_ready-requires
on_ready-requires c =
    let counted : length c.args.registers.counts ≡ namespaces = search rules in
    let a = c.args in
    let e = sym c.in-Ok.is ∙ c.admit.ensures in (
      ready a.registers a.keys.now a.marks.now _ a.out.now _ (ap (ltb (length a.out.now)) c.room_for.ensures) e counted,
      has_room a.registers a.keys.now a.marks.now _ a.out.now _ (ap (ltb (length a.out.now)) c.room_for.ensures) e,
    )

pub returns-in-Err : goal.returns-in-Err
unfolding call unanswered
returns-in-Err c =
    let a = c.args in
    let now : State = state a.registers a.keys.now a.marks.now in
    shut a.registers a.keys.now a.marks.now (room_for a.line.now) a.out.now _ (ap (ltb (length a.out.now)) c.room_for.ensures)
    c.in-Err.refusal (unanswered now a.out.now) (answered now a.line.now a.out.now) (sym c.in-Err.is ∙ c.admit.ensures)

pub returns-in-Ok : goal.returns-in-Ok
unfolding call
returns-in-Ok c =
    let a = c.args in
    let now : State = state a.registers a.keys.now a.marks.now in
    c.on_ready.ensures
    ∙ let_in a.registers a.keys.now a.marks.now (room_for a.line.now) a.out.now _ (ap (ltb (length a.out.now)) c.room_for.ensures)
    (sym c.in-Ok.is ∙ c.admit.ensures)
    (unanswered now a.out.now) (answered now a.line.now a.out.now)
