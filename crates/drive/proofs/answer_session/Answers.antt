-- `answer_session` meets its contract: the call is refused, or its lines are answered.
-- Assumes nothing.
use Rattle.std.proofs.Common.{◌≡◌, length, sym, ◌∙◌, rules}
use Rattle.rules.specs.Numbers.{namespaces}
use Rattle.rules.specs.State.{State}
use Rattle.rules.specs.Sessions.{no_session, all_answered, session}
use Rattle.drive.specs.Acting.{state}
use Rattle.drive.proofs.AdmitLaws.{shut, let_in, has_room, ready}
use Rattle.drive.proofs.answer_session.Goals as goal

pub run-requires : goal.run-requires
run-requires c =
    let counted : length c.args.registers.counts ≡ namespaces = search rules in
    let a = c.args in
    let e = sym c.in-Ok.is ∙ c.admit.ensures in (
      ready a.registers a.keys.now a.marks.now _ a.out.now _ c.need_more_than-short.ensures e counted,
      has_room a.registers a.keys.now a.marks.now _ a.out.now _ c.need_more_than-short.ensures e,
    )

pub returns-in-Err : goal.returns-in-Err
unfolding session no_session
returns-in-Err c =
    let a = c.args in
    let now : State = state a.registers a.keys.now a.marks.now in
    shut a.registers a.keys.now a.marks.now _ a.out.now _ c.need_more_than-short.ensures
    c.in-Err.refusal (no_session now a.out.now) (all_answered now a.text.now a.out.now) (sym c.in-Err.is ∙ c.admit.ensures)

pub returns-in-Ok : goal.returns-in-Ok
unfolding session
returns-in-Ok c =
    let a = c.args in
    let now : State = state a.registers a.keys.now a.marks.now in
    c.run.ensures
    ∙ let_in a.registers a.keys.now a.marks.now _ a.out.now _ c.need_more_than-short.ensures (sym c.in-Ok.is ∙ c.admit.ensures)
    (no_session now a.out.now) (all_answered now a.text.now a.out.now)
