-- `command` meets its contract: the opcode, then where the command leads.
-- Assumes nothing.
use Rattle.std.proofs.lemmas.Result.{err_from_is_err_and}
use Rattle.std.proofs.Common.{sym, ap, ◌∙◌, Err}
use Rattle.drive.specs.Acting.{state, after}
use Rattle.drive.proofs.ActingLaws.{passed_on, sound_keys}
use Rattle.drive.proofs.IoLaws.{opens, known_by, unknown_leads, known_leads}
use Rattle.drive.proofs.io.command.Goals as goal

pub returns-in_err-access : goal.returns-in_err-access
returns-in_err-access c =
    let x = c.args in
    let o = opens x.c _ c.in_err-access.ensures in
    ap (λ r. after r x.registers.now x.keys.now x.marks.now) (passed_on (err_from_is_err_and _ c.from_residual.ensures.1) ∙ ap Err o.0)
    ∙ sym (unknown_leads (state x.registers.now x.keys.now x.marks.now) x.c o.1)

pub reach-requires : goal.reach-requires
reach-requires c =
    sym (sound_keys c.args.registers.now c.args.keys.now c.args.marks.now) ∙ c.requires.sound

pub returns-in_err-reach : goal.returns-in_err-reach
returns-in_err-reach c =
    let x = c.args in
    let k = opens x.c _ c.in_ok-access.ensures in
    ap (λ r. after r x.registers.now x.keys.now x.marks.now) (passed_on (err_from_is_err_and _ c.from_residual-in_err-reach.ensures.1))
    ∙ known_leads x.registers.now x.keys.now x.marks.now x.c c.in_ok-access.access (known_by x.c _ k) c.in_err-reach.ensures

pub returns-in-None : goal.returns-in-None
returns-in-None c =
    let x = c.args in
    let k = opens x.c _ c.in_ok-access.ensures in
    known_leads x.registers.now x.keys.now x.marks.now x.c c.in_ok-access.access (known_by x.c _ k) (rw c.in-None.is at c.in_ok-reach.ensures)

pub at_place-requires : goal.at_place-requires
at_place-requires c =
    let k = opens c.args.c _ c.in_ok-access.ensures in
    (c.requires, known_by c.args.c _ k, rw c.in-Some.is at c.in_ok-reach.ensures)
