-- Assumes nothing.
use Rattle.rules.specs.Sessions.{lines_of}
use Rattle.drive.specs.Acting.{state, Ready}
use Rattle.drive.proofs.RunningLaws.{Mid}
use Rattle.drive.proofs.running.run.Given as goal

abbrev pub invariant-loop-line : goal.invariant-loop-line
invariant-loop-line l =
    Mid (state l.initial.registers l.initial.keys l.initial.marks) l.text l.initial.out (state l.registers l.keys l.marks)
    (lines_of l.line-iterator.0.now) l.lines l.bytes l.out
    × Ready l.registers l.keys l.marks
