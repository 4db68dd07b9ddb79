-- Assumes nothing.
use Rattle.std.proofs.Common.{◌≡◌, ◌*◌, ◌++◌, take, drop}
use Rattle.rules.specs.Answers.{digits_of}
use Rattle.digits.proofs.writing.put_digits.Given as goal

abbrev pub invariant-loop-i : goal.invariant-loop-i
invariant-loop-i l = l.out ≡ digits_of (take l.i l.bytes) ++ drop (l.i * 2) l.initial.out
