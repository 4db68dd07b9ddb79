-- Assumes nothing.
use Rattle.std.proofs.Common.{◌≡◌, ◌-◌, ◌%◌, length, drop}
use Rattle.digits.proofs.ReadingLaws.{Paired}
use Rattle.digits.proofs.reading.decode.Given as goal

abbrev pub invariant-loop-i : goal.invariant-loop-i
invariant-loop-i l = (l.i-iterator.iter.size ≡ 2) × (l.lone ≡ drop (length l.line - length l.line % 2) l.line)
    × Paired l.line l.initial.frame l.frame l.i-iterator.iter.rest.now l.i-iterator.count l.worst
