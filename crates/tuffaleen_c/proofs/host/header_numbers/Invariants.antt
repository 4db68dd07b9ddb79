-- Assumes nothing.
use Rattle.std.proofs.Common.{◌≡◌, ◌+◌, ◌++◌, take, drop}
use Rattle.tuffaleen_c.specs.Host.{header_numbers}
use Rattle.tuffaleen_c.proofs.host.header_numbers.Given as goal

abbrev pub invariant-loop-i : goal.invariant-loop-i
invariant-loop-i l = l.numbers ≡ take (1 + l.i) (header_numbers l.fn.h) ++ drop (1 + l.i) l.initial.numbers
