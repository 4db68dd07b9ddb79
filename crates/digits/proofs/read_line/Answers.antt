-- `digits::read_line` meets its contract: each way out computes the list of checks by the tests that led there.
-- Assumes nothing.
use Rattle.std.proofs.Common.{arith}
use Rattle.std.proofs.lemmas.Grind.{common_steps}
use Rattle.rules.specs.FrameLine.{line_checks, read_line}
use Rattle.digits.specs.Digits.{read_into}
use Rattle.digits.proofs.ReadingLaws.{bad_digits}
use Rattle.digits.proofs.read_line.Goals as goal

pub returns-then-n-eq0 : goal.returns-then-n-eq0
unfolding read_into read_line line_checks
returns-then-n-eq0 c = grind (arith, common_steps)

pub returns-then-n-gt-DIGITS_MOST : goal.returns-then-n-gt-DIGITS_MOST
unfolding read_into read_line line_checks
returns-then-n-gt-DIGITS_MOST c = grind (arith, common_steps)

pub returns-in-Some : goal.returns-in-Some
unfolding read_into read_line line_checks
returns-in-Some c = grind (arith, common_steps, bad_digits)

pub returns-then-n-eq1 : goal.returns-then-n-eq1
unfolding read_into read_line line_checks
returns-then-n-eq1 c = grind (arith, common_steps, bad_digits)

pub returns : goal.returns
unfolding read_into read_line line_checks
returns c = grind (arith, common_steps, bad_digits)
