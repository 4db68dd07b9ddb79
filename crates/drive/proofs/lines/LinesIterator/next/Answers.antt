-- `next` meets its contract: the text up to its first line feed, or all of it.
-- Assumes nothing.
use Rattle.std.proofs.Common.{◌≡◌, ◌<◌, ℕ, Bool, false, eqb, ◌+◌, ◌∙◌, ap, arith, eqb-true, ◌∷◌, take, length, sym}
use borrow.Author.Tests.{eqb-false}
use Rattle.cells.proofs.CellsLaws.{lent_rest}
use Rattle.rules.specs.Sessions.{lines_of}
use Rattle.drive.proofs.LinesLaws.{no_lines, line_found, last_found}
use Rattle.drive.proofs.lines.LinesIterator.next.Goals as goal

some_bytes : {n : ℕ} {b : Bool} → b ≡ eqb n 0 → b ≡ false → 0 < n
some_bytes {n} e f = let some = eqb-false n 0 (sym e ∙ f) in omega arith

pub returns-then-is_empty-clause-steps : goal.returns-then-is_empty-clause-steps
returns-then-is_empty-clause-steps c =
    let none = no_lines c.args.self.now.0.now (eqb-true _ _ (sym c.is_empty.ensures ∙ c.if-is_empty.true)) in
    (none, none)

pub returns-in-Some-clause-steps : goal.returns-in-Some-clause-steps
returns-in-Some-clause-steps c =
    let text = c.args.self.now.0.now in
    line_found text c.in-Some.end c.in-Some.ensures
    ∙ ap (λ rest. take c.in-Some.end text ∷ lines_of rest) (sym (lent_rest (c.in-Some.end + 1) text))

pub returns-in-Some-clause-goes : goal.returns-in-Some-clause-goes
returns-in-Some-clause-goes c =
    let text = c.args.self.now.0.now in
    let some = ap length (line_found text c.in-Some.end c.in-Some.ensures) in
    let rest = ap (λ rest. length (lines_of rest)) (lent_rest (c.in-Some.end + 1) text) in
    record { on = λ finite. (tt, tt, omega arith); keeps = tt; rests = λ finite. tt }

pub returns-in-None-clause-steps : goal.returns-in-None-clause-steps
returns-in-None-clause-steps c =
    let text = c.args.self.now.0.now in
    last_found text (some_bytes c.is_empty.ensures c.if-is_empty.false) c.in-None.ensures
    ∙ ap (λ rest. text ∷ lines_of rest) (sym (lent_rest (length text) text))

pub returns-in-None-clause-goes : goal.returns-in-None-clause-goes
returns-in-None-clause-goes c =
    let text = c.args.self.now.0.now in
    let last = ap length (last_found text (some_bytes c.is_empty.ensures c.if-is_empty.false) c.in-None.ensures) in
    let rest = ap (λ rest. length (lines_of rest)) (lent_rest (length text) text) in
    record { on = λ finite. (tt, tt, omega arith); keeps = tt; rests = λ finite. tt }
