-- `by_line` meets its contract: a line of n bytes leaves its frame in the first n.
-- Assumes nothing.
use Rattle.std.proofs.Common.{◌∙◌, ap, refl, Err, arith}
use Rattle.std.proofs.lemmas.Result.{err_from_is_err_and}
use Rattle.frames.proofs.LineLaws.{not_a_line, fits, read_as_lem}
use Rattle.frames.proofs.by_line.Goals as goal

pub returns-in_err-n : goal.returns-in_err-n
returns-in_err-n c =
    let p = err_from_is_err_and _ c.from_residual.ensures.1 in
    ap (λ r. record { read = r; frame = c.read_line.new.frame }) (p.1 ∙ ap Err p.2)
    ∙ not_a_line c.args.line.now _ _ c.in_err-n.ensures _ refl

pub front-requires : goal.front-requires
front-requires c =
    let h = fits c.args.line.now _ _ c.in_ok-n.ensures _ refl in
    (h.0, omega (arith, h.1))

pub returns : goal.returns
returns c =
    read_as_lem c.args.line.now _ _ c.in_ok-n.ensures _ refl _ c.front.ensures
