-- `reading::decode` meets its contract: after i turns the first i pairs are decoded, and the largest value tells whether one of their digits
-- is bad.
-- Assumes nothing.
use Rattle.std.proofs.Common.{◌<◌, length, ◌∙◌, refl, arith}
use Rattle.digits.proofs.ReadingLaws.{Watched, paired_start, pair_turn, pair_end, all_pairs, with_lone, watched_all, position_is}
use Rattle.digits.proofs.reading.decode.Goals as goal
use Rattle.digits.proofs.reading.decode.Goals.{in-Some-first, in_default}

pub loop-i-init : goal.loop-i-init
loop-i-init c =
    (cc, cc, paired_start c.args.line.now c.args.frame.now _ _ (cc) (cc))

pub loop-i-preserved : goal.loop-i-preserved
loop-i-preserved c =
    let turn = c.in-Some.ensures.steps in
    let n = c.loop-i.invariant in (
      turn.0.0 ∙ n.0,
      n.1,
      (rw (turn.1, turn.2, c.max-worst.ensures, c.max.ensures)
          (pair_turn _ _ n.2 _ _ _ _ turn.0.1.0 (turn.0.1.1 ∙ n.0) c.requires c.value-high.ensures c.value-low.ensures)),
    )

pub returns-then-worst-lt-NO_DIGIT : goal.returns-then-worst-lt-NO_DIGIT
returns-then-worst-lt-NO_DIGIT c =
    let n = c.loop-i.invariant in
    let done : length c.loop-i.i-iterator.iter.rest.now < 2 = omega (arith, c.in-None.ensures.steps.0.1.0) in
    let line = c.args.line.now in
    let seen : Watched line (length line) c.match-first.worst =
    elim c.match-first.branch [
      | in-Some-first w ↦
          rw (w.worst-is, w.max-worst-in-Some-first.ensures)
          (with_lone line _ n.2 done _ n.1 _ _ w.in-Some-first.ensures.value w.value.ensures)
      | in_default w ↦ rw w.worst-is (all_pairs line _ n.2 done _ n.1 w.in_default.ensures.value)
    ] in
    (watched_all line _ _ seen refl (omega arith), pair_end _ _ n.2 done)

pub returns : goal.returns
returns c =
    let n = c.loop-i.invariant in
    let done : length c.loop-i.i-iterator.iter.rest.now < 2 = omega (arith, c.in-None.ensures.steps.0.1.0) in
    (c.first_bad.ensures ∙ position_is c.args.line.now, pair_end _ _ n.2 done)
