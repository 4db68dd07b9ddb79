-- What was written stands in the output.
use Rattle.std.proofs.Common.{◌≡◌, ◌≤◌, List, length, sym, ℕ}
use Rattle.std.proofs.lemmas.List.{length-take-le}
use Rattle.rules.specs.Answer.{Answer}
use Rattle.digits.specs.Digits.{Wrote, wrote}
use Rattle.digits.proofs.WritingLaws.{wrote_fits}
use Rattle.tuffaleen.proofs.print_refusal.Goals as goal

fits : (x : Wrote) (a : Answer) (out : List ℕ) → x ≡ wrote a out → x.bytes ≤ length x.out
fits x a out e = rw e (wrote_fits a out)

pub slice_bounds-out-end : goal.slice_bounds-out-end
slice_bounds-out-end c = fits _ _ _ c.write_answer-bytes.ensures

pub slice_bounds-print-end : goal.slice_bounds-print-end
slice_bounds-print-end c = sym (length-take-le _ _ (fits _ _ _ c.write_answer-bytes.ensures))
