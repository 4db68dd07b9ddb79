-- What the session wrote stands in the output.
use Rattle.std.proofs.Common.{◌≡◌, ◌≤◌, List, length, sym, ℕ}
use Rattle.std.proofs.lemmas.List.{length-take-le}
use Rattle.rules.specs.State.{State}
use Rattle.rules.specs.Sessions.{Session, session}
use Rattle.rules.proofs.CallLaws.{session_fits}
use Rattle.tuffaleen.proofs.main.Goals as goal

fits : (x : Session) (s : State) (text out : List ℕ) → x ≡ session s text out → x.bytes ≤ length x.out
fits x s text out e = rw e (session_fits s text out)

pub slice_bounds-out-end : goal.slice_bounds-out-end
slice_bounds-out-end c = fits _ _ _ _ c.answer_session-ran.ensures

pub slice_bounds-print-end : goal.slice_bounds-print-end
slice_bounds-print-end c = sym (length-take-le _ _ (fits _ _ _ _ c.answer_session-ran.ensures))
