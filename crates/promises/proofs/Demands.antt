-- The demands of specs/Demands.antt: what the code leaves is what `rules` says,
-- and `rules` keeps them. A history since a start is one from a fresh drive.
-- Assumes nothing.
use Rattle.std.specs.Prelude.{Ok, Err}
use mathlib.Core.Path.{◌≡◌, refl, sym, ap, ◌∙◌}
use mathlib.Core.List.{List, [], ◌∷◌, ◌++◌}
use mathlib.Core.Logic.{⊎_elim}
use Prim.Native.Nat.{ℕ, suc}
use lib.ListN.{length, take}
use lib.Seq.{take_at}
use Rattle.rules.specs.Answer.{Answer}
use Rattle.rules.specs.declared.Granted.TheVariants.{Done}
use Rattle.rules.specs.Checks.{AllPass}
use Rattle.rules.specs.State.{State, Outcome}
use Rattle.rules.specs.Order.{step}
use Rattle.rules.specs.Start.{fresh, start_checks}
use Rattle.rules.specs.Call.{Called, unanswered, answered}
use Rattle.rules.specs.Sessions.{Session, lines_of, end_state, answers_to, answer_lines, all_answered}
use Rattle.rules.specs.History.{Event, told}
use Rattle.rules.specs.Promises.{FromFresh, begin, one_more, Steps, session_checks}
use Rattle.rules.proofs.ChecksLaws.{by_verdict}
use Rattle.rules.proofs.StateLaws.{accepted_not}
use Rattle.rules.proofs.AnswersLaws.{lines_then, split_answers}
use Rattle.rules.proofs.SayableLaws.{sayable_answers}
use Rattle.rules.proofs.CallLaws.{call_unread, call_read, session_ran}
use Rattle.rules.proofs.Promised as rules
use Rattle.rules.proofs.KekLaws as kek-laws
use Rattle.rules.proofs.ToldLaws.{view_as_told, answer_as_told}
use Rattle.promises.specs.Leaves.{StartLeaves, SessionLeaves}
use Rattle.promises.specs.Demands.{Shows, SinceStart, started, unread, no_session, Answers, by_call, in_session, Demands}
use Rattle.promises.specs.Demands as since
use Rattle.promises.specs.SessionDemands.{SessionShows, SessionDemands}
use Rattle.promises.proofs.LeavesLaws.{start_is, call_is, session_is}

-- ------------------------------------------------------------------------
-- A start that is not refused is a fresh drive

fresh_start : (kek keys store : List ℕ) (o : Outcome) → StartLeaves kek keys store o → o.answer ≡ Ok Done → o.state ≡ fresh kek
fresh_start kek keys store o l e =
    ⊎_elim
    (λ f. absurd (accepted_not (Ok Done) f.0 refl (sym e ∙ (rules.start_refused_when kek keys store o (start_is kek keys store o l) f.0).1 f.1.0)))
    (λ p. ap (λ (x : Outcome). x.state) (rules.starts_fresh kek keys store o (start_is kek keys store o l) p.0).0)
    (by_verdict (start_checks keys store) Err (Ok Done))

-- ------------------------------------------------------------------------
-- A session that ran: the answers that its output shows are those to its lines

more : (h : List Event) (s : State) (lines : List (List ℕ)) → FromFresh h s → FromFresh (told lines (answers_to s lines) h) (end_state s lines)
unfolding told answers_to end_state
more h s [] f = f
more h s (line ∷ lines) f =
    more (record { line = line; answer = (step s line).answer } ∷ h) (step s line).state lines (one_more h s f line)

module _ (s : State) (text out : List ℕ) (o : Session) (l : SessionLeaves s text out o) (ran : o.result ≡ Ok Done) where
  passed : AllPass (session_checks s text out)
  passed =
      ⊎_elim
      (λ f. absurd (accepted_not (Ok Done) f.0 refl
      (sym ran ∙ (rules.session_refused_when s text out o (session_is s text out o l) f.0).1 f.1.0)))
      (λ p. p.0)
      (by_verdict (session_checks s text out) Err (Ok Done))

  is_ran : o ≡ all_answered s text out
  is_ran = session_is s text out o l ∙ session_ran s text out passed

  end_is : o.state ≡ end_state s (lines_of text)
  unfolding all_answered
  end_is = ap (λ (x : Session). x.state) is_ran

  shown_is : take o.bytes o.out ≡ answer_lines (answers_to s (lines_of text))
  unfolding all_answered
  shown_is = ap (λ (x : Session). take x.bytes x.out) is_ran ∙ take_at (answer_lines (answers_to s (lines_of text))) _ _ refl

  answers_are : (answers : List Answer) → Shows o answers → answers ≡ answers_to s (lines_of text)
  answers_are answers shows =
      lines_then answers (answers_to s (lines_of text)) shows.sayable (sayable_answers s (lines_of text)) (sym shows.shown ∙ shown_is)

length_answers : (s : State) (lines : List (List ℕ)) → length (answers_to s lines) ≡ length lines
unfolding answers_to
length_answers s [] = refl
length_answers s (line ∷ lines) = ap suc (length_answers (step s line).state lines)

session_shows : SessionShows SessionLeaves
session_shows s text out o l ran = (
  answers_to s (lines_of text),
  (
    record { ran = ran; sayable = sayable_answers s (lines_of text); shown = shown_is s text out o l ran },
    length_answers s (lines_of text),
  ),
)

-- ------------------------------------------------------------------------
-- State and history since the start are those of the same lines from a fresh drive

from_fresh : (h : List Event) (s : State) → SinceStart h s → FromFresh h s
unfolding unanswered answered
from_fresh h s (started kek keys store size o l e) = rw (fresh_start kek keys store o l e) (begin kek size)
from_fresh h s (since.answered h' s' led line out o l p) =
    rw (call_is s' line out o l ∙ call_read s' line out p) (one_more h' s' (from_fresh h' s' led) line)
from_fresh h s (unread h' s' led line out o l r f) = rw (call_is s' line out o l ∙ call_unread s' line out r f) (from_fresh h' s' led)
from_fresh h s (since.session h' s' led text out o l answers shows) =
    rw (answers_are s' text out o l shows.ran answers shows, end_is s' text out o l shows.ran) (more h' s' (lines_of text) (from_fresh h' s' led))
from_fresh h s (no_session h' s' led text out o l r e) =
    rw (rules.session_refused_keeps s' text out o (session_is s' text out o l) r e) (from_fresh h' s' led)

-- a line that is answered takes one step
steps : (h : List Event) (s : State) (line : List ℕ) (answer : Answer) → Answers h s line answer → Steps h s line answer
unfolding answered
steps h s line answer (by_call h' s' led line' out o l p) =
    (from_fresh h' s' led, ap (λ (x : Called). x.answer) (call_is s' line' out o l ∙ call_read s' line' out p))
steps h s line answer (in_session h' s' led text out o l before after line' cut earlier later answer' n shows) =
    let all = answers_are s' text out o l shows.ran (earlier ++ (answer' ∷ later)) shows in
    let split = split_answers s' before after line' earlier later answer' n (ap (answers_to s') (sym cut) ∙ sym all) in
    (rw split.0 (more h' s' before (from_fresh h' s' led)), split.1)

-- ------------------------------------------------------------------------

pub demands : Demands
demands = record {
  start_refused_when = λ kek keys store o l. rules.start_refused_when kek keys store o (start_is kek keys store o l);
  start_refused_keeps = λ kek keys store o l. rules.start_refused_keeps kek keys store o (start_is kek keys store o l);
  starts_fresh = λ kek keys store o l. rules.starts_fresh kek keys store o (start_is kek keys store o l);
  refused_when = λ s line out o l. rules.refused_when s line out o (call_is s line out o l);
  done_when = λ s line out o l. rules.done_when s line out o (call_is s line out o l);
  refused_keeps = λ s line out o l. rules.refused_keeps s line out o (call_is s line out o l);
  kek_stays = λ s line out o l. rules.kek_stays s line out o (call_is s line out o l);
  writes = λ s line out o l. rules.writes s line out o (call_is s line out o l);
  session_refused_when = λ s text out o l. rules.session_refused_when s text out o (session_is s text out o l);
  session_refused_keeps = λ s text out o l. rules.session_refused_keeps s text out o (session_is s text out o l);
  session_kek_stays = λ s text out o l. rules.session_kek_stays s text out o (session_is s text out o l);
  session_answers = λ s text out o l. rules.session_answers s text out o (session_is s text out o l);
  slot_as_told = λ h s led. rules.slot_as_told h s (from_fresh h s led);
  same_key_uid_or_never = λ h s line answer a. rules.same_key_uid_or_never h s line answer (steps h s line answer a);
  one_key_for_a_key_uid = λ h s led. rules.one_key_for_a_key_uid h s (from_fresh h s led);
  load_finds_nothing = λ h s line answer a. rules.load_finds_nothing h s line answer (steps h s line answer a);
  count_as_told = λ h s led. rules.count_as_told h s (from_fresh h s led);
  pool_too_small_when = λ h s line answer a. rules.pool_too_small_when h s line answer (steps h s line answer a);
  never_unsound = λ h s led. rules.never_unsound h s (from_fresh h s led);
  view_as_told = λ h s led. view_as_told h s (from_fresh h s led);
  answer_as_told = λ h s line answer a. answer_as_told h s line answer (steps h s line answer a);
}

pub session_demands : SessionDemands
session_demands = record {
  session_shows = session_shows;
  session_keeps_kek = λ s text out o l. kek-laws.session_keeps_kek s text out o (session_is s text out o l);
}
