-- The demands of the code. Each is a statement of `rules` `Promises`, here of
-- what `start`, the call and the session of `drive` leave (Leaves.antt), and of
-- any of them called in any order. (Demand 1's rest is the proved code itself:
-- Defined.antt.) proofs/Demands.antt has a proof of each.
-- Assumes nothing.
use Rattle.std.specs.Prelude.{◌≡◌, List, [], ◌∷◌, ◌++◌, ℕ, length, take, Ok, Err}
use Rattle.rules.specs.declared.Refusal.{Refusal}
use Rattle.rules.specs.Answer.{Answer}
use Rattle.rules.specs.declared.Granted.TheVariants.{Done}
use Rattle.rules.specs.Numbers.{kek_size}
use Rattle.rules.specs.Checks.{AllPass, FirstToFail}
use Rattle.rules.specs.Answers.{AllSayable}
use Rattle.rules.specs.State.{State, Outcome}
use Rattle.rules.specs.Call.{Called, call_checks, room_for}
use Rattle.rules.specs.Sessions.{Session, lines_of, end_state, answer_lines}
use Rattle.rules.specs.History.{Event, told}
use Rattle.rules.specs.Promises.{StartRefusedWhen, StartRefusedKeeps, StartsFresh}
use Rattle.rules.specs.Promises.{RefusedWhen, DoneWhen, RefusedKeeps, KekStays, Writes}
use Rattle.rules.specs.Promises.{SessionRefusedWhen, SessionRefusedKeeps, SessionKekStays, SessionAnswers}
use Rattle.rules.specs.Promises.{SlotAsTold, OneKeyForAKeyUid, CountAsTold, NeverUnsound, SameKeyUidOrNever, LoadFindsNothing, PoolTooSmallWhen}
use Rattle.rules.specs.Promises.{ViewAsTold, AnswerAsTold}
use Rattle.promises.specs.Leaves.{StartLeaves, CallLeaves, SessionLeaves}

-- the output of a session that was not refused shows just these answers, one line after another
pub record Shows (o : Session) (answers : List Answer) : Type 0 where
  pub ran : o.result ≡ Ok Done
  pub sayable : AllSayable answers
  pub shown : take o.bytes o.out ≡ answer_lines answers

-- Whatever is called, in any order, after a drive was started: what was answered since, the newest first, and the state that it led to. A
-- call's answer is the one that it returned; a session's are those that its output shows.
pub data SinceStart : List Event → State → Type 0 where
  started : (kek keys store : List ℕ) → length kek ≡ kek_size
      → (o : Outcome) → StartLeaves kek keys store o → o.answer ≡ Ok Done → SinceStart [] o.state
  answered : (h : List Event) (s : State) → SinceStart h s
      → (line out : List ℕ) (o : Called) → CallLeaves s line out o → AllPass (call_checks s (room_for line) out)
      → SinceStart (record { line = line; answer = o.answer } ∷ h) o.state
  unread : (h : List Event) (s : State) → SinceStart h s
      → (line out : List ℕ) (o : Called) → CallLeaves s line out o → (r : Refusal) → FirstToFail (call_checks s (room_for line) out) r
      → SinceStart h o.state
  session : (h : List Event) (s : State) → SinceStart h s
      → (text out : List ℕ) (o : Session) → SessionLeaves s text out o
      → (answers : List Answer) → Shows o answers
      → SinceStart (told (lines_of text) answers h) o.state
  no_session : (h : List Event) (s : State) → SinceStart h s
      → (text out : List ℕ) (o : Session) → SessionLeaves s text out o → (r : Refusal) → o.result ≡ Err r
      → SinceStart h o.state

-- A line that is answered since the start, after this history and in this state: by a call, or as a line of a session, whose answer stands
-- in the output at the line's own place.
pub data Answers : List Event → State → List ℕ → Answer → Type 0 where
  by_call : (h : List Event) (s : State) → SinceStart h s
      → (line out : List ℕ) (o : Called) → CallLeaves s line out o → AllPass (call_checks s (room_for line) out)
      → Answers h s line o.answer
  in_session : (h : List Event) (s : State) → SinceStart h s
      → (text out : List ℕ) (o : Session) → SessionLeaves s text out o
      → (before after : List (List ℕ)) (line : List ℕ) → lines_of text ≡ before ++ (line ∷ after)
      → (earlier later : List Answer) (answer : Answer) → length earlier ≡ length before → Shows o (earlier ++ (answer ∷ later))
      → Answers (told before earlier h) (end_state s before) line answer

-- ------------------------------------------------------------------------

pub record Demands : Type 0 where
  -- a start, on any cache and any store
  pub start_refused_when : StartRefusedWhen StartLeaves
  pub start_refused_keeps : StartRefusedKeeps StartLeaves
  pub starts_fresh : StartsFresh StartLeaves
  -- demands 1 and 2, on any state, line, text and output
  pub refused_when : RefusedWhen CallLeaves
  pub done_when : DoneWhen CallLeaves
  pub refused_keeps : RefusedKeeps CallLeaves
  pub kek_stays : KekStays CallLeaves
  pub writes : Writes CallLeaves
  pub session_refused_when : SessionRefusedWhen SessionLeaves
  pub session_refused_keeps : SessionRefusedKeeps SessionLeaves
  pub session_kek_stays : SessionKekStays SessionLeaves
  pub session_answers : SessionAnswers SessionLeaves
  -- demand 3, and what else holds since a start
  pub slot_as_told : SlotAsTold SinceStart
  pub same_key_uid_or_never : SameKeyUidOrNever Answers
  pub one_key_for_a_key_uid : OneKeyForAKeyUid SinceStart
  pub load_finds_nothing : LoadFindsNothing Answers
  pub count_as_told : CountAsTold SinceStart
  pub pool_too_small_when : PoolTooSmallWhen Answers
  pub never_unsound : NeverUnsound SinceStart
  pub view_as_told : ViewAsTold SinceStart
  pub answer_as_told : AnswerAsTold Answers
