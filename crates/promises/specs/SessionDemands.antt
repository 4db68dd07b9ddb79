-- Of sessions, beside Demands.antt: one that was not refused shows an answer for each
-- line of its text, and any keeps the key-encryption key. proofs/Demands.antt has a
-- proof of each.
-- Assumes nothing.
use Rattle.std.specs.Prelude.{◌≡◌, List, ℕ, length, Ok}
use Rattle.rules.specs.Answer.{Answer}
use Rattle.rules.specs.declared.Granted.TheVariants.{Done}
use Rattle.rules.specs.State.{State}
use Rattle.rules.specs.Sessions.{Session, lines_of}
use Rattle.rules.specs.Promises.{OfSessions, SessionKeepsKek}
use Rattle.promises.specs.Leaves.{SessionLeaves}
use Rattle.promises.specs.Demands.{Shows}

abbrev pub SessionShows : OfSessions → Type 0
SessionShows Leaves =
    (s : State) (text out : List ℕ) (o : Session) → Leaves s text out o → o.result ≡ Ok Done
    → (answers : List Answer) × (Shows o answers × (length answers ≡ length (lines_of text)))

pub record SessionDemands : Type 0 where
  pub session_shows : SessionShows SessionLeaves
  pub session_keeps_kek : SessionKeepsKek SessionLeaves
