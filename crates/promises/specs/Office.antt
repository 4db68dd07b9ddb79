-- What is promised to a key office, of the code: of what `tuffaleen_message` leaves,
-- and of what the call for a line then does with it (Leaves.antt).
-- proofs/Office.antt has a proof.
-- Assumes nothing.
use Rattle.std.specs.Prelude.{◌≡◌, List, ◌∷◌, ℕ, ◌/◌, ◌%◌, ◌^◌, ◌≤◌, ◌<◌, length, take, Ok}
use Rattle.rules.specs.declared.Granted.TheVariants.{Done}
use Rattle.rules.specs.Checks.{AllPass}
use Rattle.rules.specs.Answers.{number, digits_of}
use Rattle.rules.specs.State.{State, namespace, key_tag}
use Rattle.rules.specs.Slots.{Contents, holding, FitKey}
use Rattle.rules.specs.View.{view_of}
use Rattle.rules.specs.Ttlv.{AreBytes}
use Rattle.rules.specs.Order.{load}
use Rattle.rules.specs.Call.{Called, call_checks, room_for}
use Rattle.rules.specs.History.{Event}
use Rattle.kmip.specs.Writing.{message_room}
use Rattle.tuffaleen_c.specs.Office.{CMessage}
use Rattle.promises.specs.Leaves.{CallLeaves, MessageLeaves}
use Rattle.promises.specs.Demands.{SinceStart}

-- the line that sends some bytes as a message: kind 0D, the namespace, the tag, the bytes
abbrev pub sent : ℕ → ℕ → List ℕ → List ℕ
sent ns tag message = digits_of (0x0D ∷ ns ∷ tag % 256 ∷ tag / 256 ∷ message)

-- A KeyUID and a key that fit are written as a message, for any namespace and tag that a frame can name. Sent as a line to a drive that would
-- take the load, it loads them: 0000, and the slot holds this KeyUID and this key.
abbrev pub LoadsWhatWasWritten : Type 0
LoadsWhatWasWritten =
    (ns tag : ℕ) (x : Contents) (out : List ℕ) → ns < 2 ^ 8 → tag < 2 ^ 16 → FitKey x → AreBytes x.uid → AreBytes x.key
    → message_room ≤ length out
    → (m : CMessage) → MessageLeaves ns tag x.uid x.key out m
    → (m.number ≡ number (Ok Done))
    × ((h : List Event) (s : State) → SinceStart h s
    → AllPass (load (view_of s) (namespace ns) (key_tag tag) x).checks
    → let line = sent ns tag (take m.bytes m.out) in
    (room : List ℕ) (o : Called) → CallLeaves s line room o → AllPass (call_checks s (room_for line) room)
    → (o.answer ≡ Ok Done) × ((view_of o.state).slots (namespace ns) (key_tag tag) ≡ holding x))

pub record OfficeDemands : Type 0 where
  pub loads_what_was_written : LoadsWhatWasWritten
