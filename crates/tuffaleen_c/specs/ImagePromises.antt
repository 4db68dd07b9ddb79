-- What is promised of the image, as statements; proofs/ImagePromised.antt has a
-- proof of each.
-- Assumes nothing.
use Rattle.std.specs.Prelude.{◌≡◌, true, false, List, ℕ}
use Rattle.rules.specs.declared.Refusal.{Refusal}
use Rattle.rules.specs.Answers.{refusal_number}
use Rattle.rules.specs.State.{State, Sized, wrong_store}
use Rattle.rules.specs.Sound.{unsound}
use Rattle.rules.specs.Start.{fresh_with, fresh_cache}
use Rattle.tuffaleen_c.specs.Image.{wrong_length, no_image, state_in, image_of, c_start, c_call, c_session}

-- Another length, or a lock byte outside the three states, is an unsound state.
abbrev pub NoImageUnsound : Type 0
NoImageUnsound = (image marks : List ℕ) → no_image image ≡ true → unsound (state_in image marks) ≡ true

-- Nothing is lost between an image and its state.
abbrev pub SameImage : Type 0
SameImage = (image marks : List ℕ) → no_image image ≡ false → image_of (state_in image marks) ≡ image

-- And nothing is lost between a state and its image.
abbrev pub SameState : Type 0
SameState = (s : State) → Sized s → (no_image (image_of s) ≡ false) × (state_in (image_of s) s.marks ≡ s)

-- A start on an image of another length changes nothing; a start with a wrong store leaves the fresh image and the store as it was.
abbrev pub StartKeeps : Type 0
StartKeeps = (kek image marks : List ℕ) → wrong_length image ≡ true
    → ((c_start kek image marks).image ≡ image) × ((c_start kek image marks).marks ≡ marks)

abbrev pub StartFresh : Type 0
StartFresh =
    (kek image marks : List ℕ) → wrong_length image ≡ false → wrong_store marks ≡ true
    → ((c_start kek image marks).image ≡ image_of (fresh_with (fresh_cache kek) marks)) × ((c_start kek image marks).marks ≡ marks)

-- Every refusal leaves the image and the marks as they were.
abbrev pub LineRefusedKeepsImage : Type 0
LineRefusedKeepsImage =
    (image marks line out : List ℕ) (r : Refusal) → (c_call image marks line out).number ≡ refusal_number r
    → ((c_call image marks line out).image ≡ image) × ((c_call image marks line out).marks ≡ marks)

abbrev pub SessionRefusedKeepsImage : Type 0
SessionRefusedKeepsImage =
    (image marks text out : List ℕ) (r : Refusal) → (c_session image marks text out).number ≡ refusal_number r
    → ((c_session image marks text out).image ≡ image) × ((c_session image marks text out).marks ≡ marks)

-- With an image that is none nothing is written, whatever the refusal, and a session's counts are 0.
abbrev pub NoImageWritesNothing : Type 0
NoImageWritesNothing =
    (image marks line out : List ℕ) → no_image image ≡ true
    → ((c_call image marks line out).bytes ≡ 0) × ((c_call image marks line out).out ≡ out)

abbrev pub NoImageNoSession : Type 0
NoImageNoSession =
    (image marks text out : List ℕ) → no_image image ≡ true
    → ((c_session image marks text out).lines ≡ 0) × (((c_session image marks text out).bytes ≡ 0) × ((c_session image marks text out).out ≡ out))
