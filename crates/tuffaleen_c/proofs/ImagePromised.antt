-- The promises of specs/ImagePromises.antt, each proved: an image and its state
-- are one, a refusal leaves the state as it was, and what is no image writes nothing.
-- Assumes nothing.
use mathlib.Core.Path.{◌≡◌, refl, sym, ap, ◌∙◌}
use mathlib.Core.Bool.{Bool, true, false, true≢false}
use mathlib.Core.List.{List, [], ◌∷◌, ◌++◌, append_assoc}
use mathlib.Core.Logic.{⊎_elim}
use Prim.Native.Nat.{ℕ, zero, suc, ◌+◌, ◌≤◌}
use native.Mathlib.Omega.{arith}
use lib.ListN.{length, take, drop, get_or, take-append-drop, length-append, length-drop}
use lib.Seq.{drop-cons, take_at, get_or-append-add, drop-append-add}
use lib.Dec.{eqb, ltb}
use borrow.Author.Tests.{ltb-false, eq-eqb}
use Rattle.cells.proofs.PredicatesLaws.{or_right}
use Rattle.rules.specs.declared.Refusal.{Refusal}
use Rattle.rules.specs.Answer.{Answer}
use Rattle.std.specs.Prelude.{Ok, Err}
use Rattle.rules.specs.declared.Granted.TheVariants.{Done, LockStates, Discovery}
use Rattle.rules.specs.Numbers.{namespaces, cache_size}
use Rattle.rules.specs.Answers.{number, refusal_number}
use Rattle.rules.specs.State.{State, wrong_store}
use Rattle.rules.specs.Sound.{unsound}
use Rattle.rules.specs.Locks.{lock_value}
use Rattle.rules.specs.Start.{start}
use Rattle.rules.specs.Call.{Called, call}
use Rattle.rules.specs.Sessions.{Session, no_session, session}
use Rattle.rules.specs.Promises.{session_checks}
use Rattle.rules.proofs.ChecksLaws.{by_verdict}
use Rattle.rules.proofs.AnswersLaws.{some_number}
use Rattle.rules.proofs.CallLaws.{session_unread}
use Rattle.rules.proofs.Promised.{refused_keeps, writes, session_refused_keeps}
use Rattle.tuffaleen_c.specs.Image.{partitions, registers_size, image_size, lock_of, no_lock, lock_byte0, lock_byte1, no_image}
use Rattle.tuffaleen_c.specs.Image.{registers_in, keys_in, state_in, image_of, saved, c_start, c_call, c_session}
use Rattle.tuffaleen_c.specs.ImagePromises.{NoImageUnsound, SameImage, SameState, StartKeeps, StartFresh}
use Rattle.tuffaleen_c.specs.ImagePromises.{LineRefusedKeepsImage, SessionRefusedKeepsImage, NoImageWritesNothing, NoImageNoSession}
use Rattle.tuffaleen_c.proofs.ImageLaws.{is_image, right_length, is_lock}

-- ------------------------------------------------------------------------
-- An image and its state

-- what is no image has no cache
pub no_image_unsound : NoImageUnsound
unfolding unsound
no_image_unsound image marks e = rw e

same_lock_lem : (b : ℕ) → no_lock b ≡ false → lock_value (lock_of b) ≡ b
same_lock_lem zero e = absurd (true≢false e)
same_lock_lem (suc zero) e = refl
same_lock_lem (suc (suc zero)) e = refl
same_lock_lem (suc (suc (suc b))) e =
    let most : suc (suc (suc b)) ≤ 3 = ltb-false 3 (suc (suc (suc b))) (or_right (eqb (suc (suc (suc b))) 0) (ltb 3 (suc (suc (suc b)))) e) in
    omega arith

-- the two bytes behind the counts
split : (image : List ℕ) → registers_size ≤ length image
    → (take namespaces image ++ (lock_byte0 image ∷ lock_byte1 image ∷ [])) ++ drop registers_size image ≡ image
split image h =
    let one : drop (suc namespaces) image ≡ lock_byte1 image ∷ drop registers_size image = drop-cons image (suc namespaces) 0 (omega arith) in
    let two = drop-cons image namespaces 0 (omega arith) ∙ ap (λ l. lock_byte0 image ∷ l) one in
    append_assoc (take namespaces image) (lock_byte0 image ∷ lock_byte1 image ∷ []) (drop registers_size image)
    ∙ ap (λ l. take namespaces image ++ l) (sym two)
    ∙ take-append-drop namespaces image

pub same_image : SameImage
unfolding image_of registers_in
same_image image marks e =
    let is = is_image image e in
    let size = is.size in
    rw (e, same_lock_lem (lock_byte0 image) is.lock0, same_lock_lem (lock_byte1 image) is.lock1) (split image (omega arith))

-- what stands behind the first n
get_d_past : (p q : List ℕ) (n i : ℕ) → length p ≡ n → get_or (p ++ q) (n + i) 0 ≡ get_or q i 0
get_d_past p q n i e = rw (← e) (get_or-append-add p q i 0)

drop_past : (p q : List ℕ) (n i : ℕ) → length p ≡ n → drop (n + i) (p ++ q) ≡ drop i q
drop_past p q n i e = rw (← e) (drop-append-add p q i)

pub same_state : SameState
unfolding image_of registers_in no_image
same_state s sized =
    let counts = s.registers.counts in
    let a = s.registers.locks.partition0 in
    let b = s.registers.locks.partition1 in
    let four = sized.counts in
    let full = sized.cache in
    let whole : List ℕ = counts ++ (lock_value a ∷ lock_value b ∷ s.keys) in
    let size : length whole ≡ image_size = simp length-append (omega arith) in
    rw (append_assoc counts (lock_value a ∷ lock_value b ∷ []) s.keys)
    (rw (eq-eqb _ image_size size, take_at, get_d_past counts _ namespaces 0, get_d_past counts _ namespaces 1, drop_past counts _ namespaces partitions)
    (rw ((is_lock a).0, (is_lock b).0, (is_lock a).1, (is_lock b).1) (refl, refl)))

-- ------------------------------------------------------------------------
-- Refusals

-- the image's own state, saved again, leaves the image and the marks as they were
stays : (image marks : List ℕ) (s : State) → s ≡ state_in image marks → (saved (no_image image) image s ≡ image) × (s.marks ≡ marks)
stays image marks s e = (ap (saved (no_image image) image) e ∙ by (no_image image) refl, ap (λ (x : State). x.marks) e)
  where
    by : (b : Bool) → no_image image ≡ b → saved b image (state_in image marks) ≡ image
    by true p = refl
    by false p = same_image image marks p

-- an answer with a refusal's number is a refusal
refusal : (a : Answer) (r : Refusal) → number a ≡ refusal_number r → (q : Refusal) × (a ≡ Err q)
refusal (Ok Done) r e = absurd (some_number r e)
refusal (Ok (LockStates dword)) r e = absurd (some_number r e)
refusal (Ok Discovery) r e = absurd (some_number r e)
refusal (Err q) r e = (q, refl)

pub line_refused_keeps_image : LineRefusedKeepsImage
unfolding c_call
line_refused_keeps_image image marks line out r e =
    let s : State = state_in image marks in
    let c : Called = call s line out in
    let q = refusal c.answer r e in
    stays image marks c.state (refused_keeps s line out c refl q.0 q.1)

pub session_refused_keeps_image : SessionRefusedKeepsImage
unfolding c_session
session_refused_keeps_image image marks text out r e =
    let s : State = state_in image marks in
    let c : Session = session s text out in
    let q = refusal c.result r e in
    stays image marks c.state (ap (λ (x : Session). x.state) (session_refused_keeps s text out c refl q.0 q.1))

-- ------------------------------------------------------------------------
-- A start, and an image that is none

no_cache_keeps : (kek marks : List ℕ) → (start kek [] marks).state.marks ≡ marks
unfolding start
no_cache_keeps kek marks = by (wrong_store marks) refl
  where
    by : (b : Bool) → wrong_store marks ≡ b → (start kek [] marks).state.marks ≡ marks
    by true p = rw p
    by false p = rw p

pub start_keeps : StartKeeps
unfolding c_start
start_keeps kek image marks e = (rw e, ap (λ b. (start kek (keys_in b image) marks).state.marks) e ∙ no_cache_keeps kek marks)

pub start_fresh : StartFresh
unfolding c_start start
start_fresh kek image marks e w =
    let size = right_length image e in
    let full : length (drop registers_size image) ≡ cache_size = simp length-drop (omega arith) in
    (rw (e, w, eq-eqb (length (drop registers_size image)) cache_size full), rw (w, c_start))

pub no_image_writes_nothing : NoImageWritesNothing
unfolding c_call
no_image_writes_nothing image marks line out e =
    ⊎_elim
    (λ f. f.1)
    (λ p. absurd (true≢false (sym (no_image_unsound image marks e) ∙ p.0.1.1.0)))
    (writes (state_in image marks) line out _ refl)

pub no_image_no_session : NoImageNoSession
unfolding c_session no_session
no_image_no_session image marks text out e =
    let s : State = state_in image marks in
    ⊎_elim
    (λ f. rw (session_unread s text out f.0 f.1.0) (refl, (refl, refl)))
    (λ p. absurd (true≢false (sym (no_image_unsound image marks e) ∙ p.0.1.1.0)))
    (by_verdict (session_checks s text out) Err (Ok Done))
