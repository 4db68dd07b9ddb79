-- What an image is and is not; the registers written to its front; the cache
-- lent out of it and back, and what a call then leaves.
-- Assumes nothing.
use Rattle.std.proofs.Common.{◌≡◌, ◌≢◌, refl, sym, ap, ◌∙◌, true, false, ◌||◌, List, [], ◌∷◌, ◌++◌}
use Rattle.std.proofs.Common.{ℕ, zero, suc, ◌+◌, ◌-◌, ◌≤◌, arith}
use Rattle.std.proofs.Common.{Result, Ok, Err, MatchResult, MatchOption}
use Rattle.std.specs.Result.{result_ok}
use Rattle.std.specs.Borrow.{MutBor}
use Rattle.tuffaleen_c.specs.Lending.{Lent}
use lib.ListN.{length, take, drop, set, length-append, length-drop}
use lib.Seq.{length-take-le, drop_at, append_snoc}
use borrow.Author.Tests.{eq-eqb, ne_eqb, lt-ltb, eqb-true, not-false}
use Rattle.cells.proofs.CellsLaws.{grow, lent_rest, back_rest}
use Rattle.cells.proofs.PredicatesLaws.{or_left, or_right}
use Rattle.rules.specs.declared.Lock.{Lock}
use Rattle.rules.specs.declared.Lock.TheVariants.{WriteUnlocked, WriteLocked, WriteLockedUntilPowerCycle}
use Rattle.rules.specs.declared.Registers.{Registers}
use Rattle.rules.specs.Numbers.{namespaces}
use Rattle.rules.specs.Answers.{number}
use Rattle.rules.specs.State.{State, Outcome}
use Rattle.rules.specs.Locks.{lock_value}
use Rattle.rules.specs.Start.{fresh_registers, start}
use Rattle.rules.specs.Call.{Called, call}
use Rattle.rules.specs.Sessions.{Session, session}
use Rattle.tuffaleen_c.specs.Image.{registers_size, image_size, lock_of, no_lock, lock_byte0, lock_byte1, wrong_length, no_image, registers_in, keys_in, saved}
use Rattle.tuffaleen_c.specs.Image.{state_in, registers_bytes, image_of, CStarted, c_start, CCalled, c_call, CSession, c_session}

-- ------------------------------------------------------------------------
-- Lock bytes

pub is_lock : (l : Lock) → (no_lock (lock_value l) ≡ false) × (lock_of (lock_value l) ≡ l)
is_lock WriteUnlocked = (refl, refl)
is_lock WriteLocked = (refl, refl)
is_lock WriteLockedUntilPowerCycle = (refl, refl)

not_lock : (b : ℕ) → ((l : Lock) → lock_value l ≢ b) → no_lock b ≡ true
not_lock zero other = refl
not_lock (suc zero) other = absurd (other WriteUnlocked refl)
not_lock (suc (suc zero)) other = absurd (other WriteLocked refl)
not_lock (suc (suc (suc zero))) other = absurd (other WriteLockedUntilPowerCycle refl)
not_lock (suc (suc (suc (suc b)))) other =
    let n : ℕ = suc (suc (suc (suc b))) in
    rw (ne_eqb n 0 (λ e. omega (arith, e)), lt-ltb 3 n (omega arith))

pub lock_told : {E : Type 0} (b : ℕ) (r : Result Lock E) → MatchResult r (λ l. lock_value l ≡ b) (λ e. (l : Lock) → lock_value l ≢ b)
    → MatchOption (result_ok r) (no_lock b ≡ true) (λ l. (no_lock b ≡ false) × (l ≡ lock_of b))
lock_told b (Ok l) is = (rw (← is) (is_lock l).0, sym (is_lock l).1 ∙ ap lock_of is)
lock_told b (Err e) other = not_lock b other

-- ------------------------------------------------------------------------
-- What is no image

pub right_length : (image : List ℕ) → wrong_length image ≡ false → length image ≡ image_size
right_length image e = eqb-true (length image) image_size (not-false _ e)

pub other_length : (image : List ℕ) → (length image ≡ image_size → ⊥) → no_image image ≡ true
unfolding no_image
other_length image n = rw (ne_eqb (length image) image_size n)

module _ (image : List ℕ) (size : length image ≡ image_size) where
  pub first_lock : no_lock (lock_byte0 image) ≡ true → no_image image ≡ true
  unfolding no_image
  first_lock e = rw (eq-eqb (length image) image_size size, e)

  pub second_lock : no_lock (lock_byte0 image) ≡ false → no_image image ≡ no_lock (lock_byte1 image)
  unfolding no_image
  second_lock e = rw (eq-eqb (length image) image_size size, e)

pub record IsImage (image : List ℕ) : Type 0 where
  pub size : length image ≡ image_size
  pub lock0 : no_lock (lock_byte0 image) ≡ false
  pub lock1 : no_lock (lock_byte1 image) ≡ false

pub is_image : (image : List ℕ) → no_image image ≡ false → IsImage image
unfolding no_image
is_image image e =
    let head : wrong_length image || no_lock (lock_byte0 image) ≡ false = or_left _ (no_lock (lock_byte1 image)) e in
    record {
      size = right_length image (or_left (wrong_length image) (no_lock (lock_byte0 image)) head);
      lock0 = or_right (wrong_length image) (no_lock (lock_byte0 image)) head;
      lock1 = or_right (wrong_length image || no_lock (lock_byte0 image)) (no_lock (lock_byte1 image)) e;
    }

-- ------------------------------------------------------------------------
-- The registers written to the front: the counts, then the first lock byte and the second

module _ (image counts : List ℕ) (size : length image ≡ image_size) (four : length counts ≡ namespaces) where
  pub registers_front : (a b : ℕ)
      → set (set (counts ++ drop namespaces image) namespaces a) (namespaces + 1) b ≡ (counts ++ (a ∷ b ∷ [])) ++ drop registers_size image
  registers_front a b =
      let one : length (counts ++ (a ∷ [])) ≡ namespaces + 1 = simp length-append (omega arith) in
      ap (λ l. set l (namespaces + 1) b) (grow counts image namespaces a four (omega arith))
      ∙ grow (counts ++ (a ∷ [])) image (namespaces + 1) b one (omega arith)
      ∙ ap (λ l. l ++ drop registers_size image) (append_snoc counts a (b ∷ []))

-- ------------------------------------------------------------------------
-- The cache, lent where it lies

-- what is lent, and what the whole is once that has come back as `keys`
abbrev lent : List ℕ → List ℕ
lent image = take (length image - registers_size) (drop registers_size image)

abbrev back : List ℕ → List ℕ → List ℕ
back image keys = take registers_size image ++ (keys ++ drop (length image - registers_size) (drop registers_size image))

module _ (image : List ℕ) (size : length image ≡ image_size) where
  pub keys_within : registers_size ≤ length image
  keys_within = omega arith

  front : length (take registers_size image) ≡ registers_size
  front = length-take-le registers_size image keys_within

  -- a call leaves as many keys as it was lent
  pub back_size : (keys : List ℕ) → length keys ≡ length (lent image) → length (back image keys) ≡ image_size
  back_size keys same =
      let rest = ap length (lent_rest registers_size image) ∙ length-drop registers_size image in
      ap length (back_rest registers_size keys image) ∙ length-append (take registers_size image) keys ∙ omega (arith, front)

  -- what `save` then leaves
  saved_back : (s : State) → registers_bytes s.registers ++ drop registers_size (back image s.keys) ≡ image_of s
  unfolding image_of
  saved_back s =
      ap (λ l. registers_bytes s.registers ++ drop registers_size l) (back_rest registers_size s.keys image)
      ∙ ap (λ l. registers_bytes s.registers ++ l) (drop_at (take registers_size image) s.keys registers_size front)

-- ------------------------------------------------------------------------
-- All that a call from C leaves, with `left` for the image that was saved and
-- `n` for the answer's number

abbrev Saved : List ℕ → State → List ℕ → Type 0
Saved image s left = left ≡ registers_bytes s.registers ++ drop registers_size (back image s.keys)

module _ (image marks kek : List ℕ) {o : Outcome} {n : ℕ} (told : n ≡ number o.answer) where
  pub started_nowhere : (length image ≡ image_size → ⊥) → o ≡ start kek [] marks
      → ◌≡◌ {A = CStarted} (record { number = n; image = image; marks = o.state.marks }) (c_start kek image marks)
  unfolding c_start
  started_nowhere other done = rw (told, done, ne_eqb (length image) image_size other)

  pub started_in : {left : List ℕ} → length image ≡ image_size → o ≡ start kek (lent image) marks → Saved image o.state left
      → ◌≡◌ {A = CStarted} (record { number = n; image = left; marks = o.state.marks }) (c_start kek image marks)
  unfolding c_start
  started_in size done saved =
      let done_in = done ∙ ap (λ k. start kek k marks) (lent_rest registers_size image) in
      rw (told, saved ∙ saved_back image size o.state, done_in, eq-eqb (length image) image_size size)

-- what the drive is asked with
abbrev pub asked : Registers → List ℕ → List ℕ → State
asked registers keys marks = record { registers = registers; keys = keys; marks = marks }

-- an answer to what was lent; `n` is its number, and what a closure has captured ends as `m` and `o`
module _ (image marks : List ℕ) {shown : List ℕ} (shows : shown ≡ keys_in (no_image image) image) where
  abbrev lent_state : State
  lent_state = asked (registers_in (no_image image) image) shown marks

  from : lent_state ≡ state_in image marks
  from = ap (λ k. asked (registers_in (no_image image) image) k marks) shows

  pub line_told : (line out : List ℕ) (c : Called) {left m o : List ℕ} {n : ℕ} → c ≡ call lent_state line out
      → left ≡ saved (no_image image) image (asked c.state.registers c.state.keys []) → m ≡ c.state.marks → o ≡ c.out → n ≡ number c.answer
      → ◌≡◌ {A = CCalled} (record { number = n; image = left; marks = m; bytes = c.bytes; out = o }) (c_call image marks line out)
  unfolding c_call image_of
  line_told line out c done saves ms os told = rw (told, ms, os, saves, done ∙ ap (λ s. call s line out) from)

  pub text_told : (text out : List ℕ) (c : Session) {left m o : List ℕ} {n : ℕ} → c ≡ session lent_state text out
      → left ≡ saved (no_image image) image (asked c.state.registers c.state.keys []) → m ≡ c.state.marks → o ≡ c.out → n ≡ number c.result
      → ◌≡◌ {A = CSession} (record { number = n; image = left; marks = m; lines = c.lines; bytes = c.bytes; out = o }) (c_session image marks text out)
  unfolding c_session image_of
  text_told text out c done saves ms os told = rw (told, ms, os, saves, done ∙ ap (λ s. session s text out) from)

-- one call on what is no image, and on an image
module _ {F R : Type 0} {step : F → Registers → MutBor (List ℕ) → Registers × R → MutBor (List ℕ) → F → Type 0} {f f' : F} (image : List ℕ)
    {registers : Registers} (shown keys : MutBor (List ℕ)) (r : Registers × R) (met : step f registers shown r keys f') where
  pub lent_none : no_image image ≡ true → registers ≡ fresh_registers → shown.now ≡ [] → Lent step f image r.1 image f'
  unfolding registers_in
  lent_none none were shows = record {
    registers = r.0;
    shown = shown;
    keys = keys;
    shows = rw none shows;
    met = rw (none, ← were) met;
    saves = rw none;
  }

  pub lent_some : {left : List ℕ} → (no_image image ≡ false) × (registers ≡ registers_in false image) → shown.now ≡ lent image
      → left ≡ registers_bytes r.0 ++ drop registers_size (back image keys.now) → Lent step f image r.1 left f'
  lent_some some shows saves = record {
    registers = r.0;
    shown = shown;
    keys = keys;
    shows = rw some.0 (shows ∙ lent_rest registers_size image);
    met = rw (some.0, ← some.1) met;
    saves = rw some.0 (saves ∙ saved_back image (is_image image some.0).size (asked r.0 keys.now []));
  }
