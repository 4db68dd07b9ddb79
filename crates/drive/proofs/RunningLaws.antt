-- What holds after each line of a session.
-- Assumes nothing.
use Rattle.std.proofs.Common.{◌≡◌, ℕ, ◌+◌, ◌-◌, ◌<◌, ◌≤◌, Ok, List, [], ◌∷◌, ◌++◌, length, take, drop}
use Rattle.std.proofs.Common.{sym, refl, ap, ◌∙◌}
use Rattle.std.proofs.Common.{append_assoc, append-nil, arith, length-drop, take-append-drop, length-take-le, drop-drop, le-leb}
use Rattle.cells.specs.Cells.{write}
use Rattle.cells.proofs.CellsLaws.{lent_rest, back_rest, length_write, drop_write, write_end}
use Rattle.rules.specs.declared.Granted.TheVariants.{Done}
use Rattle.rules.specs.declared.Registers.{Registers}
use Rattle.rules.specs.Answers.{answer_line}
use Rattle.rules.specs.State.{State, Outcome}
use Rattle.rules.specs.Order.{step}
use Rattle.rules.specs.Call.{written, room_for, Called, answered}
use Rattle.rules.specs.Sessions.{lines_of, end_state, answers_to, answer_lines, room_for_all, Session, all_answered}
use Rattle.rules.proofs.Promised.{sound_kept}
use Rattle.rules.proofs.SayableLaws.{answer_fits}
use Rattle.digits.specs.Digits.{Wrote, wrote}
use Rattle.rules.specs.Answer.{Answer}
use Rattle.drive.specs.Acting.{state, after, Ready}
use Rattle.drive.proofs.LinesLaws.{few_lines}

-- ------------------------------------------------------------------------
-- An answer's line in its room

-- a step's answer is written where there is the room that its line is given
pub step_wrote : (s : State) (line out : List ℕ) (o : Outcome) → o ≡ step s line → room_for line ≤ length out
    → wrote o.answer out ≡ record { bytes = length (answer_line o.answer); out = written (answer_line o.answer) out }
unfolding wrote
step_wrote s line out o e h =
    let small = answer_fits s line in
    let same : length (answer_line o.answer) ≡ length (answer_line (step s line).answer) = ap (λ (x : Outcome). length (answer_line x.answer)) e in
    rw (le-leb (length (answer_line o.answer)) (length out) (omega arith))

-- what a call leaves, from what the line left and what was written
pub replied : (s : State) (line out : List ℕ) (o : Outcome) (w : Wrote) → o ≡ step s line → room_for line ≤ length out → w ≡ wrote o.answer out
    → ◌≡◌ {A = Called} (record { answer = o.answer; state = o.state; bytes = w.bytes; out = w.out }) (answered s line out)
unfolding answered
replied s line out o w e h q =
    let text : Outcome → List ℕ = (λ x. answer_line x.answer) in
    ap (λ (x : Wrote). record { answer = o.answer; state = o.state; bytes = x.bytes; out = x.out }) (q ∙ step_wrote s line out o e h)
    ∙ ap (λ (x : Outcome). record { answer = x.answer; state = x.state; bytes = length (text x); out = written (text x) out }) e

-- ------------------------------------------------------------------------
-- After some lines of a session: what is left of it completes the whole

pub record Mid (s₀ : State) (text out₀ : List ℕ) (s : State) (left : List (List ℕ)) (lines bytes : ℕ) (out : List ℕ) : Type 0 where
  pub size : length out ≡ length out₀
  pub counted : lines + length left ≡ length (lines_of text)
  pub room : bytes + room_for_all left ≤ length out
  pub ends : end_state s left ≡ end_state s₀ (lines_of text)
  pub told : take bytes out ++ answer_lines (answers_to s left) ≡ answer_lines (answers_to s₀ (lines_of text))
  pub rest : drop bytes out ≡ drop bytes out₀

end_cons : (s : State) (line : List ℕ) (lines : List (List ℕ)) → end_state (step s line).state lines ≡ end_state s (line ∷ lines)
unfolding end_state
end_cons s line lines = refl

end_nil : (s : State) → s ≡ end_state s []
unfolding end_state
end_nil s = refl

-- the answers' lines, of lines to come
abbrev saying : State → List (List ℕ) → List ℕ
saying s lines = answer_lines (answers_to s lines)

saying_cons : (s : State) (line : List ℕ) (lines : List (List ℕ))
    → answer_line (step s line).answer ++ saying (step s line).state lines ≡ saying s (line ∷ lines)
unfolding answer_lines answers_to
saying_cons s line lines = refl

saying_nil : (s : State) → [] ≡ saying s []
unfolding answer_lines answers_to
saying_nil s = refl

module _ (s₀ : State) (text out₀ : List ℕ) where
  -- at a line, with others behind it
  module _ (s : State) (line : List ℕ) (left : List (List ℕ)) (lines bytes : ℕ) (out : List ℕ)
      (m : Mid s₀ text out₀ s (line ∷ left) lines bytes out) where
    -- room for one answer more
    pub room_more : bytes + room_for line ≤ length out
    unfolding room_for_all
    room_more = let r = m.room in omega arith

    -- and the lines are no more than the text has bytes
    pub few : lines < length text
    few = let c = m.counted in let k = few_lines text in omega arith

    module _ (o : Outcome) (e : o ≡ step s line) where
      abbrev said : List ℕ
      said = answer_line o.answer

      -- and its line fits
      pub fits : bytes + length said + room_for_all left ≤ length out
      unfolding room_for_all
      fits =
          let r = m.room in
          let small = answer_fits s line in
          let same : length said ≡ length (answer_line (step s line).answer) = ap (λ (x : Outcome). length (answer_line x.answer)) e in
          omega arith

      pub mid_more : Mid s₀ text out₀ o.state left (lines + 1) (bytes + length said) (write bytes (length said) said out)
      mid_more =
          let f = fits in
          let z = m.size in
          let c = m.counted in
          let n : ℕ = length said in
          let whole : length (write bytes n said out) ≡ length out = length_write bytes n said out (omega arith) refl in
          record {
            size = whole ∙ z;
            counted = omega arith;
            room = omega arith;
            ends = ap (λ (x : Outcome). end_state x.state left) e ∙ end_cons s line left ∙ m.ends;
            told = ap (λ t. t ++ saying o.state left) (write_end bytes n said out (omega arith) refl)
                ∙ append_assoc (take bytes out) said (saying o.state left)
                ∙ ap (λ t. take bytes out ++ t)
                (ap (λ (x : Outcome). answer_line x.answer ++ saying x.state left) e ∙ saying_cons s line left)
                ∙ m.told;
            rest = drop_write bytes n said out (omega arith) refl (bytes + n) (omega arith)
                ∙ (sym (drop-drop n bytes out) ∙ ap (drop n) m.rest ∙ drop-drop n bytes out₀);
          }

  pub mid_end : (s : State) (lines bytes : ℕ) (out : List ℕ) → Mid s₀ text out₀ s [] lines bytes out
      → ◌≡◌ {A = Session} (record { result = Ok Done; state = s; lines = lines; bytes = bytes; out = out }) (all_answered s₀ text out₀)
  unfolding all_answered
  mid_end s lines bytes out m =
      let c = m.counted in
      let r = m.room in
      let whole : List ℕ = saying s₀ (lines_of text) in
      let all : take bytes out ≡ whole = sym (append-nil (take bytes out)) ∙ ap (λ t. take bytes out ++ t) (saying_nil s) ∙ m.told in
      let end : s ≡ end_state s₀ (lines_of text) = end_nil s ∙ m.ends in
      let count : lines ≡ length (lines_of text) = omega arith in
      let inside : bytes ≤ length out = omega arith in
      let size : bytes ≡ length whole = sym (length-take-le bytes out inside) ∙ ap length all in
      let last : out ≡ written whole out₀ =
      sym (take-append-drop bytes out)
      ∙ ap (λ t. t ++ drop bytes out) all
      ∙ ap (λ t. whole ++ t) m.rest
      ∙ ap (λ k. whole ++ drop k out₀) size in
      ap (λ x. record { result = Ok Done; state = x; lines = lines; bytes = bytes; out = out }) end
      ∙ ap (λ x. record { result = Ok Done; state = end_state s₀ (lines_of text); lines = x; bytes = bytes; out = out }) count
      ∙ ap (λ x. record { result = Ok Done; state = end_state s₀ (lines_of text); lines = length (lines_of text); bytes = x; out = out }) size
      ∙ ap (λ x. record { result = Ok Done; state = end_state s₀ (lines_of text); lines = length (lines_of text); bytes = length whole; out = x }) last

-- the rest of the output comes back with an answer's line at its front
module _ (s : State) (line out last : List ℕ) (o : Outcome) (e : o ≡ step s line) (bytes r : ℕ) (room : bytes + room_for line ≤ length out)
    (w : record { bytes = r; out = last } ≡ wrote o.answer (take (length out - bytes) (drop bytes out))) where
  abbrev lent : List ℕ
  lent = take (length out - bytes) (drop bytes out)

  abbrev text : List ℕ
  text = answer_line o.answer

  lent_room : room_for line ≤ length lent
  lent_room = let l = ap length (lent_rest bytes out) in let d = length-drop bytes out in omega arith

  all_wrote : ◌≡◌ {A = Wrote} (record { bytes = r; out = last }) (record { bytes = length text; out = written text lent })
  all_wrote = w ∙ step_wrote s line lent o e lent_room

  pub wrote_bytes : r ≡ length text
  wrote_bytes = ap (λ (x : Wrote). x.bytes) all_wrote

  pub wrote_back : take bytes out ++ (last ++ drop (length out - bytes) (drop bytes out)) ≡ write bytes (length text) text out
  unfolding write
  wrote_back =
      back_rest bytes last out
      ∙ ap (λ (x : Wrote). take bytes out ++ x.out) all_wrote
      ∙ ap (λ x. take bytes out ++ (text ++ drop (length text) x)) (lent_rest bytes out)

-- a step keeps a state ready for the next
pub ready_next : (d : Registers) (keys marks line : List ℕ) (a : Answer) (d' : Registers) (keys' marks' : List ℕ) → Ready d keys marks
    → after a d' keys' marks' ≡ step (state d keys marks) line → Ready d' keys' marks'
ready_next d keys marks line a d' keys' marks' ready e =
    let k = sound_kept (state d keys marks) line ready.sized ready.sound in
    let same : (step (state d keys marks) line).state ≡ state d' keys' marks' = ap (λ (o : Outcome). o.state) (sym e) in
    record { sized = rw same at k.0; sound = rw same at k.1 }
