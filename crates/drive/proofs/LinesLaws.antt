-- The lines of a text, cut where the code cuts them; and the room that their
-- answers may need.
-- Assumes nothing.
use Rattle.std.proofs.Common.{◌≡◌, ℕ, suc, ◌+◌, ◌<◌, ◌≤◌, Bool, true, false, cond, eqb, List, [], ◌∷◌, ◌++◌}
use Rattle.std.proofs.Common.{length, get_or, take, drop, sym, refl}
use Rattle.std.proofs.Common.{ap, ◌∙◌, add-one, arith, take-append-drop, drop_of_length-le, take_all, drop-cons, ne_eqb, eq-eqb, eqb-true, length-take-le}
use lib.Seq.{get_or-take}
use Rattle.rules.specs.Answers.{line_feed}
use Rattle.rules.specs.Call.{room_for}
use Rattle.rules.specs.Sessions.{joined, lines_of, room_for_all}
use Rattle.memchr.specs.Find.{NoneBefore, Nowhere, Passes, is_byte}

abbrev Feedless : List ℕ → Type 0
Feedless p = (i : ℕ) → i < length p → get_or p i 0 ≡ line_feed → ⊥

tail_feed : (b : ℕ) (p : List ℕ) → Feedless (b ∷ p) → Feedless p
tail_feed b p h i l = h (suc i) (omega arith)

line_then : (p rest : List ℕ) → Feedless p → lines_of (p ++ (line_feed ∷ rest)) ≡ p ∷ lines_of rest
unfolding lines_of
line_then [] rest h = refl
line_then (b ∷ p) rest h =
    (rw (ne_eqb b line_feed (h 0 (omega arith)))) ∙ ap (joined b) (line_then p rest (tail_feed b p h))

last_line : (b : ℕ) (p : List ℕ) → Feedless (b ∷ p) → lines_of (b ∷ p) ≡ (b ∷ p) ∷ []
unfolding lines_of
last_line b [] h = rw (ne_eqb b line_feed (h 0 (omega arith)))
last_line b (d ∷ p) h =
    (rw (ne_eqb b line_feed (h 0 (omega arith)))) ∙ ap (joined b) (last_line d p (tail_feed b (d ∷ p) h))

some_last : (p : List ℕ) → 0 < length p → Feedless p → lines_of p ≡ p ∷ []
some_last [] l h = absurd (omega arith)
some_last (b ∷ p) l h = last_line b p h

-- no line feed stands before z
abbrev NoFeed : List ℕ → ℕ → Type 0
NoFeed text z = (k : ℕ) → k < z → get_or text k 0 ≡ line_feed → ⊥

module _ (text : List ℕ) (i : ℕ) (clean : NoFeed text i) where
  clean_front : i ≤ length text → Feedless (take i text)
  clean_front h k l e =
      let n = length-take-le i text h in
      clean k (omega arith) (sym (get_or-take i text k 0 (omega arith)) ∙ e)

  -- a line feed stands at i
  fed : i < length text → get_or text i 0 ≡ line_feed → lines_of text ≡ take i text ∷ lines_of (drop (i + 1) text)
  fed h e =
      let cut : text ≡ take i text ++ (line_feed ∷ drop (i + 1) text) =
      sym (take-append-drop i text)
      ∙ ap (λ z. take i text ++ z) (drop-cons text i 0 h ∙ ap (λ b. b ∷ drop (suc i) text) e
      ∙ ap (λ k. line_feed ∷ drop k text) (sym (add-one i))) in
      ap lines_of cut ∙ line_then (take i text) (drop (i + 1) text) (clean_front (omega arith))

  -- the text ends at i
  ended : 0 < length text → i ≡ length text → lines_of text ≡ take i text ∷ lines_of (drop i text)
  unfolding lines_of
  ended s e =
      let n = length-take-le i text (omega arith) in
      ap lines_of (sym (take_all i text (omega arith)))
      ∙ some_last (take i text) (omega arith) (clean_front (omega arith))
      ∙ ap (λ l. take i text ∷ lines_of l) (sym (drop_of_length-le text (omega arith)))

-- the first line, by the search for a line feed
module _ (text : List ℕ) where
  pub line_found : (k : ℕ) → NoneBefore (Passes (is_byte line_feed) text) 0 (length text) k × Passes (is_byte line_feed) text k
      → lines_of text ≡ take k text ∷ lines_of (drop (k + 1) text)
  line_found k f = fed text k (λ j l e. f.0.before j (omega arith) l (eq-eqb _ _ e)) f.0.high (eqb-true _ _ f.1)

  pub last_found : 0 < length text → Nowhere (Passes (is_byte line_feed) text) 0 (length text)
      → lines_of text ≡ text ∷ lines_of (drop (length text) text)
  last_found s n =
      ended text (length text) (λ j l e. n j (omega arith) l (eq-eqb _ _ e)) s refl
      ∙ ap (λ l. l ∷ lines_of (drop (length text) text)) (take_all (length text) text (omega arith))

-- ------------------------------------------------------------------------
-- A text has no more lines than bytes

joined_length : (b : ℕ) (ls : List (List ℕ)) → length (joined b ls) ≤ suc (length ls)
joined_length b [] = omega arith
joined_length b (l ∷ ls) = omega arith

one_more : (b : ℕ) (text : List ℕ) (feed : Bool) → length (lines_of text) ≤ length text
    → length (cond feed ([] ∷ lines_of text) (joined b (lines_of text))) ≤ suc (length text)
one_more b text true h = omega arith
one_more b text false h = omega (arith, joined_length b (lines_of text))

pub few_lines : (text : List ℕ) → length (lines_of text) ≤ length text
unfolding lines_of
few_lines [] = omega arith
few_lines (b ∷ text) = one_more b text (eqb b line_feed) (few_lines text)

-- ------------------------------------------------------------------------
-- Room: of the first line and of those behind it

pub room_line : {all : List (List ℕ)} {line : List ℕ} {left : List (List ℕ)} → all ≡ line ∷ left
    → room_for_all all ≡ room_for line + room_for_all left
unfolding room_for_all
room_line e = ap room_for_all e

pub room_none : {all : List (List ℕ)} → all ≡ [] → room_for_all all ≡ 0
unfolding room_for_all
room_none e = ap room_for_all e

pub no_lines : (text : List ℕ) → length text ≡ 0 → lines_of text ≡ []
unfolding lines_of
no_lines [] e = refl
no_lines (b ∷ text) e = absurd (omega arith)
