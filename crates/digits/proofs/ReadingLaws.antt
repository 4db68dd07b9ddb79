-- The first bad digit, found by a walk from the front; the largest value on the
-- way; pairs of digits, decoded one after the other.
-- Assumes nothing.
use Rattle.std.proofs.Common.{◌≡◌, ℕ, suc, ◌+◌, ◌-◌, ◌*◌, ◌/◌, ◌%◌, ◌<◌, ◌≤◌, Bool, true, false, cond, ltb, List}
use Rattle.std.proofs.Common.{[], ◌∷◌, ◌++◌, length, get_or, take, drop, set, sym}
use Rattle.std.proofs.Common.{refl, ap, ◌∙◌, append_assoc, append-nil, add-one, arith, length-drop}
use Rattle.std.proofs.Common.{drop_of_length-le, length-take-le, take_all, drop-cons, take-suc, le-ltb}
use Rattle.std.specs.Prelude.{not, Some, None, position, max, slice_get}
use Rattle.std.proofs.lemmas.List.{drop_more, get_or-drop}
use Rattle.std.proofs.lemmas.Option.{get_or_from_slice_get}
use Rattle.std.proofs.lemmas.List.Recursion.{is_position_or_len}
use mathlib.Core.Logic.{by_cases}
use native.Mathlib.Decide.{dec_lt}
use Rattle.cells.proofs.CellsLaws.{grow}
use Rattle.rules.specs.FrameLine.{is_digit, value_of, first_bad, decoded}
use Rattle.digits.specs.Decoding.{Valued, bad_digit}
use Rattle.digits.specs.Digits.{framed}

-- ------------------------------------------------------------------------
-- The first bad digit as `position` finds it

pub position_is : (line : List ℕ) → position (λ d. not (is_digit d)) line ≡ bad_digit line
unfolding first_bad
position_is line =
    ap (λ n. cond (ltb n (length line)) (Some n) None)
    (sym (is_position_or_len first_bad (λ d. not (is_digit d)) refl (λ d ds. swapped (is_digit d) (first_bad ds)) line))
  where
    swapped : (b : Bool) (n : ℕ) → cond b (suc n) 0 ≡ cond (not b) 0 (1 + n)
    swapped true n = omega arith
    swapped false n = refl

some_if : (b : Bool) (x n : ℕ) → Some x ≡ cond b (Some n) None → (b ≡ true) × (x ≡ n)
some_if true x n e = (refl, cc)
some_if false x n e = cc

none_if : (b : Bool) (n : ℕ) → None ≡ cond b (Some n) None → b ≡ false
none_if true n e = cc
none_if false n e = refl

pub bad_at : (line : List ℕ) (place : ℕ) → Some place ≡ bad_digit line → (ltb (first_bad line) (length line) ≡ true) × (place ≡ first_bad line)
bad_at line place e = some_if _ place _ e

pub none_bad : (line : List ℕ) → None ≡ bad_digit line → ltb (first_bad line) (length line) ≡ false
none_bad line e = none_if _ _ e

pub ruleset bad_digits = (bad_at, none_bad)

-- ------------------------------------------------------------------------
-- The walk: no digit before k is bad, so that what is left from k decides

abbrev pub CleanTo : List ℕ → ℕ → Type 0
CleanTo line k = k + first_bad (drop k line) ≡ first_bad line

module _ (line : List ℕ) (k : ℕ) (clean : CleanTo line k) where
  clean_more : k < length line → is_digit (get_or line k 0) ≡ true → CleanTo line (k + 1)
  unfolding first_bad
  clean_more h e =
      let s : first_bad (drop k line) ≡ first_bad (drop (k + 1) line) + 1 = rw (drop-cons line k 0 h, e, add-one k, add-one) in
      omega arith

  clean_stop : k < length line → is_digit (get_or line k 0) ≡ false → k ≡ first_bad line
  unfolding first_bad
  clean_stop h e = let s : first_bad (drop k line) ≡ 0 = rw (drop-cons line k 0 h, e) in omega arith

  clean_end : length line ≤ k → k ≡ first_bad line
  unfolding first_bad
  clean_end h = let s : first_bad (drop k line) ≡ 0 = rw (drop_of_length-le line h) in omega arith

-- ------------------------------------------------------------------------
-- The largest value so far: up to 15 while no digit was bad

abbrev pub Watched : List ℕ → ℕ → ℕ → Type 0
Watched line k worst = (worst ≤ 15 → CleanTo line k) × (15 < worst → first_bad line < k)

module _ (line : List ℕ) (k worst : ℕ) (seen : Watched line k worst) where
  -- one digit more
  pub watch_more : (v : ℕ) → k < length line → Valued (get_or line k 0) v → Watched line (k + 1) (max worst v)
  watch_more v h w = (
    λ good. clean_more line k (seen.0 (omega arith)) h (w.good (omega arith)),
    λ bad.
        by_cases (dec_lt 15 worst)
        (λ before. omega (arith, seen.1 before))
        (λ clean. omega (arith, clean_stop line k (seen.0 (omega arith)) h (w.bad (omega arith)))),
  )

  -- none is left
  pub watched_all : k ≡ length line → worst ≤ 15 → None ≡ bad_digit line
  watched_all e good = rw (le-ltb (first_bad line) (length line) (omega (arith, clean_end line k (seen.0 good))))

-- ------------------------------------------------------------------------
-- Pairs of digits

pub length_decoded : (line : List ℕ) → length (decoded line) ≡ length line / 2
unfolding decoded
length_decoded [] = refl
length_decoded (a ∷ []) = refl
length_decoded (a ∷ b ∷ line) = omega (arith, length_decoded line)

-- where the first of two texts is all pairs
decoded_append : (p q : List ℕ) → length p % 2 ≡ 0 → decoded (p ++ q) ≡ decoded p ++ decoded q
unfolding decoded
decoded_append [] q e = refl
decoded_append (a ∷ []) q e = absurd (omega arith)
decoded_append (a ∷ b ∷ p) q e = ap (λ l. (value_of a * 16 + value_of b) ∷ l) (decoded_append p q (omega arith))

module _ (line : List ℕ) (i : ℕ) where
  front : i * 2 ≤ length line → length (take (i * 2) line) ≡ i * 2
  front h = length-take-le (i * 2) line h

  next_pair : i * 2 + 1 < length line
      → decoded (take ((i + 1) * 2) line)
      ≡ decoded (take (i * 2) line) ++ ((value_of (get_or line (i * 2) 0) * 16 + value_of (get_or line (i * 2 + 1) 0)) ∷ [])
  unfolding decoded
  next_pair h =
      let x : ℕ = get_or line (i * 2) 0 in
      let y : ℕ = get_or line (i * 2 + 1) 0 in
      let e : (i + 1) * 2 ≡ suc (i * 2 + 1) = omega arith in
      let t : take (i * 2 + 1) line ≡ take (i * 2) line ++ (x ∷ []) = rw (add-one (i * 2)) (take-suc line (i * 2) 0 (omega arith)) in
      rw (e, take-suc line (i * 2 + 1) 0 h, t, append_assoc)
      (decoded_append (take (i * 2) line) (x ∷ y ∷ []) (omega (arith, front (omega arith))))

  -- a digit without its fellow gives no byte
  lone_digit : i * 2 < length line → decoded (take (suc (i * 2)) line) ≡ decoded (take (i * 2) line)
  unfolding decoded
  lone_digit h =
      rw (take-suc line (i * 2) 0 h)
      (decoded_append (take (i * 2) line) (get_or line (i * 2) 0 ∷ []) (omega (arith, front (omega arith)))
      ∙ append-nil (decoded (take (i * 2) line)))

  -- a turn: i bytes are done, and the next goes to place i
  pub decode_turn : (frame : List ℕ) → i * 2 + 1 < length line → i < length frame
      → set (decoded (take (i * 2) line) ++ drop i frame) i (value_of (get_or line (i * 2) 0) * 16 + value_of (get_or line (i * 2 + 1) 0))
      ≡ decoded (take ((i + 1) * 2) line) ++ drop (i + 1) frame
  decode_turn frame h k =
      rw (next_pair h)
      (grow (decoded (take (i * 2) line)) frame i _ (omega (arith, length_decoded (take (i * 2) line), front (omega arith))) k)

  -- the end: no pair is left
  pub decode_end : (frame : List ℕ) → i ≡ length line / 2 → decoded (take (i * 2) line) ++ drop i frame ≡ framed line frame
  decode_end frame e =
      by_cases (dec_lt (i * 2) (length line))
      (λ odd. rw (← e, ← lone_digit odd, take_all (suc (i * 2)) line (omega arith)))
      (λ even. rw (← e, take_all (i * 2) line (omega arith)))

-- ------------------------------------------------------------------------
-- The loop: i pairs are taken off the line, which has the rest

pub record Paired (line frame₀ frame rest : List ℕ) (i worst : ℕ) : Type 0 where
  pub left : rest ≡ drop (i * 2) line
  pub reach : i * 2 ≤ length line
  pub written : frame ≡ decoded (take (i * 2) line) ++ drop i frame₀
  pub watched : Watched line (i * 2) worst

pub paired_start : (line frame rest : List ℕ) (i : ℕ) → rest ≡ line → i ≡ 0 → Paired line frame frame rest i 0
unfolding decoded
paired_start line frame rest i is zero =
    rw (is, zero) (record { left = refl; reach = omega arith; written = refl; watched = (λ _. omega arith, λ z. absurd (omega arith)) })

none_first : (l : List ℕ) → None ≡ slice_get l 0 → length l ≡ 0
none_first [] e = refl
none_first (d ∷ l) e = cc

some_first : (l : List ℕ) (d : ℕ) → Some d ≡ slice_get l 0 → 0 < length l
some_first [] d e = cc
some_first (x ∷ l) d e = omega arith

module _ (line frame₀ : List ℕ) {frame rest : List ℕ} {i worst : ℕ} (p : Paired line frame₀ frame rest i worst) where
  pub pair_turn : (pair more : List ℕ) (high low : ℕ) → rest ≡ pair ++ more → length pair ≡ 2 → length line / 2 ≤ length frame₀
      → Valued (get_or pair 0 0) high → Valued (get_or pair 1 0) low
      → Paired line frame₀ (set frame i (high % 16 * 16 + low % 16)) more (i + 1) (max (max worst high) low)
  pair_turn [] more high low taken two room h l = absurd (omega arith)
  pair_turn (a ∷ []) more high low taken two room h l = absurd (omega arith)
  pair_turn (a ∷ b ∷ c ∷ pair) more high low taken two room h l = absurd (omega arith)
  pair_turn (a ∷ b ∷ []) more high low taken two room h l =
      let k : ℕ = i * 2 in
      let at : a ∷ b ∷ more ≡ drop k line = sym taken ∙ p.left in
      let size : suc (suc (length more)) ≡ length line - k = ap length at ∙ length-drop k line in
      let fits : k + 1 < length line = omega (arith, p.reach) in
      let next : (i + 1) * 2 ≡ k + 1 + 1 = omega arith in
      let first : drop k line ≡ get_or line k 0 ∷ drop (k + 1) line = drop_more line k 0 (omega arith) in
      let second : drop (k + 1) line ≡ get_or line (k + 1) 0 ∷ drop (k + 1 + 1) line = drop_more line (k + 1) 0 fits in
      let a_is : a ≡ get_or line k 0 = cc in
      let b_is : b ≡ get_or line (k + 1) 0 = cc in
      let more_is : more ≡ drop (k + 1 + 1) line = cc in
      record {
        left = rw next more_is;
        reach = omega arith;
        written =
            ap (λ f. set f i (high % 16 * 16 + low % 16)) p.written
            ∙ (rw (h.low, l.low, a_is, b_is) (decode_turn line i frame₀ fits (omega arith)));
        watched = rw next (watch_more line (k + 1) _ (watch_more line k worst p.watched high (omega arith) (rw a_is at h)) low fits (rw b_is at l));
      }

  module _ (done : length rest < 2) where
    abbrev last_pair : i ≡ length line / 2
    last_pair = let size : length rest ≡ length line - i * 2 = ap length p.left ∙ length-drop (i * 2) line in omega (arith, p.reach)

    pub pair_end : frame ≡ framed line frame₀
    pair_end = p.written ∙ decode_end line i frame₀ last_pair

    module _ (lone : List ℕ) (is : lone ≡ drop (length line - length line % 2) line) where
      size : length lone ≡ length line % 2
      size = ap length is ∙ (rw (length-drop (length line - length line % 2) line) (omega arith))

      pub all_pairs : None ≡ slice_get lone 0 → Watched line (length line) worst
      all_pairs none = let e : length line ≡ i * 2 = omega (arith, size, last_pair, none_first lone none) in rw e p.watched

      pub with_lone : (d v : ℕ) → Some d ≡ slice_get lone 0 → Valued d v → Watched line (length line) (max worst v)
      with_lone d v some w =
          let e : length line ≡ i * 2 + 1 = omega (arith, size, last_pair, some_first lone d some) in
          let k : length line - length line % 2 + 0 ≡ i * 2 = omega (arith, size) in
          let at : d ≡ get_or line (i * 2) 0 =
          sym (get_or_from_slice_get lone 0 d 0 (sym some)) ∙ ap (λ (l : List ℕ). get_or l 0 0) is
          ∙ get_or-drop (length line - length line % 2) line 0 0 ∙ ap (λ n. get_or line n 0) k in
          rw e (watch_more line (i * 2) worst p.watched v (omega arith) (rw at at w))
