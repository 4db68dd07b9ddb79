-- The head of a slot, by which a KeyUID is looked for: in a sound loaded slot
-- it is the head of the slot's KeyUID, and only an equal KeyUID has the same.
-- Assumes nothing.
use mathlib.Core.Path.{◌≡◌, refl, sym, ap, ◌∙◌}
use mathlib.Core.Bool.{Bool, true, false, not, ◌&&◌, true≢false}
use mathlib.Core.List.{List, ◌∷◌, ◌++◌}
use mathlib.Core.Logic.{by_cases}
use Prim.Native.Nat.{ℕ, ◌+◌, ◌-◌, ◌≤◌, ◌<◌}
use native.Mathlib.Decide.{dec_lt}
use native.Mathlib.Omega.{arith}
use lib.ListN.{length, get_or, drop, length-append, length-take}
use borrow.Author.Tests.{not-false, eqb-true}
use Rattle.cells.specs.Cells.{part, zeros}
use Rattle.cells.specs.Predicates.{same, all_zero}
use Rattle.cells.proofs.CellsLaws.{part_join, part_byte, length_part, get_d_part}
use Rattle.cells.proofs.PredicatesLaws.{same_refl, same_eq, all_zero_eq, true_or_false}
use Rattle.rules.specs.Numbers.{uid_most, slot_width}
use Rattle.rules.specs.Slots.{Contents, padded, uid_length, empty, uid_of, key_of}
use Rattle.rules.proofs.OtherKeyLaws.{other_key_in}
use Rattle.rules.specs.Sound.{after_uid, slot_unsound}
use Rattle.rules.proofs.SlotsLaws.{padded_eq}
use Rattle.rules.proofs.SoundLaws.{long_is, rest_is}
use Rattle.slots.specs.Cache.{head_size, head_of, head_bytes, other_key_behind}

-- ------------------------------------------------------------------------
-- Equal heads

head_eq : (a b : List ℕ) → head_bytes a ≡ head_bytes b → a ≡ b
unfolding head_bytes
head_eq a b e =
    let n : length a ≡ length b = cc in
    let p : padded uid_most a ≡ padded uid_most b = cc in
    padded_eq uid_most a b n p

agree : (a b : Bool) → (a ≡ true → b ≡ true) → (b ≡ true → a ≡ true) → a ≡ b
agree true b f g = sym (f refl)
agree false true f g = g refl
agree false false f g = refl

pub same_heads : (a b : List ℕ) → same (head_bytes a) (head_bytes b) ≡ same a b
same_heads a b =
    agree _ _
    (λ e. rw (head_eq a b (same_eq _ _ e)) (same_refl b))
    (λ e. rw (same_eq a b e) (same_refl (head_bytes b)))

module _ (uid c : List ℕ) where
  -- no slot has room for the head of a long KeyUID
  pub long_head : uid_most < length uid → same (head_of c) (head_bytes uid) ≡ false
  unfolding part head_bytes padded
  long_head h =
      true_or_false _ (λ e.
      let l = ap length (same_eq _ _ e) in
      omega (arith, length-take head_size (drop 0 c), length-append uid (zeros (uid_most - length uid))))

  -- and an empty slot has the head of none
  pub empty_head : 1 ≤ length uid → empty c ≡ true → same (head_of c) (head_bytes uid) ≡ false
  unfolding head_bytes
  empty_head h e =
      true_or_false _ (λ q.
      let l : get_or (head_of c) 0 0 ≡ length uid = ap (λ x. get_or x 0 0) (same_eq _ _ q) in
      let z : uid_length c ≡ 0 = eqb-true (uid_length c) 0 e in
      absurd (omega (arith, get_d_part 0 head_size 0 c (omega arith))))

-- ------------------------------------------------------------------------
-- A sound loaded slot

module _ (c : List ℕ) (whole : length c ≡ slot_width) (sound : slot_unsound false c ≡ false) (full : empty c ≡ false) where
  short : uid_length c ≤ uid_most
  short = by_cases (dec_lt uid_most (uid_length c)) (λ l. absurd (true≢false (long_is c false full l ∙ sound))) (λ l. omega arith)

  uid_whole : length (uid_of c) ≡ uid_length c
  unfolding uid_of
  uid_whole = length_part 1 (uid_length c) c (omega (arith, short))

  pad_zero : after_uid c ≡ zeros (uid_most - uid_length c)
  pad_zero =
      all_zero_eq (after_uid c) (uid_most - uid_length c)
      (length_part (1 + uid_length c) (uid_most - uid_length c) c (omega (arith, short)))
      (not-false (all_zero (after_uid c)) (rest_is c full short ∙ sound))

  pub sound_head : head_of c ≡ head_bytes (uid_of c)
  unfolding head_bytes padded uid_of
  sound_head =
      let n : ℕ = uid_length c in
      let e : uid_most ≡ n + (uid_most - n) = omega (arith, short) in
      part_join 0 1 uid_most c
      ∙ ap (λ z. z ++ part 1 uid_most c) (part_byte 0 c (omega arith))
      ∙ ap (λ z. n ∷ z) (ap (λ k. part 1 k c) e ∙ part_join 1 n (uid_most - n) c ∙ ap (λ z. part 1 n c ++ z) pad_zero)
      ∙ ap (λ k. k ∷ (uid_of c ++ zeros (uid_most - k))) (sym uid_whole)

  pub sound_behind : (x : Contents) → other_key_behind (head_bytes x.uid) x.key c ≡ other_key_in x c
  unfolding other_key_behind other_key_in
  sound_behind x =
      let e : same (head_of c) (head_bytes x.uid) ≡ same (uid_of c) x.uid =
      ap (λ h. same h (head_bytes x.uid)) sound_head ∙ same_heads (uid_of c) x.uid in
      ap (λ b. b && not (same (key_of c) x.key)) e
      ∙ sym (ap (λ b. not b && same (uid_of c) x.uid && not (same (key_of c) x.key)) full)
