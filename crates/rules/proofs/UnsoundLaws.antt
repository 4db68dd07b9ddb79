-- A state is unsound for one of the paper's causes, and for no other.
-- Assumes nothing.
use mathlib.Core.Path.{◌≡◌, refl, sym, ap, ◌∙◌}
use mathlib.Core.Bool.{Bool, true, false, not, ◌&&◌, ◌||◌, true≢false}
use mathlib.Core.List.{List, [], ◌∷◌}
use Prim.Native.Nat.{ℕ, suc, ◌+◌, ◌-◌, ◌≤◌, ◌<◌}
use native.Mathlib.Omega.{arith}
use lib.ListN.{length, get_or}
use lib.Dec.{leb, ltb}
use borrow.Author.Tests.{eqb-true, eqb-false, eq-eqb, ne_eqb, ltb-true, lt-ltb, leb-true, le-leb}
use Rattle.cells.specs.Cells.{cell}
use Rattle.cells.specs.Predicates.{all_zero, some_cell}
use Rattle.cells.proofs.CellsLaws.{get_d_part, length_part_le}
use Rattle.cells.proofs.PredicatesLaws.{and_left, and_right, or_left, or_right, false_or_true, some_then, nonzero_then, zero_at}
use Rattle.rules.specs.Numbers.{pool_slots, tags_most, uid_most, slot_width, slot_places, cache_size}
use Rattle.rules.specs.declared.Tag.{Tag}
use Rattle.rules.specs.State.{State, wrong_cache, count, total}
use Rattle.rules.specs.View.{view_of, tag_above}
use Rattle.rules.specs.Slots.{namespace_at, tag_at, slot, empty, loaded, uid_length}
use Rattle.rules.specs.Sound.{some_above, after_uid, slot_unsound, unsound}
use Rattle.rules.specs.Promises.{UnsoundSlot, unallocated, too_long, behind_uid, in_empty, Unsound, another_length, allocation, sum, in_slot}
use Rattle.rules.specs.Promises.{UnsoundWhen}
use Rattle.rules.proofs.SlotsLaws.{slot_at, place_at}
use Rattle.rules.proofs.SoundLaws.{neither_not, above_none, sound_cache, sound_counts, sound_total, sound_slot}

-- one of four tests holds
four : (a b c d : Bool) {T : Type 0} → a || b || c || d ≡ true
    → (a ≡ true → T) → (b ≡ true → T) → (c ≡ true → T) → (d ≡ true → T) → T
four true b c d e p q r s = p refl
four false true c d e p q r s = q refl
four false false true d e p q r s = r refl
four false false false d e p q r s = s e

not_true_is : (b : Bool) → not b ≡ true → b ≡ false
not_true_is true e = absurd (true≢false (sym e))
not_true_is false e = refl

-- ------------------------------------------------------------------------
-- A slot

module _ (tags : ℕ) (tag : Tag) (c : List ℕ) where
  abbrev above : Bool
  above = leb tags tag.0

  some_uid : loaded c ≡ true → 1 ≤ uid_length c
  some_uid l = let n = eqb-false (uid_length c) 0 (not_true_is (empty c) l) in omega arith

  slot_cause : slot_unsound above c ≡ true → UnsoundSlot tags tag c
  unfolding slot_unsound
  slot_cause e =
      four (loaded c && above) (loaded c && ltb uid_most (uid_length c)) (loaded c && not (all_zero (after_uid c))) (empty c && not (all_zero c)) e
      (λ p. unallocated (some_uid (and_left (loaded c) above p)) (leb-true tags tag.0 (and_right (loaded c) above p)))
      (λ p. too_long (ltb-true uid_most (uid_length c) (and_right (loaded c) _ p)))
      (λ p. after (and_left (loaded c) _ p) (nonzero_then (after_uid c) (not_true_is _ (and_right (loaded c) _ p))))
      (λ p. inside (and_left (empty c) _ p) (nonzero_then c (not_true_is _ (and_right (empty c) _ p))))
    where
      after : loaded c ≡ true → (i : ℕ) × ((i < length (after_uid c)) × (get_or (after_uid c) i 0 ≡ 0 → ⊥)) → UnsoundSlot tags tag c
      after l f =
          let i : ℕ = f.0 in
          let small : i < uid_most - uid_length c = omega (arith, f.1.0, length_part_le (1 + uid_length c) (uid_most - uid_length c) c) in
          let at : 1 + (uid_length c + i) ≡ 1 + uid_length c + i = omega arith in
          behind_uid (some_uid l) (uid_length c + i) (omega arith) (omega arith)
          (λ z. f.1.1 (get_d_part (1 + uid_length c) (uid_most - uid_length c) i c small ∙ ap (λ k. get_or c k 0) (sym at) ∙ z))

      inside : empty c ≡ true → (i : ℕ) × ((i < length c) × (get_or c i 0 ≡ 0 → ⊥)) → UnsoundSlot tags tag c
      inside e f = in_empty (eqb-true (uid_length c) 0 e) f.0 f.1.1

  -- a sound slot has none of them
  module _ (sound : slot_unsound above c ≡ false) where
    parts : (loaded c && above || loaded c && ltb uid_most (uid_length c) || loaded c && not (all_zero (after_uid c)) ≡ false)
        × (empty c && not (all_zero c) ≡ false)
    unfolding slot_unsound
    parts = (
      or_left _ (empty c && not (all_zero c)) sound,
      or_right (loaded c && above || loaded c && ltb uid_most (uid_length c) || loaded c && not (all_zero (after_uid c))) _ sound,
    )

    is_loaded : 1 ≤ uid_length c → loaded c ≡ true
    is_loaded h = ap not (ne_eqb (uid_length c) 0 (omega arith))

    both : (a b : Bool) → a ≡ true → b ≡ true → a && b ≡ false → ⊥
    both a b p q e = true≢false (sym (rw (p, q)) ∙ e)

    no_cause : UnsoundSlot tags tag c → ⊥
    no_cause (unallocated h a) =
        both (loaded c) above (is_loaded h) (le-leb tags tag.0 a) (or_left _ _ (or_left _ _ parts.0))
    no_cause (too_long h) =
        both (loaded c) (ltb uid_most (uid_length c)) (is_loaded (omega arith)) (lt-ltb uid_most (uid_length c) h)
        (or_right (loaded c && above) _ (or_left _ _ parts.0))
    no_cause (behind_uid h i from to n) =
        let zero_after : all_zero (after_uid c) ≡ true = neither_not (loaded c) (all_zero (after_uid c))
        (or_right (loaded c && above || loaded c && ltb uid_most (uid_length c)) _ parts.0) (is_loaded h) in
        let k : ℕ = i - uid_length c in
        let at : 1 + uid_length c + k ≡ 1 + i = omega arith in
        n (ap (λ j. get_or c j 0) (sym at) ∙ sym (get_d_part (1 + uid_length c) (uid_most - uid_length c) k c (omega arith))
        ∙ zero_at (after_uid c) zero_after k)
    no_cause (in_empty z i n) =
        n (zero_at c (neither_not (empty c) (all_zero c) parts.1 (eq-eqb (uid_length c) 0 z)) i)

-- ------------------------------------------------------------------------
-- A state

above_then : (most : ℕ) (xs : List ℕ) → some_above most xs ≡ true → (i : ℕ) × (most < get_or xs i 0)
unfolding some_above
above_then most [] e = absurd (true≢false (sym e))
above_then most (x ∷ xs) e = by (ltb most x) refl e (above_then most xs)
  where
    by : (b : Bool) → ltb most x ≡ b → b || some_above most xs ≡ true → (some_above most xs ≡ true → (i : ℕ) × (most < get_or xs i 0))
        → (i : ℕ) × (most < get_or (x ∷ xs) i 0)
    by true t e more = (0, ltb-true most x t)
    by false t e more = let m = more e in (suc m.0, m.1)

module _ (s : State) where
  abbrev test : ℕ → List ℕ → Bool
  test place c = slot_unsound (tag_above (view_of s) (namespace_at place) (tag_at place)) c

  found : (k : ℕ) × ((k < slot_places) × (test (0 + k) (cell slot_width (0 + k) s.keys) ≡ true)) → Unsound s
  found f =
      let k : ℕ = f.0 in
      let ns = namespace_at k in
      let tag = tag_at k in
      let z : 0 + k ≡ k = omega arith in
      in_slot ns tag (slot_at k f.1.0)
      (slot_cause (count s ns) tag (slot s ns tag) (ap (λ i. test k (cell slot_width i s.keys)) (place_at k) ∙ (rw z at f.1.1)))

  cause : unsound s ≡ true → Unsound s
  unfolding unsound
  cause e =
      four (wrong_cache s.keys) (some_above tags_most s.registers.counts) (ltb pool_slots (total s.registers.counts))
      (some_cell slot_width 0 slot_places test s.keys) e
      (λ p. another_length (eqb-false (length s.keys) cache_size (not_true_is _ p)))
      (λ p. let a = above_then tags_most s.registers.counts p in allocation a.0 a.1)
      (λ p. sum (ltb-true pool_slots _ p))
      (λ p. found (some_then slot_width test slot_places 0 s.keys p))

  refuted : unsound s ≡ false → Unsound s → ⊥
  refuted sound (another_length n) = n (sound_cache s sound)
  refuted sound (allocation i h) = omega (arith, above_none tags_most s.registers.counts (sound_counts s sound) i)
  refuted sound (sum h) = omega (arith, sound_total s sound)
  refuted sound (in_slot ns tag is u) = no_cause (count s ns) tag (slot s ns tag) (sound_slot s sound ns tag is) u

pub unsound_when : UnsoundWhen
unsound_when s = (cause s, λ u. false_or_true (unsound s) (λ sound. refuted s sound u))
