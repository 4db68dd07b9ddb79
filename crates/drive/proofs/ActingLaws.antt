-- Rules taken apart as the code takes them: a line as what was read of it, the
-- shared checks first, then what is done at the place that they lead to.
-- Assumes nothing.
use Rattle.std.proofs.Common.{◌≡◌, ℕ, ◌+◌, ◌-◌, ◌/◌, ◌<◌, ◌≤◌, Bool, true, false, not, ◌&&◌, List, [], ◌∷◌, ◌++◌}
use Rattle.std.proofs.Common.{length, take, drop, sym, refl, ap, ◌∙◌, true≢false, arith, length-append, length-drop, length-take-le, take_at, drop_at}
use Rattle.cells.specs.Cells.{cell, zeros}
use Rattle.cells.specs.Predicates.{same}
use Rattle.cells.proofs.CellsLaws.{length_zeros, zeros_join, lent_length_to, back_rest}
use Rattle.rules.specs.declared.Namespace.{Namespace}
use Rattle.rules.specs.declared.Tag.{Tag}
use Rattle.rules.specs.declared.Registers.{Registers}
use Rattle.rules.specs.declared.Refusal.{Refusal}
use Rattle.rules.specs.Numbers.{slot_width, slot_places, cache_size, uid_most, key_size, digits_most}
use Rattle.rules.specs.View.{view_of, managed, tag_above, other_key}
use Rattle.rules.specs.Checks.{Check, ◌when◌, AllPass, Verdict, passed, refused, first_refusal, settle, judged}
use Rattle.rules.specs.Answers.{00·0B, 00·25, 07·06, 07·09, 07·0A, 07·0B, 07·0C}
use Rattle.rules.specs.State.{State, Outcome, refuse, obey, no_namespace, count}
use Rattle.rules.specs.Slots.{slot, Contents, place_of, empty, loaded, uid_of}
use Rattle.rules.specs.Sound.{unsound}
use Rattle.rules.specs.Effects.{store_key, empty_slot}
use Rattle.rules.specs.Order.{frame_rule, frame_of, reading_checks, line_rule, slot_checks, load, replace, clear_one, step}
use Rattle.rules.proofs.ChecksLaws.{then_pass, judged_append, judged_map}
use Rattle.rules.proofs.ViewLaws.{is_empty_lem, uid_held_lem}
use Rattle.rules.proofs.StateLaws.{is_namespace_lem, done}
use Rattle.rules.proofs.SlotsLaws.{place_small}
use Rattle.rules.proofs.SoundLaws.{sound_cache}
use Rattle.rules.proofs.EffectsLaws.{named_slot}
use Rattle.frames.specs.Reading.{frame, refusal, read_from}
use Rattle.frames.proofs.StayingLaws.{reading_stays}
use Rattle.std.specs.Prelude.{Result, Ok, Err}
use borrow.Author.Tests.{not-false}
use Rattle.drive.specs.Acting.{state, Sound, acted, counted, placed, located, put_at, load_at, replace_at, clear_at}

-- soundness does not look at the marks
pub sound_keys : (d : Registers) (keys marks : List ℕ) → unsound (state d keys marks) ≡ unsound (state d keys [])
unfolding unsound
sound_keys d keys marks = refl

-- the cache of a sound drive has the right length
pub cache_of : (d : Registers) (keys : List ℕ) → Sound d keys → length keys ≡ cache_size
cache_of d keys sound = sound_cache (state d keys []) sound

-- a line is what was read of it
pub line_acts : (s : State) (line : List ℕ) → acted s (judged (reading_checks line) refusal (frame (frame_of line))) ≡ step s line
unfolding line_rule
line_acts s line =
    judged_map (reading_checks line) (acted s) refusal (frame (frame_of line))
    ∙ sym (judged_append (reading_checks line) (frame_rule (view_of s) (frame_of line)).checks (refuse s) (done s (frame_rule (view_of s) (frame_of line))))

-- ------------------------------------------------------------------------
-- What `?` hands on; the place, or the refusal

pub passed_on : {A : Type 0} {e : Refusal} {r : Result A Refusal} → (y : Refusal) × (r ≡ Err y) × (y ≡ e) → r ≡ Err e
passed_on p = p.1 ∙ ap Err p.2

verdict_of : {A : Type 0} (v : Verdict Refusal) (p : A) (r : Refusal) → Err r ≡ settle v Err (Ok p) → v ≡ refused r
verdict_of passed p r e = absurd (let z : ◌≡◌ {A = ℕ} 0 1 = cc in omega arith)
verdict_of (refused q) p r e = let z : q ≡ r = cc in ap refused z

place_of_lem : {A : Type 0} (v : Verdict Refusal) (p q : A) → Ok q ≡ settle v Err (Ok p) → (v ≡ passed) × (q ≡ p)
place_of_lem passed p q e = (refl, cc)
place_of_lem (refused r) p q e = absurd (let z : ◌≡◌ {A = ℕ} 0 1 = cc in omega arith)

-- of the namespace: not managed, or its tag count
module _ (d : Registers) (keys marks : List ℕ) (ns : Namespace) where
  abbrev namespace_checks : List (Check Refusal)
  namespace_checks =
      00·0B when no_namespace ns
      ∷ 07·06 when not (managed (view_of (state d keys marks)) ns)
      ∷ []

  -- its refusal stands
  pub unmanaged_refused : {A : Type 0} (f : Refusal → A) (o : A) (r : Refusal) → Err r ≡ counted (state d [] []) ns
      → judged namespace_checks f o ≡ f r
  unfolding counted
  unmanaged_refused f o r e = ap (λ v. settle v f o) (verdict_of (first_refusal namespace_checks) (count (state d [] []) ns) r e)

  pub record Managed (n : ℕ) : Type 0 where
    pub named : no_namespace ns ≡ false
    pub held : managed (view_of (state d [] [])) ns ≡ true
    pub counts : n ≡ count (state d [] []) ns

  pub is_managed : (n : ℕ) → Ok n ≡ counted (state d [] []) ns → Managed n
  unfolding counted
  is_managed n e =
      let p = place_of_lem (first_refusal namespace_checks) (count (state d [] []) ns) n e in
      let all = then_pass namespace_checks p.0 in
      record { named = all.0; held = not-false _ all.1.0; counts = p.1 }

  module _ (tag : Tag) where
    located_by : located (state d keys marks) ns tag
        ≡ judged namespace_checks Err (judged (00·25 when tag_above (view_of (state d keys marks)) ns tag ∷ []) Err (Ok (place_of ns tag)))
    unfolding located
    located_by = judged_append namespace_checks (00·25 when tag_above (view_of (state d keys marks)) ns tag ∷ []) Err (Ok (place_of ns tag))

    pub locate_refused : (r : Refusal) → Err r ≡ counted (state d [] []) ns → Err r ≡ located (state d keys marks) ns tag
    locate_refused r e = sym (located_by ∙ unmanaged_refused Err _ r e)

    pub locate_managed : (n : ℕ) → Ok n ≡ counted (state d [] []) ns → placed n ns tag ≡ located (state d keys marks) ns tag
    unfolding placed
    locate_managed n e =
        let m = is_managed n e in
        ap (λ (k : ℕ). placed k ns tag) m.counts ∙ (rw (m.named, m.held)) ∙ sym located_by

module _ (d : Registers) (keys marks : List ℕ) (ns : Namespace) (tag : Tag) where
  abbrev s : State
  s = state d keys marks

  -- the shared checks' refusal stands
  pub refused_by : (r : Refusal) (o : Outcome) → Err r ≡ located (state d [] []) ns tag
      → judged (slot_checks (view_of s) ns tag) (refuse s) o ≡ refuse s r
  unfolding located
  refused_by r o e = ap (λ v. settle v (refuse s) o) (verdict_of (first_refusal (slot_checks (view_of s) ns tag)) (place_of ns tag) r e)

  -- or they pass, and the place is the slot's
  pub found_by : (q : ℕ) (f : ℕ → Outcome) → Ok q ≡ located (state d [] []) ns tag
      → judged (slot_checks (view_of s) ns tag) (refuse s) (f (place_of ns tag)) ≡ f q
  unfolding located
  found_by q f e =
      let p = place_of_lem (first_refusal (slot_checks (view_of s) ns tag)) (place_of ns tag) q e in
      ap (λ v. settle v (refuse s) (f (place_of ns tag))) p.0 ∙ ap f (sym p.1)

  pub found_passes : (q : ℕ) → Ok q ≡ located (state d [] []) ns tag → AllPass (slot_checks (view_of (state d [] [])) ns tag)
  unfolding located
  found_passes q e = then_pass (slot_checks (view_of s) ns tag) (place_of_lem (first_refusal (slot_checks (view_of s) ns tag)) (place_of ns tag) q e).0

  pub found_small : (q : ℕ) → Ok q ≡ located (state d [] []) ns tag → unsound (state d keys []) ≡ false → q < slot_places
  unfolding located
  found_small q e sound =
      let p = place_of_lem (first_refusal (slot_checks (view_of s) ns tag)) (place_of ns tag) q e in
      let pass = then_pass (slot_checks (view_of s) ns tag) p.0 in
      rw p.1 (place_small ns tag (named_slot (state d keys []) sound ns tag (is_namespace_lem ns pass.0) pass.1.1.0))

  -- load, replace and clear one: the refusal, or what is done at the place
  module _ (x : Contents) where
    load_by : obey s (load (view_of s) ns tag x) ≡ judged (slot_checks (view_of s) ns tag) (refuse s) (load_at s (place_of ns tag) x)
    unfolding load put_at load_at store_key
    load_by =
        rw (is_empty_lem (slot s ns tag))
        (judged_append (slot_checks (view_of s) ns tag) _ (refuse s) _
        ∙ ap (judged (slot_checks (view_of s) ns tag) (refuse s))
        (judged_append (07·09 when loaded (cell slot_width (place_of ns tag) keys) ∷ []) (07·0C when other_key (view_of s).slots x ∷ []) (refuse s) _))

    pub load_refused : (r : Refusal) → Err r ≡ located (state d [] []) ns tag → refuse s r ≡ obey s (load (view_of s) ns tag x)
    load_refused r e = sym (load_by ∙ refused_by r _ e)

    pub load_found : (q : ℕ) → Ok q ≡ located (state d [] []) ns tag → load_at s q x ≡ obey s (load (view_of s) ns tag x)
    load_found q e = sym (load_by ∙ found_by q (λ p. load_at s p x) e)

    module _ (old : List ℕ) where
      replace_by : obey s (replace (view_of s) ns tag old x) ≡ judged (slot_checks (view_of s) ns tag) (refuse s) (replace_at s (place_of ns tag) old x)
      unfolding replace put_at replace_at store_key
      replace_by =
          rw (is_empty_lem (slot s ns tag), uid_held_lem (slot s ns tag))
          (judged_append (slot_checks (view_of s) ns tag) _ (refuse s) _
          ∙ ap (judged (slot_checks (view_of s) ns tag) (refuse s))
          (judged_append
          (07·0A when empty (cell slot_width (place_of ns tag) keys) ∷ 07·0B when not (same (uid_of (cell slot_width (place_of ns tag) keys)) old) ∷ [])
          (07·0C when other_key (view_of s).slots x ∷ []) (refuse s) _))

      pub replace_refused : (r : Refusal) → Err r ≡ located (state d [] []) ns tag → refuse s r ≡ obey s (replace (view_of s) ns tag old x)
      replace_refused r e = sym (replace_by ∙ refused_by r _ e)

      pub replace_found : (q : ℕ) → Ok q ≡ located (state d [] []) ns tag → replace_at s q old x ≡ obey s (replace (view_of s) ns tag old x)
      replace_found q e = sym (replace_by ∙ found_by q (λ p. replace_at s p old x) e)

  clear_by : obey s (clear_one (view_of s) ns tag) ≡ judged (slot_checks (view_of s) ns tag) (refuse s) (clear_at s (place_of ns tag))
  unfolding clear_one clear_at empty_slot
  clear_by = rw (is_empty_lem (slot s ns tag)) (judged_append (slot_checks (view_of s) ns tag) _ (refuse s) _)

  pub clear_refused : (r : Refusal) → Err r ≡ located (state d [] []) ns tag → refuse s r ≡ obey s (clear_one (view_of s) ns tag)
  clear_refused r e = sym (clear_by ∙ refused_by r _ e)

  pub clear_found : (q : ℕ) → Ok q ≡ located (state d [] []) ns tag → clear_at s q ≡ obey s (clear_one (view_of s) ns tag)
  clear_found q e = sym (clear_by ∙ found_by q (λ p. clear_at s p) e)

-- of a loaded slot, whether it holds a KeyUID is whether the KeyUID is the same
pub uid_only : (e s r : Bool) → r ≡ not e && s → e ≡ false → s ≡ r
uid_only true s r h n = absurd (true≢false n)
uid_only false s r h n = sym h

-- ------------------------------------------------------------------------
-- The frame of a line: zeros, what reading left, and zeros again

rest_of_zeros : (n m : ℕ) → n ≤ m → drop n (zeros m) ≡ zeros (m - n)
rest_of_zeros n m h =
    let e : n + (m - n) ≡ m = omega arith in
    ap (drop n) (ap zeros (sym e) ∙ sym (zeros_join n (m - n))) ∙ drop_at (zeros n) (zeros (m - n)) n (length_zeros n)

abbrev blank : List ℕ
blank = zeros (digits_most / 2)

pub wiped : (line f : List ℕ) (n : ℕ) {z : List ℕ} → length line / 2 ≤ n → 5 + uid_most + key_size ≤ n → n ≤ digits_most / 2
    → z ≡ zeros (length (take n f)) → length f ≡ digits_most / 2 → drop n f ≡ drop n (read_from line blank).frame → z ++ drop n f ≡ blank
wiped line f n digits loads inside e size left =
    let k : n + (digits_most / 2 - n) ≡ digits_most / 2 = omega arith in
    let stays : drop n f ≡ zeros (digits_most / 2 - n) =
    left
    ∙ reading_stays line blank n (λ h. digits) loads (omega (arith, length_zeros (digits_most / 2)))
    ∙ rest_of_zeros n (digits_most / 2) inside in
    rw (e, length-take-le n f (omega arith), stays) (zeros_join n (digits_most / 2 - n) ∙ ap zeros k)

-- and the rest, where it was filled
pub wiped_all : (f : List ℕ) (n : ℕ) {z y : List ℕ} → n ≤ digits_most / 2 → length f ≡ digits_most / 2 → z ≡ zeros (length (take n f))
    → y ≡ zeros (length (take (length (z ++ drop n f) - n) (drop n (z ++ drop n f))))
    → take n (z ++ drop n f) ++ (y ++ drop (length (z ++ drop n f) - n) (drop n (z ++ drop n f))) ≡ blank
wiped_all f n {z} {y} inside size e d =
    let g : List ℕ = z ++ drop n f in
    let k : n + (digits_most / 2 - n) ≡ digits_most / 2 = omega arith in
    let lz : length z ≡ n = ap length e ∙ length_zeros (length (take n f)) ∙ length-take-le n f (omega arith) in
    let lg : length g ≡ digits_most / 2 = length-append z (drop n f) ∙ simp length-drop (omega arith) in
    let y-is : y ≡ zeros (digits_most / 2 - n) = d ∙ ap zeros (lent_length_to n (length g) g (omega arith) ∙ ap (λ m. m - n) lg) in
    let z-is : z ≡ zeros n = e ∙ ap zeros (length-take-le n f (omega arith)) in
    back_rest n y g
    ∙ ap (λ t. t ++ y) (take_at z (drop n f) n lz ∙ z-is)
    ∙ ap (λ t. zeros n ++ t) y-is
    ∙ zeros_join n (digits_most / 2 - n)
    ∙ ap zeros k
