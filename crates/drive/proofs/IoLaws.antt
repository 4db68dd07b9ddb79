-- I/O: where a known command leads, as an outcome; and the kept identity of a
-- slot's key, which is the front of the slot's bytes.
-- Assumes nothing.
use Rattle.std.proofs.Common.{◌≡◌, ℕ, ◌+◌, ◌-◌, ◌*◌, ◌<◌, ◌≤◌, Bool, true, false, cond, not, ◌&&◌, ◌||◌, ltb, leb, List}
use Rattle.std.proofs.Common.{[], ◌∷◌, ◌++◌, length, take, sym, refl, ap, ◌∙◌, ⊎_elim, true≢false, append-nil, add-zero, arith}
use Rattle.std.proofs.Common.{length-take-le, take_all, ltb-false, eq-eqb, ne_eqb, eqb-true, le-leb}
use mathlib.Core.Logic.{by_cases}
use native.Mathlib.Decide.{dec_lt}
use lib.Seq.{take-append-le, take-append-add}
use Rattle.cells.specs.Cells.{part, cell, zeros}
use Rattle.cells.proofs.CellsLaws.{length_cell, part_zeros, part_part, part_cell}
use Rattle.cells.proofs.PredicatesLaws.{true_or_false}
use Rattle.rules.specs.declared.Command.{Command}
use Rattle.rules.specs.declared.Registers.{Registers}
use Rattle.rules.specs.declared.Refusal.{Refusal}
use Rattle.std.specs.Prelude.{Option, Some, None, Result, Ok, Err}
use Rattle.rules.specs.declared.Granted.TheVariants.{Done}
use Rattle.rules.specs.Numbers.{blocks_each, uid_most, slot_width, slot_places, mark_width, mark_places, store_size}
use Rattle.rules.specs.View.{view_of, managed, tag_above}
use Rattle.rules.specs.Checks.{Check, ◌when◌, Verdict, passed, refused, first_refusal, settle, judged, only_if, AllPass}
use Rattle.rules.specs.Answers.{00·01, 00·02, 00·0B, 00·25, 00·28, 00·80}
use Rattle.rules.specs.State.{State, Outcome, refuse, obey, no_namespace, count, IsNamespace}
use Rattle.rules.specs.Slots.{place_of, slot, padded, empty, uid_of, held, IsSlot}
use Rattle.rules.specs.Marks.{block_of, kept_identity, identity_of}
use Rattle.rules.specs.Sound.{slot_unsound, unsound}
use Rattle.rules.specs.Effects.{mark_covered, only_when}
use Rattle.rules.specs.Order.{command, out_of_range, is_write, is_reading, command_checks, key_checks, mark_check, wrong_key}
use Rattle.rules.proofs.ChecksLaws.{judged_append, judged_cases}
use Rattle.rules.proofs.ViewLaws.{is_empty_lem, wrong_key_lem}
use Rattle.rules.proofs.StateLaws.{is_namespace_lem}
use Rattle.rules.proofs.SlotsLaws.{place_small}
use Rattle.rules.proofs.SoundLaws.{sound_slot}
use Rattle.rules.proofs.EffectsLaws.{named_slot, slot_fits, length_held_identity}
use Rattle.slots.specs.Cache.{head_size, head_bytes}
use Rattle.slots.proofs.HeadLaws.{sound_head}
use Rattle.marks.specs.Store.{in_store, some_differs, marked}
use Rattle.drive.specs.declared.Access.{Access}
use Rattle.drive.specs.declared.Access.TheVariants.{Write, Read}
use Rattle.drive.specs.Acting.{state, Ready, access_of, placed as placedBy, keyed, reached, Known}

-- ------------------------------------------------------------------------
-- What an opcode opens

abbrev pub Opens : Bool → Bool → Result Access Refusal → Type 0
Opens w r (Ok Write) = w ≡ true
Opens w r (Ok Read) = r ≡ true
Opens w r (Err why) = (why ≡ 00·01) × (w || r ≡ false)

opened : (w r : Bool) → Opens w r (cond w (Ok Write) (cond r (Ok Read) (Err 00·01)))
opened true r = refl
opened false true = refl
opened false false = (refl, refl)

pub opens : (c : Command) (a : Result Access Refusal) → a ≡ access_of c.opcode → Opens (is_write c) (is_reading c) a
unfolding access_of
opens c a e = rw e (opened (is_write c) (is_reading c))

pub known_by : (c : Command) (a : Access) → Opens (is_write c) (is_reading c) (Ok a) → Known c a
known_by c Write e = e
known_by c Read e = e

-- ------------------------------------------------------------------------
-- The kept identity in the slot

-- the front of padded bytes is the front of the bytes, padded
take_padded : (n m : ℕ) (xs : List ℕ) → n ≤ m → take n (padded m xs) ≡ padded n (take n xs)
unfolding padded part zeros
take_padded n m xs h =
    by_cases (dec_lt n (length xs))
    (λ l.
    let e : n - length (take n xs) ≡ 0 = omega (arith, length-take-le n xs (omega arith)) in
    take-append-le n xs (zeros (m - length xs)) (omega arith) ∙ (rw e (sym (append-nil (take n xs)))))
    (λ l.
    let e : length xs + (n - length xs) ≡ n = omega arith in
    ap (λ k. take k (xs ++ zeros (m - length xs))) (sym e)
    ∙ take-append-add xs (zeros (m - length xs)) (n - length xs)
    ∙ ap (λ z. xs ++ z) (part_zeros 0 (n - length xs) (m - length xs) (omega arith))
    ∙ ap (λ z. z ++ zeros (n - length z)) (sym (take_all n xs (omega arith))))

module _ (c : List ℕ) (whole : length c ≡ slot_width) (sound : slot_unsound false c ≡ false) (full : empty c ≡ false) where
  kept_in : kept_identity (uid_of c) ≡ part 0 mark_width c
  unfolding kept_identity part head_bytes
  kept_in =
      ap (λ z. length (uid_of c) ∷ z) (sym (take_padded uid_most uid_most (uid_of c) (omega arith)))
      ∙ ap (part 0 mark_width) (sym (sound_head c whole sound full))
      ∙ part_part 0 head_size 0 mark_width c (omega arith) (omega arith)

  held_identity : identity_of (held c) ≡ part 0 mark_width c
  unfolding held
  held_identity = rw full kept_in

-- ------------------------------------------------------------------------
-- Where a known command leads, as an outcome

settle_map : {A B C : Type 0} (g : B → C) (v : Verdict A) (f : A → B) (o : B) → g (settle v f o) ≡ settle v (λ a. g (f a)) (g o)
settle_map g passed f o = refl
settle_map g (refused a) f o = refl

abbrev pub leads : State → Command → Result (Option ℕ) Refusal → Outcome
leads s c (Err r) = refuse s r
leads s c (Ok None) = record { answer = Ok Done; state = s }
leads s c (Ok (Some place)) =
    judged (only_if (is_reading c) (mark_check (view_of s) c)) (refuse s) (record { answer = Ok Done; state = only_when (is_write c) (mark_covered s c) s })

module _ (s : State) (c : Command) where
  abbrev range_checks : List (Check Refusal)
  range_checks =
      00·0B when no_namespace c.ns
      ∷ 00·80 when ltb blocks_each (c.first + c.more + 1)
      ∷ []

  -- the outcome after these, and where it leads, by whether the namespace is managed
  abbrev later : Bool → Outcome
  later m =
      judged (only_if m (key_checks (view_of s) c ++ only_if (is_reading c) (mark_check (view_of s) c))) (refuse s)
      (record { answer = Ok Done; state = only_when (m && is_write c) (mark_covered s c) s })

  abbrev goes : Bool → Result (Option ℕ) Refusal
  goes m = judged (only_if m (key_checks (view_of s) c)) Err (Ok (cond m (Some (place_of c.ns c.tag)) None))

  -- `reached`, the checks of the range before the key's
  range_first : reached s c ≡ judged range_checks Err (goes (managed (view_of s) c.ns))
  unfolding reached
  range_first = judged_append range_checks (only_if (managed (view_of s) c.ns) (key_checks (view_of s) c)) Err _

  keyed_leads : (m : Bool) → later m ≡ leads s c (goes m)
  keyed_leads true =
      judged_append (key_checks (view_of s) c) (only_if (is_reading c) (mark_check (view_of s) c)) (refuse s) (record {
        answer =
            (Ok Done);
        state = only_when (is_write c) (mark_covered s c) s;
      })
      ∙ sym (settle_map (leads s c) (first_refusal (key_checks (view_of s) c)) Err (Ok (Some (place_of c.ns c.tag))))
  keyed_leads false = refl

  opened_leads : is_write c || is_reading c ≡ true → obey s (command (view_of s) c) ≡ leads s c (reached s c)
  unfolding command
  opened_leads e =
      judged_append (command_checks c)
      (only_if (managed (view_of s) c.ns) (key_checks (view_of s) c ++ only_if (is_reading c) (mark_check (view_of s) c))) (refuse s) _
      ∙ ap (λ b. judged (00·01 when not b ∷ range_checks) (refuse s) (later (managed (view_of s) c.ns))) e
      ∙ ap (judged range_checks (refuse s)) (keyed_leads (managed (view_of s) c.ns))
      ∙ sym (settle_map (leads s c) (first_refusal range_checks) Err (goes (managed (view_of s) c.ns)))
      ∙ ap (leads s c) (sym range_first)

  -- and one with another opcode
  pub unknown_leads : is_write c || is_reading c ≡ false → obey s (command (view_of s) c) ≡ refuse s 00·01
  unfolding command
  unknown_leads e = rw e

-- ------------------------------------------------------------------------
-- The key checks, by the place that the tag leads to

refused_place : (b : Bool) (p : ℕ) (r : Refusal) → Err r ≡ judged (00·25 when b ∷ []) Err (Ok p)
    → (b ≡ true) × (r ≡ 00·25)
refused_place true p r e = (refl, cc)
refused_place false p r e = absurd (let z : ◌≡◌ {A = ℕ} 0 1 = cc in omega arith)

found_place : (b : Bool) (p q : ℕ) → Ok q ≡ judged (00·25 when b ∷ []) Err (Ok p) → (b ≡ false) × (q ≡ p)
found_place true p q e = absurd (let z : ◌≡◌ {A = ℕ} 0 1 = cc in omega arith)
found_place false p q e = (refl, cc)

module _ (s : State) (c : Command) where
  pub wrong_type : (c.cetype ≡ 1 → ⊥) → Err 00·02 ≡ keyed s c
  unfolding keyed
  wrong_type h = rw (ne_eqb c.cetype 1 h)

  module _ (n : ℕ) (is : n ≡ count s c.ns) (one : c.cetype ≡ 1) where
    abbrev above : Bool
    above = leb n c.tag.0

    above_is : (b : Bool) → above ≡ b → tag_above (view_of s) c.ns c.tag ≡ b
    above_is b e = ap (λ k. leb k c.tag.0) (sym is) ∙ e

    pub tag_refused : (r : Refusal) → Err r ≡ placedBy n c.ns c.tag → Err r ≡ keyed s c
    unfolding keyed placedBy
    tag_refused r e =
        let p = refused_place above (place_of c.ns c.tag) r e in
        rw (eq-eqb c.cetype 1 one, above_is true p.0, p.1)

    -- of a sound drive it is a slot's
    pub tag_inside : unsound s ≡ false → IsNamespace c.ns → (q : ℕ) → Ok q ≡ placedBy n c.ns c.tag → q < slot_places
    unfolding placedBy
    tag_inside sound is-ns q e =
        let p = found_place above (place_of c.ns c.tag) q e in
        rw p.1 (place_small c.ns c.tag (named_slot s sound c.ns c.tag is-ns (above_is false p.0)))

    pub tag_found : (q : ℕ) → Ok q ≡ placedBy n c.ns c.tag
        → judged (00·25 when empty (cell slot_width q s.keys) ∷ []) Err (Ok q) ≡ keyed s c
    unfolding keyed placedBy
    tag_found q e =
        let p = found_place above (place_of c.ns c.tag) q e in
        rw (eq-eqb c.cetype 1 one, above_is false p.0, p.1, is_empty_lem (slot s c.ns c.tag))

-- what the key checks lead to, as where the command leads
abbrev pub in_slot : Result ℕ Refusal → Result (Option ℕ) Refusal
in_slot (Ok place) = Ok (Some place)
in_slot (Err r) = Err r

module _ (s : State) (c : Command) where
  pub reach_keyed : no_namespace c.ns ≡ false → out_of_range c ≡ false → managed (view_of s) c.ns ≡ true
      → (k : Result ℕ Refusal) → k ≡ keyed s c → in_slot k ≡ reached s c
  unfolding reached keyed
  reach_keyed named range held k e =
      ap in_slot e
      ∙ settle_map in_slot (first_refusal (key_checks (view_of s) c)) Err (Ok (place_of c.ns c.tag))
      ∙ (rw (named, range, held))

  pub reach_none : no_namespace c.ns ≡ false → out_of_range c ≡ false → managed (view_of s) c.ns ≡ false → Ok None ≡ reached s c
  unfolding reached
  reach_none named range free = rw (named, range, free)

-- ------------------------------------------------------------------------
-- A command that reaches a slot

never_place : (place : ℕ) (r : Refusal) → Err r ≡ Ok (Some place) → ⊥
never_place place r e = let z : ◌≡◌ {A = ℕ} 0 1 = cc in omega arith

never_none : (place : ℕ) → ◌≡◌ {A = Result (Option ℕ) Refusal} (Ok None) (Ok (Some place)) → ⊥
never_none place e = let z : ◌≡◌ {A = ℕ} 0 1 = cc in omega arith

passed_all : (cs : List (Check Refusal)) (o : Result (Option ℕ) Refusal) (place : ℕ) → judged cs Err o ≡ Ok (Some place)
    → AllPass cs × (o ≡ Ok (Some place))
passed_all cs o place e =
    ⊎_elim
    (λ r. absurd (never_place place r.0 (sym r.1 ∙ e)))
    (λ p. (p.0, sym p.1 ∙ e))
    (judged_cases cs Err o)

pub record Placed (s : State) (c : Command) (place : ℕ) : Type 0 where
  pub at : place_of c.ns c.tag ≡ place
  pub namespace : IsNamespace c.ns
  pub range : c.first + c.more + 1 ≤ blocks_each
  pub tag : tag_above (view_of s) c.ns c.tag ≡ false
  pub full : empty (slot s c.ns c.tag) ≡ false

module _ (s : State) (c : Command) (place : ℕ) where
  keys_passed : (m : Bool) → goes s c m ≡ Ok (Some place) → AllPass (key_checks (view_of s) c) × (place_of c.ns c.tag ≡ place)
  keys_passed true e = let p = passed_all (key_checks (view_of s) c) (Ok (Some (place_of c.ns c.tag))) place e in (p.0, cc)
  keys_passed false e = absurd (never_none place e)

  placed : Ok (Some place) ≡ reached s c → Placed s c place
  placed e =
      let p = passed_all (range_checks s c) (goes s c (managed (view_of s) c.ns)) place (sym (range_first s c) ∙ sym e) in
      let k = keys_passed (managed (view_of s) c.ns) p.1 in
      record {
        at = k.1;
        namespace = is_namespace_lem c.ns p.0.0;
        range = ltb-false blocks_each _ p.0.1.0;
        tag = k.0.1.0;
        full = sym (is_empty_lem (slot s c.ns c.tag)) ∙ k.0.1.1.0;
      }

-- `reach` does not look at the marks
reached_marks : (registers : Registers) (keys marks : List ℕ) (c : Command) → reached (state registers keys []) c ≡ reached (state registers keys marks) c
unfolding reached keyed
reached_marks registers keys marks c = refl

-- ------------------------------------------------------------------------
-- The ways of a write and of what reads

module _ (c : Command) where
  write_not_read : is_write c ≡ true → is_reading c ≡ false
  write_not_read e = rw (eqb-true c.opcode 1 e)

  read_not_write : is_reading c ≡ true → is_write c ≡ false
  read_not_write e = true_or_false (is_write c) (λ w. true≢false (sym e ∙ write_not_read w))

module _ (registers : Registers) (keys marks : List ℕ) (c : Command) where
  abbrev s : State
  s = state registers keys marks

  abbrev outcome : Outcome
  outcome = obey s (command (view_of s) c)

  known_is : (access : Access) → Known c access → is_write c || is_reading c ≡ true
  known_is Write e = rw e
  known_is Read e = rw (read_not_write c e, e)

  pub known_leads : (access : Access) → Known c access → {r : Result (Option ℕ) Refusal} → r ≡ reached (state registers keys []) c
      → leads s c r ≡ outcome
  known_leads access e q = sym (opened_leads s c (known_is access e) ∙ ap (leads s c) (sym (q ∙ reached_marks registers keys marks c)))

  module _ {place : ℕ} (to : Ok (Some place) ≡ reached (state registers keys []) c) where
    pub lands : Placed s c place
    lands = placed s c place (to ∙ reached_marks registers keys marks c)

    module _ (ready : Ready registers keys marks) where
      named : IsSlot c.ns c.tag
      named = named_slot s ready.sound c.ns c.tag lands.namespace lands.tag

      pub place_inside : place < slot_places
      place_inside = rw (← lands.at) (place_small c.ns c.tag named)

      -- the front of the slot is the kept identity of its key
      identity_is : identity_of (held (slot s c.ns c.tag)) ≡ part (place * slot_width) mark_width keys
      identity_is =
          let fits = slot_fits s ready.sized c.ns c.tag named in
          held_identity (slot s c.ns c.tag) (length_cell slot_width (place_of c.ns c.tag) keys fits)
          (rw lands.tag at (sound_slot s ready.sound c.ns c.tag named)) lands.full
          ∙ part_cell slot_width (place_of c.ns c.tag) 0 mark_width keys fits (omega arith)
          ∙ (rw (lands.at, add-zero))

      in_store_lem : in_store marks (block_of c.ns c.first) (c.more + 1) ≡ true
      in_store_lem =
          let p = lands in
          let block : ℕ = block_of c.ns c.first in
          let right = eq-eqb (length marks) store_size ready.sized.store in
          rw (right, le-leb block mark_places (omega arith), le-leb (c.more + 1) (mark_places - block) (omega arith))

      covered_is : state registers keys (marked (block_of c.ns c.first) (c.more + 1) (part (place * slot_width) mark_width keys) marks) ≡ mark_covered s c
      unfolding marked mark_covered
      covered_is =
          let full = ap length (sym identity_is) ∙ length_held_identity (held (slot s c.ns c.tag)) in
          rw (in_store_lem, eq-eqb (length (part (place * slot_width) mark_width keys)) mark_width full, identity_is)

      wrong_is : some_differs (block_of c.ns c.first) (c.more + 1) (part (place * slot_width) mark_width keys) marks ≡ wrong_key (view_of s) c
      unfolding some_differs
      wrong_is = rw (wrong_key_lem s c, in_store_lem, identity_is)

      -- a write marks the blocks
      pub written : is_write c ≡ true → record {
        answer =
            (Ok Done);
        state = state registers keys
            (marked (block_of c.ns c.first) (c.more + 1) (part (place * slot_width) mark_width keys) marks);
      } ≡ outcome
      written e = rw covered_is (rw (write_not_read c e, e) at (known_leads Write e to))

      -- what reads is refused by the marks, or changes nothing
      pub read_by : {b : Bool} → b ≡ some_differs (block_of c.ns c.first) (c.more + 1) (part (place * slot_width) mark_width keys) marks
          → is_reading c ≡ true
          → judged (00·28 when b ∷ []) (refuse s) (record { answer = Ok Done; state = s }) ≡ outcome
      read_by q e = rw (q, wrong_is) (rw (e, read_not_write c e) at (known_leads Read e to))
