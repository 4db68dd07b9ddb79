-- The key-encryption key lies behind every slot, and what a line changes of the cache is slots: it stays.
-- Assumes nothing.
use Rattle.std.specs.Prelude.{Ok, Err}
use mathlib.Core.Path.{◌≡◌, refl, ap, ◌∙◌}
use mathlib.Core.Bool.{Bool, true, false, ◌&&◌}
use mathlib.Core.List.{List, [], ◌∷◌}
use mathlib.Core.Logic.{⊎_elim}
use Prim.Native.Nat.{ℕ, ◌+◌, ◌-◌, ◌*◌, ◌≤◌, ◌<◌}
use native.Mathlib.Omega.{arith}
use lib.Dec.{eqb}
use lib.ListN.{length, drop}
use borrow.Author.Tests.{leb-false, ltb-false}
use Rattle.cells.specs.Cells.{put, fill, copies}
use Rattle.cells.proofs.CellsLaws.{length_zeros, length_copies, length_put, length_fill, drop_write}
use Rattle.cells.proofs.PredicatesLaws.{or_right}
use Rattle.rules.specs.declared.Namespace.{Namespace}
use Rattle.rules.specs.declared.Tag.{Tag}
use Rattle.rules.specs.Numbers.{tags_most, slot_width, slot_places, slots_size, cache_size}
use Rattle.rules.specs.State.{State, key_encryption_key, key_tag, count, IsNamespace}
use Rattle.rules.specs.View.{view_of, managed, tag_above}
use Rattle.rules.specs.Slots.{Contents, place_of, emptied, slot_bytes, FitKey, IsSlot}
use Rattle.rules.specs.Sound.{some_above, unsound}
use Rattle.rules.specs.Frames.{Frame, manage, release, load, load_wrapped, replace, clear_one, clear_all, io}
use Rattle.rules.specs.Frames.{set_features, get_features, boot_write, reset, discovery, unknown}
use Rattle.rules.specs.Effects.{with_keys, set_count, store_key, empty_slot, empty_slots, empty_all_slots, zero_marks, mark_covered, only_when}
use Rattle.rules.specs.Order as order
use Rattle.rules.specs.Order.{frame_rule, frame_of, step, is_write, is_power_cycle, power_cycled}
use Rattle.rules.specs.Sessions.{end_state, lines_of, Session, no_session, all_answered, session}
use Rattle.rules.specs.declared.Refusal.{Refusal}
use Rattle.rules.specs.declared.Granted.TheVariants.{Done}
use Rattle.rules.specs.Checks.{AllPass, FirstToFail}
use Rattle.rules.specs.Promises.{Sessions, session_checks, SessionKeepsKek}
use Rattle.rules.proofs.ChecksLaws.{by_verdict}
use Rattle.rules.proofs.CallLaws.{session_unread, session_ran}
use Rattle.rules.proofs.StateLaws.{is_namespace_lem}
use Rattle.rules.proofs.SlotsLaws.{length_slot}
use Rattle.rules.proofs.SoundLaws.{above_none, above_set, sound_cache, sound_counts}
use Rattle.rules.proofs.FramesLaws.{Fit}
use Rattle.rules.proofs.AcceptedLaws.{effect, Passes, wrapped_fit}
use Rattle.rules.proofs.TakenLaws.{refused_or_taken}

-- a cache of its size, and no namespace with more tags than it has slots: so no accepted frame reaches past the slots
pub record Safe (s : State) : Type 0 where
  pub cache : length s.keys ≡ cache_size
  pub few : some_above tags_most s.registers.counts ≡ false

pub sound_safe : (s : State) → unsound s ≡ false → Safe s
sound_safe s sound = record { cache = sound_cache s sound; few = sound_counts s sound }

-- what is left is safe, and has the same key-encryption key
record Stays (s t : State) : Type 0 where
  pub safe : Safe t
  pub key : key_encryption_key t ≡ key_encryption_key s

module _ (s : State) (safe : Safe s) where
  all_stays : Stays s s
  all_stays = record { safe = safe; key = refl }

  when_stays : (b : Bool) (t : State) → Stays s t → Stays s (only_when b t s)
  when_stays true t e = e
  when_stays false t e = all_stays

  -- ----------------------------------------------------------------------
  -- Slots

  keys_stay : (keys : List ℕ) → length keys ≡ cache_size → drop slots_size keys ≡ key_encryption_key s → Stays s (with_keys s keys)
  unfolding key_encryption_key
  keys_stay keys l e = record { safe = record { cache = l; few = safe.few }; key = e }

  put_stays : (n : Namespace) (t : Tag) → IsSlot n t → (v : List ℕ) → length v ≡ slot_width
      → Stays s (with_keys s (put slot_width (place_of n t) v s.keys))
  unfolding put key_encryption_key
  put_stays n t named v full =
      let whole = safe.cache in
      keys_stay _ (length_put slot_width (place_of n t) v s.keys (omega arith) full ∙ whole)
      (drop_write (place_of n t * slot_width) slot_width v s.keys (omega arith) full slots_size (omega arith))

  fill_stays : (i n : ℕ) → i + n ≤ slot_places → Stays s (with_keys s (fill slot_width i n emptied s.keys))
  unfolding fill key_encryption_key
  fill_stays i n h =
      let whole = safe.cache in
      let full = length_zeros slot_width in
      keys_stay _ (length_fill slot_width i n emptied s.keys (omega arith) full ∙ whole)
      (drop_write (i * slot_width) (n * slot_width) (copies n emptied) s.keys (omega arith)
      (length_copies slot_width n emptied full) slots_size (omega arith))

  store_stays : (n : Namespace) (t : Tag) → IsSlot n t → (x : Contents) → FitKey x → Stays s (store_key s n t x)
  unfolding store_key
  store_stays n t named x fit = put_stays n t named (slot_bytes x) (length_slot x fit)

  empty_stays : (n : Namespace) (t : Tag) → IsSlot n t → Stays s (empty_slot s n t)
  unfolding empty_slot
  empty_stays n t named = put_stays n t named emptied (length_zeros slot_width)

  run_stays : (n : Namespace) → IsNamespace n → Stays s (empty_slots s n)
  unfolding empty_slots
  run_stays n is = fill_stays (place_of n (key_tag 0)) tags_most (omega arith)

  -- the slot that an accepted frame names
  named : (ns : Namespace) (tag : Tag) → IsNamespace ns → tag_above (view_of s) ns tag ≡ false → IsSlot ns tag
  named ns tag is t =
      let a : tag.0 < count s ns = leb-false (count s ns) tag.0 t in
      let b : count s ns ≤ tags_most = above_none tags_most s.registers.counts safe.few (ns.0 - 1) in
      (is, omega arith)

  -- ----------------------------------------------------------------------
  -- Any frame

  effect_stays : (f : Frame) → Fit f → Passes s f → Stays s (effect s f)
  unfolding frame_rule order.manage order.release order.load order.load_wrapped order.replace order.clear_one order.clear_all order.command
      order.set_features order.get_features order.boot_write order.reset order.discovery set_count zero_marks mark_covered empty_all_slots key_encryption_key
  effect_stays (manage ns tags) fit p =
      let small : tags ≤ tags_most = ltb-false tags_most tags (or_right (eqb tags 0) _ p.1.1.0) in
      record { safe = record { cache = safe.cache; few = above_set tags_most s.registers.counts (ns.0 - 1) tags safe.few small }; key = refl }
  effect_stays (release ns) fit p =
      let e = run_stays ns (is_namespace_lem ns p.0) in
      record {
        safe = record { cache = e.safe.cache; few = above_set tags_most (empty_slots s ns).registers.counts (ns.0 - 1) 0 e.safe.few (omega arith) };
        key = e.key;
      }
  effect_stays (load ns tag x) fit p = store_stays ns tag (named ns tag (is_namespace_lem ns p.0) p.1.1.0) x fit
  effect_stays (load_wrapped ns tag x) fit p = store_stays ns tag (named ns tag (is_namespace_lem ns p.0) p.1.1.0) _ (wrapped_fit s ns tag x fit p)
  effect_stays (replace ns tag old x) fit p = store_stays ns tag (named ns tag (is_namespace_lem ns p.0) p.1.1.0) x fit
  effect_stays (clear_one ns tag) fit p = empty_stays ns tag (named ns tag (is_namespace_lem ns p.0) p.1.1.0)
  effect_stays (clear_all ns) fit p = run_stays ns (is_namespace_lem ns p.0)
  effect_stays (io c) fit p =
      when_stays (managed (view_of s) c.ns && is_write c) (mark_covered s c)
      (record { safe = record { cache = safe.cache; few = safe.few }; key = refl })
  effect_stays (set_features dword11) fit p = record { safe = record { cache = safe.cache; few = safe.few }; key = refl }
  effect_stays get_features fit p = all_stays
  effect_stays (boot_write partition) fit p = all_stays
  effect_stays (reset level) fit p =
      let e = fill_stays 0 slot_places (omega arith) in
      when_stays (is_power_cycle level) (power_cycled s) (record { safe = record { cache = e.safe.cache; few = e.safe.few }; key = e.key })
  effect_stays discovery fit p = all_stays
  effect_stays unknown fit p = all_stays

-- ------------------------------------------------------------------------
-- A line, and any lines

step_stays : (s : State) (line : List ℕ) → Safe s → Stays s (step s line).state
step_stays s line safe =
    ⊎_elim
    (λ r. rw r.1 (all_stays s safe))
    (λ t. rw t.is (effect_stays s safe (frame_of line) t.fit t.passes))
    (refused_or_taken s line)

pub kek_step : (s : State) (line : List ℕ) → Safe s → key_encryption_key (step s line).state ≡ key_encryption_key s
kek_step s line safe = (step_stays s line safe).key

pub kek_lines : (lines : List (List ℕ)) (s : State) → Safe s → key_encryption_key (end_state s lines) ≡ key_encryption_key s
unfolding end_state
kek_lines [] s safe = refl
kek_lines (line ∷ lines) s safe = let next = step_stays s line safe in kek_lines lines (step s line).state next.safe ∙ next.key

-- ------------------------------------------------------------------------
-- A session

module _ (s : State) (text out : List ℕ) (o : Session) (l : o ≡ session s text out) where
  refused_keeps : (r : Refusal) → FirstToFail (session_checks s text out) r → key_encryption_key o.state ≡ key_encryption_key s
  unfolding no_session
  refused_keeps r f = ap (λ (c : Session). key_encryption_key c.state) (l ∙ session_unread s text out r f)

  ran_keeps : AllPass (session_checks s text out) → key_encryption_key o.state ≡ key_encryption_key s
  unfolding all_answered
  ran_keeps p =
      ap (λ (c : Session). key_encryption_key c.state) (l ∙ session_ran s text out p)
      ∙ kek_lines (lines_of text) s (sound_safe s p.1.1.0)

pub session_keeps_kek : SessionKeepsKek Sessions
session_keeps_kek s text out o l =
    ⊎_elim
    (λ f. refused_keeps s text out o l f.0 f.1.0)
    (λ p. ran_keeps s text out o l p.0)
    (by_verdict (session_checks s text out) Err (Ok Done))
