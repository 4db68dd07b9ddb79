-- What the tests and the calls of the frames on keys say, in the rules' words.
-- Assumes nothing.
use Rattle.std.proofs.Common.{◌≡◌, ℕ, ◌-◌, ◌<◌, Bool, true, false, cond, not, ◌&&◌, eqb, List, [], ◌∷◌, ◌++◌, length, take}
use Rattle.std.proofs.Common.{◌||◌, ltb, lt-ltb}
use Rattle.std.proofs.Common.{drop, sym, refl, ap, ◌∙◌, ap₂, arith, length-append, length-drop, take_at, eq-eqb, ne_eqb}
use borrow.Author.Tests.{not-true, not-false}
use Rattle.cells.specs.Cells.{zeros, cell, fill}
use Rattle.cells.proofs.CellsLaws.{length_zeros, copied, back_rest}
use Rattle.cells.specs.Predicates.{same}
use Rattle.rules.specs.declared.Namespace.{Namespace}
use Rattle.rules.specs.declared.Registers.{Registers}
use Rattle.rules.specs.declared.BootLocks.{BootLocks}
use Rattle.rules.specs.declared.Granted.TheVariants.{Done}
use Rattle.rules.specs.Locks.{both_locked}
use Rattle.rules.specs.Numbers.{namespaces, tags_most, blocks_each, slot_width, slot_places, slots_size, kek_size, cache_size, mark_width, store_size}
use Rattle.rules.specs.View.{view_of, managed}
use Rattle.rules.specs.State.{Outcome, wrong_cache, wrong_store, no_namespace, count}
use Rattle.rules.specs.Slots.{empty, loaded, uid_of}
use Rattle.rules.specs.Marks.{block_of, never_written}
use Rattle.rules.specs.Start.{fresh_registers, fresh_cache, emptied_cache, fresh_with, fresh, start}
use Rattle.marks.specs.Store.{zeroed}
use Rattle.slots.specs.Cache.{slot_at, cleared_all}
use Rattle.rules.proofs.StateLaws.{right_cache}
use Rattle.slots.proofs.CacheLaws.{slot_is, cleared_all_zeros}
use Rattle.std.specs.Prelude.{Ok, Err}
use Rattle.rules.specs.Answer.{Answer}
use Rattle.rules.specs.declared.Refusal.{Refusal}
use Rattle.rules.specs.Checks.{Check, ◌when◌, judged}
use Rattle.rules.specs.Answers.{07·0D, 07·0E}
use Rattle.drive.specs.Acting as acting
use Rattle.drive.specs.Acting.{state, after, Zeroed}
use Rattle.drive.proofs.ActingLaws.{uid_only}

-- a namespace is managed by its count
module _ (d : Registers) (ns : Namespace) (n : ℕ) (is : n ≡ count (state d [] []) ns) where
  pub managed_by : (n ≡ 0 → ⊥) → managed (view_of (state d [] [])) ns ≡ true
  managed_by some = ap not (ne_eqb (count (state d [] []) ns) 0 (λ z. some (is ∙ z)))

  pub unmanaged_by : n ≡ 0 → managed (view_of (state d [] [])) ns ≡ false
  unmanaged_by none = ap not (eq-eqb (count (state d [] []) ns) 0 (sym is ∙ none))

-- too many tags
pub bad_tags : (n : ℕ) → tags_most < n → eqb n 0 || ltb tags_most n ≡ true
bad_tags n h = rw (ne_eqb n 0 (λ z. omega arith), lt-ltb tags_most n h)

-- a slot of a cache of the right length, by what the cache's own tests answer
module _ (keys : List ℕ) (size : length keys ≡ cache_size) (place : ℕ) (inside : place < slot_places) where
  module _ (b : Bool) (is : b ≡ loaded (slot_at place keys)) where
    pub loaded_by : loaded (cell slot_width place keys) ≡ b
    loaded_by = rw (← slot_is keys size place inside) (sym is)

    pub empty_by : not b ≡ true → empty (cell slot_width place keys) ≡ true
    empty_by none = not-false (empty (cell slot_width place keys)) (loaded_by ∙ not-true b none)

    pub full_by : not b ≡ false → empty (cell slot_width place keys) ≡ false
    full_by some = not-true (empty (cell slot_width place keys)) (loaded_by ∙ not-false b some)

  pub holds_by : (old : List ℕ) (b : Bool) → b ≡ (loaded (slot_at place keys) && same (uid_of (slot_at place keys)) old)
      → empty (cell slot_width place keys) ≡ false → same (uid_of (cell slot_width place keys)) old ≡ b
  holds_by old b is full =
      uid_only (empty (cell slot_width place keys)) (same (uid_of (cell slot_width place keys)) old) b (rw (slot_is keys size place inside) at is) full

-- a namespace's marks zeroed, in a store of the right length
pub zeroed_is : (marks : List ℕ) → length marks ≡ store_size → (ns : Namespace) → no_namespace ns ≡ false
    → zeroed ns marks ≡ fill mark_width (block_of ns 0) blocks_each never_written marks
unfolding zeroed
zeroed_is marks size ns is = rw (eq-eqb (length marks) store_size size, is)

pub wrong_store_lem : (marks : List ℕ) → (length marks ≡ store_size → ⊥) → wrong_store marks ≡ true
wrong_store_lem marks wrong = ap not (ne_eqb (length marks) store_size wrong)

pub right_store : (marks : List ℕ) → length marks ≡ store_size → wrong_store marks ≡ false
right_store marks size = ap not (eq-eqb (length marks) store_size size)

-- a cache emptied, and the key-encryption key behind its slots
module _ (kek keys : List ℕ) (long : length kek ≡ kek_size) (size : length keys ≡ cache_size)
    (cleared : List ℕ) (e : cleared ≡ cleared_all keys) where
  cleared_is : cleared ≡ zeros slots_size ++ drop slots_size keys
  cleared_is = e ∙ cleared_all_zeros keys ∙ ap (λ b. cond b keys (zeros slots_size ++ drop slots_size keys)) (right_cache keys size)

  cleared_size : length cleared ≡ cache_size
  cleared_size = ap length cleared_is ∙ length-append (zeros slots_size) (drop slots_size keys) ∙ simp length-drop (omega (arith, length_zeros slots_size))

  abbrev lent : List ℕ
  lent = take (length cleared - slots_size) (drop slots_size cleared)

  pub emptied_is : (ys : List ℕ) → ys ≡ cond (eqb (length lent) (length kek)) kek lent
      → take slots_size cleared ++ (ys ++ drop (length cleared - slots_size) (drop slots_size cleared)) ≡ emptied_cache kek keys
  emptied_is ys is =
      let k = cleared_size in
      let front : take slots_size cleared ≡ zeros slots_size =
      ap (take slots_size) cleared_is ∙ take_at (zeros slots_size) (drop slots_size keys) slots_size (length_zeros slots_size) in
      let new : ys ≡ kek = is ∙ copied slots_size (length cleared) cleared kek (omega arith) (omega arith) in
      back_rest slots_size ys cleared ∙ ap₂ ◌++◌ front new ∙ ap (λ b. cond b keys (zeros slots_size ++ kek)) (sym (right_cache keys size))

-- a fresh drive: the registers that the code makes, the cache emptied and the store zeroed
no_counts : 0 ∷ 0 ∷ 0 ∷ 0 ∷ [] ≡ zeros namespaces
unfolding zeros
no_counts = refl

-- whether a cache is wrong is by its length
pub zeroed_by_length : (k keys marks : List ℕ) → length k ≡ length keys → acting.zeroed k marks ≡ acting.zeroed keys marks
unfolding acting.zeroed
zeroed_by_length k keys marks e =
    ap (λ n. judged (07·0D when wrong_store marks ∷ 07·0E when not (eqb n cache_size) ∷ []) (λ r. record { answer = Err r; marks = marks })
    (record { answer = Ok Done; marks = zeros store_size })) e

pub started : (kek keys marks : List ℕ) (locks : BootLocks) (cache : List ℕ) (a : Answer) (store : List ℕ) → locks ≡ both_locked
    → cache ≡ emptied_cache kek keys → ◌≡◌ {A = Zeroed} (record { answer = a; marks = store }) (acting.zeroed keys marks)
    → after a (record { counts = 0 ∷ 0 ∷ 0 ∷ 0 ∷ []; locks = locks }) cache store ≡ start kek keys marks
unfolding start fresh_registers acting.zeroed
started kek keys marks locks cache a store l k z =
    let registers : record { counts = 0 ∷ 0 ∷ 0 ∷ 0 ∷ []; locks = locks } ≡ fresh_registers = (λ i. record { counts = no_counts i; locks = l i }) in
    (λ i. after a (registers i) (k i) store)
    ∙ ap (λ (w : Zeroed). after w.answer fresh_registers (emptied_cache kek keys) w.marks) z
    ∙ by (wrong_store marks) (wrong_cache keys) refl
  where
    checks : Bool → Bool → List (Check Refusal)
    checks s c = 07·0D when s ∷ 07·0E when c ∷ []

    left : Zeroed → Outcome
    left w = after w.answer fresh_registers (emptied_cache kek keys) w.marks

    by : (s c : Bool) → wrong_cache keys ≡ c
        → left (judged (checks s c) (λ r. record { answer = Err r; marks = marks }) (record { answer = Ok Done; marks = zeros store_size }))
        ≡ judged (checks s c) (λ r. record { answer = Err r; state = fresh_with (emptied_cache kek keys) marks })
        (record { answer = Ok Done; state = fresh kek })
    by true c e = refl
    by false true e = refl
    by false false e = ap (λ b. after (Ok Done) fresh_registers (cond b keys (fresh_cache kek)) (zeros store_size)) e
