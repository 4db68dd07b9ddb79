-- What a drive's view is in its bytes: each check of Order as the code makes it.
-- Assumes nothing.
use mathlib.Core.Path.{◌≡◌, refl, sym, ap, ◌∙◌}
use mathlib.Core.Bool.{Bool, true, false, cond}
use mathlib.Core.List.{List, [], ◌∷◌, ◌++◌}
use mathlib.Core.Logic.{by_cases}
use Prim.Native.Nat.{ℕ, zero, suc, ◌+◌, ◌-◌, ◌≤◌, ◌<◌}
use native.Mathlib.Omega.{arith}
use native.Mathlib.Decide.{dec_lt}
use lib.ListN.{length, get_or, take}
use lib.Seq.{take-suc, take-length}
use borrow.Author.Tests.{eqb-true}
use Rattle.cells.specs.Cells.{part, cell}
use Rattle.cells.specs.Predicates.{some_cell}
use Rattle.cells.proofs.PredicatesLaws.{or_left, or_right, neither, none_then, then_none}
use Rattle.rules.specs.declared.Namespace.{Namespace}
use Rattle.rules.specs.declared.Command.{Command}
use Rattle.rules.specs.Numbers.{namespaces, mark_width}
use Rattle.rules.specs.State.{State, namespace, count, total}
use Rattle.rules.specs.Slots.{slot, empty, uid_length, uid_of, contents_of, nothing, holding, uid_held}
use Rattle.rules.specs.Slots.{held}
use Rattle.rules.specs.Marks.{block_of, identity_of, differs}
use Rattle.rules.specs.View.{view_of, together, all_tags, is_empty, some_below}
use Rattle.rules.specs.Order.{wrong_key}

-- ------------------------------------------------------------------------
-- A test of the numbers below n

pub none_below : (n : ℕ) (f : ℕ → Bool) → some_below n f ≡ false → (k : ℕ) → k < n → f k ≡ false
unfolding some_below
none_below zero f e k h = absurd (omega arith)
none_below (suc n) f e k h =
    by_cases (dec_lt k n)
    (λ l. none_below n f (or_left (some_below n f) _ e) k l)
    (λ g. let z : k ≡ n = omega arith in rw z (or_right (some_below n f) (f n) e))

pub below_none : (n : ℕ) (f : ℕ → Bool) → ((k : ℕ) → k < n → f k ≡ false) → some_below n f ≡ false
unfolding some_below
below_none zero f h = refl
below_none (suc n) f h = neither (some_below n f) (f n) (below_none n f (λ k l. h k (omega arith))) (h n (omega arith))

pub below_same : (n : ℕ) (f g : ℕ → Bool) → ((k : ℕ) → k < n → f k ≡ g k) → some_below n f ≡ some_below n g
unfolding some_below
below_same zero f g h = refl
below_same (suc n) f g h = rw (below_same n f g (λ k l. h k (omega arith)), h n (omega arith))

both_false : (a b : Bool) → (a ≡ false → b ≡ false) → (b ≡ false → a ≡ false) → a ≡ b
both_false true true f g = refl
both_false true false f g = g refl
both_false false b f g = sym (f refl)

-- a walk over cells is a test of their numbers
pub some_cells : (w : ℕ) (f : ℕ → List ℕ → Bool) (i n : ℕ) (xs : List ℕ)
    → some_below n (λ k. f (i + k) (cell w (i + k) xs)) ≡ some_cell w i n f xs
some_cells w f i n xs =
    both_false _ _
    (λ e. then_none w f n i xs (λ k l. none_below n _ e k l))
    (λ e. below_none n _ (λ k l. none_then w f n i xs e k l))

-- ------------------------------------------------------------------------
-- Tags together

pub together_same : (n : ℕ) (f g : Namespace → ℕ) → ((i : ℕ) → i < n → f (namespace (suc i)) ≡ g (namespace (suc i)))
    → together n f ≡ together n g
unfolding together
together_same zero f g h = refl
together_same (suc n) f g h = rw (together_same n f g (λ i l. h i (omega arith)), h n (omega arith))

total_append : (xs ys : List ℕ) → total (xs ++ ys) ≡ total xs + total ys
total_append [] ys = omega arith
total_append (x ∷ xs) ys = omega (arith, total_append xs ys)

total_together : (f : Namespace → ℕ) (xs : List ℕ) (n : ℕ) → n ≤ length xs → ((i : ℕ) → i < n → get_or xs i 0 ≡ f (namespace (suc i)))
    → total (take n xs) ≡ together n f
unfolding together
total_together f [] zero l e = refl
total_together f (x ∷ xs) zero l e = refl
total_together f xs (suc n) l e =
    let before = total_together f xs n (omega arith) (λ i b. e i (omega arith)) in
    ap total (take-suc xs n 0 (omega arith))
    ∙ total_append (take n xs) (get_or xs n 0 ∷ [])
    ∙ omega (arith, e n (omega arith))

pub all_tags_lem : (s : State) → length s.registers.counts ≡ namespaces → all_tags (view_of s) ≡ total s.registers.counts
all_tags_lem s l =
    let counts = s.registers.counts in
    sym
    (ap total (sym (take-length counts))
    ∙ ap (λ n. total (take n counts)) l
    ∙ total_together (count s) counts namespaces (omega arith) (λ i b. let e : suc i - 1 ≡ i = omega arith in ap (λ j. get_or counts j 0) (sym e)))

-- ------------------------------------------------------------------------
-- What a slot's bytes hold

module _ (c : List ℕ) where
  pub is_empty_lem : is_empty (held c) ≡ empty c
  unfolding held
  is_empty_lem = by (empty c)
    where
      by : (b : Bool) → is_empty (cond b nothing (holding (contents_of c))) ≡ b
      by true = refl
      by false = refl

  no_uid : empty c ≡ true → uid_of c ≡ []
  unfolding uid_of part
  no_uid e = rw (eqb-true (uid_length c) 0 e)

  pub uid_held_lem : uid_held (held c) ≡ uid_of c
  unfolding held
  uid_held_lem = by (empty c) refl
    where
      by : (b : Bool) → empty c ≡ b → uid_held (cond b nothing (holding (contents_of c))) ≡ uid_of c
      by true e = sym (no_uid e)
      by false e = refl

-- ------------------------------------------------------------------------
-- The mark check

pub wrong_key_lem : (s : State) (c : Command)
    → wrong_key (view_of s) c
    ≡ some_cell mark_width (block_of c.ns c.first) (c.more + 1) (λ block m. differs (identity_of (held (slot s c.ns c.tag))) m) s.marks
unfolding wrong_key
wrong_key_lem s c =
    let identity = identity_of (held (slot s c.ns c.tag)) in
    below_same (c.more + 1) _ _ (λ k l.
    let e : block_of c.ns (c.first + k) ≡ block_of c.ns c.first + k = omega arith in
    ap (λ i. differs identity (cell mark_width i s.marks)) e)
    ∙ some_cells mark_width (λ block m. differs identity m) (block_of c.ns c.first) (c.more + 1) s.marks
