-- Items take the bytes that they were read from, and the list of some bytes goes
-- on from item to item.
-- Assumes nothing.
use mathlib.Core.Path.{◌≡◌, refl, ap, ◌∙◌}
use mathlib.Core.List.{List, [], ◌∷◌, append_assoc, append-nil}
use mathlib.Core.Option.{Option, none, some}
use Prim.Native.Nat.{ℕ, zero, suc, ◌+◌, ◌<◌, ◌≤◌}
use native.Mathlib.Omega.{arith}
use lib.ListN.{length}
use lib.Dec.{leb}
use borrow.Author.Tests.{lt-leb}
use Rattle.rules.specs.Ttlv.{Items, Structure, item_head, to_eight, size, deepest}
use Rattle.rules.specs.Ttlv.{Front, no_item, a_value, a_structure, front, with_value, with_structure, on_front, read_by, read_at}
use Rattle.rules.proofs.TtlvFrontLaws.{on_cond, Cut, cut}
use Rattle.rules.proofs.TtlvLaws.{Holds, read_on}
use Rattle.ttlv.specs.declared.Item.{Item}
use Rattle.ttlv.specs.ItemList.{item, listed, list_of, list_at, join}

-- ------------------------------------------------------------------------
-- Items take the bytes that they were read from

abbrev Sized : List ℕ → Items → Type 0
Sized xs items = size items ≡ length xs

size_value : (tag type : ℕ) (v rest xs : List ℕ) → Cut xs (a_value tag type v rest)
    → (o : Option Items) → Holds (Sized rest) o → Holds (Sized xs) (with_value tag type v o)
unfolding size with_value
size_value tag type v rest xs c none h = tt
size_value tag type v rest xs c (some items) h = omega arith

size_structure : (tag : ℕ) (ms rest xs : List ℕ) → Cut xs (a_structure tag ms rest)
    → (o p : Option Items) → Holds (Sized ms) o → Holds (Sized rest) p → Holds (Sized xs) (with_structure tag o p)
unfolding size with_structure
size_structure tag ms rest xs c none p h k = tt
size_structure tag ms rest xs c (some members) none h k = tt
size_structure tag ms rest xs c (some members) (some behind) h k = omega arith

size_front : (r : ℕ → List ℕ → Option Items) → ((d : ℕ) (xs : List ℕ) → Holds (Sized xs) (r d xs))
    → (d : ℕ) (xs : List ℕ) (f : Front) → Cut xs f → Holds (Sized xs) (on_front r d f)
unfolding on_front
size_front r hr d xs no_item c = tt
size_front r hr d xs (a_value tag type v rest) c = size_value tag type v rest xs c (r d rest) (hr d rest)
size_front r hr d xs (a_structure tag ms rest) c = size_structure tag ms rest xs c (r (suc d) ms) (r d rest) (hr (suc d) ms) (hr d rest)

size_by : (steps d : ℕ) (xs : List ℕ) → Holds (Sized xs) (read_by steps d xs)
unfolding read_by size
size_by zero d [] = refl
size_by zero d (x ∷ xs) = tt
size_by (suc steps) d [] = refl
size_by (suc steps) d (x ∷ xs) =
    on_cond (Holds (Sized (x ∷ xs))) (leb d deepest) _ _
    (λ e. size_front (read_by steps) (λ d' ys. size_by steps d' ys) d (x ∷ xs) (front (x ∷ xs)) (cut (x ∷ xs)))
    (λ e. tt)

pub size_read : (d : ℕ) (xs : List ℕ) → Holds (Sized xs) (read_at d xs)
unfolding read_at
size_read d xs = size_by (length xs) d xs

-- ------------------------------------------------------------------------
-- The list that some bytes give: none, or an item and the list of what is behind it

abbrev pub one : Item → Option (List Item)
one i = some (i ∷ [])

pub join_assoc : (a b c : Option (List Item)) → join (join a b) c ≡ join a (join b c)
unfolding join
join_assoc none b c = refl
join_assoc (some a) none c = refl
join_assoc (some a) (some b) none = refl
join_assoc (some a) (some b) (some c) = ap some (append_assoc a b c)

pub join_empty : (o : Option (List Item)) → join (some []) o ≡ o
unfolding join
join_empty none = refl
join_empty (some a) = refl

pub empty_join : (o : Option (List Item)) → join o (some []) ≡ o
unfolding join
empty_join none = refl
empty_join (some a) = ap some (append-nil a)

pub list_none : (d at : ℕ) → list_at d at [] ≡ some []
unfolding list_at list_of listed read_at read_by
list_none d at = refl

pub list_deep : (d at : ℕ) (xs : List ℕ) → 0 < length xs → deepest < d → list_at d at xs ≡ none
unfolding list_at list_of read_at read_by
list_deep d at [] h l = absurd (omega arith)
list_deep d at (x ∷ xs) h l = rw (lt-leb d deepest l)

list_with_value : (d at tag type : ℕ) (v : List ℕ) (o : Option Items)
    → list_of d at (with_value tag type v o) ≡ join (one (item tag type d (at + item_head) (length v))) (list_of d (at + item_head + to_eight (length v)) o)
unfolding list_of listed with_value join
list_with_value d at tag type v none = refl
list_with_value d at tag type v (some items) = refl

list_with_structure : (d at tag : ℕ) (ms : List ℕ) (o p : Option Items) → Holds (Sized ms) o
    → list_of d at (with_structure tag o p)
    ≡ join (one (item tag Structure d (at + item_head) (length ms))) (join (list_of (suc d) (at + item_head) o) (list_of d (at + item_head + length ms) p))
unfolding list_of listed with_structure join
list_with_structure d at tag ms none p h = refl
list_with_structure d at tag ms (some members) none h = refl
list_with_structure d at tag ms (some members) (some behind) h = rw h

module _ (d at : ℕ) (xs : List ℕ) (some_bytes : 0 < length xs) (within : d ≤ deepest) where
  on_front_lem : (f : Front) → front xs ≡ f → list_at d at xs ≡ list_of d at (on_front read_at d f)
  unfolding list_at
  on_front_lem f e = ap (list_of d at) (read_on d xs some_bytes within ∙ ap (on_front read_at d) e)

  pub list_broken : front xs ≡ no_item → list_at d at xs ≡ none
  unfolding list_of on_front
  list_broken e = on_front_lem no_item e

  pub list_value : (tag type : ℕ) (v rest : List ℕ) → front xs ≡ a_value tag type v rest
      → list_at d at xs ≡ join (one (item tag type d (at + item_head) (length v))) (list_at d (at + item_head + to_eight (length v)) rest)
  unfolding on_front list_at
  list_value tag type v rest e = on_front_lem (a_value tag type v rest) e ∙ list_with_value d at tag type v (read_at d rest)

  pub list_structure : (tag : ℕ) (ms rest : List ℕ) → front xs ≡ a_structure tag ms rest
      → list_at d at xs
      ≡ join (one (item tag Structure d (at + item_head) (length ms)))
      (join (list_at (suc d) (at + item_head) ms) (list_at d (at + item_head + length ms) rest))
  unfolding on_front list_at
  list_structure tag ms rest e =
      on_front_lem (a_structure tag ms rest) e ∙ list_with_structure d at tag ms (read_at (suc d) ms) (read_at d rest) (size_read (suc d) ms)
