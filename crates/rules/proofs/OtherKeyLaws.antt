-- 07 0C in the cache's bytes, as code looks for it; and where it passes, a loaded slot with this KeyUID has this key.
-- Assumes nothing.
use mathlib.Core.Path.{◌≡◌, refl, sym, ap, ◌∙◌}
use mathlib.Core.Bool.{Bool, true, false, not, ◌&&◌, cond, true≢false}
use mathlib.Core.List.{List}
use Prim.Native.Nat.{ℕ, ◌+◌}
use native.Mathlib.Omega.{arith}
use Rattle.cells.specs.Cells.{cell}
use Rattle.cells.specs.Predicates.{same, some_cell}
use Rattle.cells.proofs.PredicatesLaws.{same_refl, same_eq, none_then}
use Rattle.rules.specs.declared.Namespace.{Namespace}
use Rattle.rules.specs.declared.Tag.{Tag}
use Rattle.rules.specs.Numbers.{slot_width, slot_places}
use Rattle.rules.specs.State.{State}
use Rattle.rules.specs.Slots.{Contents, place_of, namespace_at, tag_at, slot, empty, loaded, uid_of, key_of, contents_of, nothing, holding, held, IsSlot}
use Rattle.rules.specs.View.{view_of, has_other, other_key}
use Rattle.rules.proofs.SlotsLaws.{place_small, place_at}
use Rattle.rules.proofs.ViewLaws.{below_same, some_cells}

unfoldable pub other_key_in : Contents → List ℕ → Bool
other_key_in x c = loaded c && same (uid_of c) x.uid && not (same (key_of c) x.key)

unfoldable pub other_key_among : List ℕ → Contents → Bool
other_key_among keys x = some_cell slot_width 0 slot_places (λ place c. other_key_in x c) keys

has_other_lem : (x : Contents) (c : List ℕ) → has_other x (held c) ≡ other_key_in x c
unfolding held other_key_in
has_other_lem x c = by (empty c)
  where
    by : (b : Bool) → has_other x (cond b nothing (holding (contents_of c))) ≡ not b && same (uid_of c) x.uid && not (same (key_of c) x.key)
    by true = refl
    by false = refl

pub other_key_lem : (s : State) (x : Contents) → other_key (view_of s).slots x ≡ other_key_among s.keys x
unfolding other_key other_key_among
other_key_lem s x =
    below_same slot_places _ _ (λ k l.
    has_other_lem x (slot s (namespace_at k) (tag_at k))
    ∙ ap (λ i. other_key_in x (cell slot_width i s.keys)) (let z : place_of (namespace_at k) (tag_at k) ≡ 0 + k = omega (arith, place_at k) in z))
    ∙ some_cells slot_width (λ place c. other_key_in x c) 0 slot_places s.keys

-- an empty slot has no other key
pub empty_other : (x : Contents) (c : List ℕ) → empty c ≡ true → other_key_in x c ≡ false
unfolding other_key_in
empty_other x c e = ap (λ b. not b && same (uid_of c) x.uid && not (same (key_of c) x.key)) e

-- ------------------------------------------------------------------------
-- Where it passes

no_other : (l u k : Bool) → l && u && not k ≡ false → l ≡ true → u ≡ true → k ≡ true
no_other true true true e p q = refl
no_other true true false e p q = absurd (true≢false e)
no_other true false k e p q = absurd (true≢false (sym q))
no_other false u k e p q = absurd (true≢false (sym p))

pub same_key : (s : State) (x : Contents) → other_key (view_of s).slots x ≡ false → (ns : Namespace) (tag : Tag) → IsSlot ns tag
    → loaded (slot s ns tag) ≡ true → uid_of (slot s ns tag) ≡ x.uid → key_of (slot s ns tag) ≡ x.key
unfolding other_key_in other_key_among
same_key s x e ns tag is l u =
    let c = slot s ns tag in
    let z : 0 + place_of ns tag ≡ place_of ns tag = omega arith in
    let passes : other_key_in x c ≡ false =
    rw z at (none_then slot_width (λ place c. other_key_in x c) slot_places 0 s.keys (sym (other_key_lem s x) ∙ e)
    (place_of ns tag) (place_small ns tag is)) in
    same_eq (key_of c) x.key (no_other (loaded c) (same (uid_of c) x.uid) (same (key_of c) x.key) passes l (rw u (same_refl x.uid)))
