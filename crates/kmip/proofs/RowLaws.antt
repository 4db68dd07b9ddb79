-- A row of a table, by the item that was found for it.
-- Assumes nothing.
use mathlib.Core.Path.{◌≡◌, refl, sym, ap, ◌∙◌}
use mathlib.Core.Bool.{Bool, true, false, ◌&&◌, and-true}
use mathlib.Core.List.{List, [], ◌∷◌}
use Prim.Native.Nat.{ℕ}
use borrow.Author.Tests.{eq-eqb}
use Rattle.std.specs.Prelude.{Option, Some, None, MatchOption, is_some}
use Rattle.std.specs.Bool.{then_some}
use Rattle.rules.specs.Ttlv.{Items, value, structure}
use Rattle.rules.specs.Kmip.{Want, ◌is_a◌with◌, ◌holds◌, from, behind_of, members_of, value_then, structure_then, in_order, has, any}
use Rattle.kmip.specs.declared.run.Run.{Run}
use Rattle.kmip.specs.Runs.{items_of, FoundNumber, tag_of, Row, GivesIf}

none_left : (items : Items) → in_order [] items ≡ true
unfolding in_order
none_left items = refl

module _ (tag kind : ℕ) (good : List ℕ → Bool) (items : Items) where
  pub value_missed : ((g : List ℕ → Bool) (more : Items → Bool) → value_then kind g more (from tag items) ≡ false)
      → (wants : List Want) → in_order ((tag is_a kind with good) ∷ wants) items ≡ false
  unfolding in_order
  value_missed missed wants = missed good (in_order wants)

  module _ (bytes : List ℕ) (behind : Items) (is : from tag items ≡ value tag kind bytes behind) where
    value_row : (wants : List Want) → in_order ((tag is_a kind with good) ∷ wants) items ≡ good bytes && in_order wants behind
    unfolding in_order value_then
    value_row wants = ap (value_then kind good (in_order wants)) is ∙ rw (eq-eqb kind kind refl)

    pub value_met : good bytes ≡ true
        → ((wants : List Want) → in_order ((tag is_a kind with good) ∷ wants) items ≡ in_order wants behind) × (behind_of (from tag items) ≡ behind)
    value_met met = (λ wants. value_row wants ∙ ap (λ b. b && in_order wants behind) met, ap behind_of is)

    pub value_failed : good bytes ≡ false → (wants : List Want) → in_order ((tag is_a kind with good) ∷ wants) items ≡ false
    value_failed failed wants = value_row wants ∙ ap (λ b. b && in_order wants behind) failed

    pub value_row_by : (b : Bool) → good bytes ≡ b → (run : Run) → items_of run ≡ behind → Row (tag is_a kind with good) items (then_some b run)
    value_row_by true met run e = let m = value_met met in (λ wants. m.0 wants ∙ ap (in_order wants) (sym e), m.1 ∙ sym e)
    value_row_by false failed run e = value_failed failed

    pub value_alone : good bytes ≡ has (tag is_a kind with good) items
    value_alone = sym (value_row [] ∙ ap (λ b. good bytes && b) (none_left behind) ∙ and-true (good bytes))

module _ (tag : ℕ) (good : Items → Bool) (items : Items) where
  pub structure_missed : ((g more : Items → Bool) → structure_then g more (from tag items) ≡ false)
      → (wants : List Want) → in_order ((tag holds good) ∷ wants) items ≡ false
  unfolding in_order
  structure_missed missed wants = missed good (in_order wants)

  module _ (members behind : Items) (is : from tag items ≡ structure tag members behind) where
    pub structure_row : (wants : List Want) → in_order ((tag holds good) ∷ wants) items ≡ good members && in_order wants behind
    unfolding in_order structure_then
    structure_row wants = ap (structure_then good (in_order wants)) is

    pub structure_met : good members ≡ true → (wants : List Want) → in_order ((tag holds good) ∷ wants) items ≡ in_order wants behind
    structure_met met wants = structure_row wants ∙ ap (λ b. b && in_order wants behind) met

    pub structure_failed : good members ≡ false → (wants : List Want) → in_order ((tag holds good) ∷ wants) items ≡ false
    structure_failed failed wants = structure_row wants ∙ ap (λ b. b && in_order wants behind) failed

    pub structure_alone : good members ≡ has (tag holds good) items
    structure_alone = sym (structure_row [] ∙ ap (λ b. good members && b) (none_left behind) ∙ and-true (good members))

-- a row by itself
pub row_alone : (want : Want) (items : Items) (r : Option Run) → Row want items r → is_some r ≡ has want items
row_alone want items None told = sym (told [])
row_alone want items (Some behind) told = sym (told.0 [] ∙ none_left (items_of behind))

pub number_alone : (tag kind : ℕ) (items : Items) (r : Option (ℕ × Run)) → FoundNumber tag kind items r
    → is_some r ≡ has (tag is_a kind with any) items
number_alone tag kind items None told = sym (value_missed tag kind any items told [])
number_alone tag kind items (Some p) told = value_alone tag kind any items told.0 (items_of p.1) told.1

-- ------------------------------------------------------------------------
-- Something that is there where all is good

-- a test of what was found, where something was
pub some_and : {A : Type 0} (P : Type 0) (Q R : A → Type 0) (o : Option A) (r b : Bool) → MatchOption o (r ≡ false) R → MatchOption o P Q
    → (P → b ≡ false) → ((x : A) → R x → Q x → r ≡ b) → r ≡ b
some_and P Q R None r b tested found none some = tested ∙ sym (none found)
some_and P Q R (Some x) r b tested found none some = some x tested found

pub gives_as : {A B : Type 0} {good other : Bool} {x y : B} (shown : A → B) (r : Option A) → good ≡ other → x ≡ y
    → GivesIf good shown x r → GivesIf other shown y r
gives_as shown None e f told = sym e ∙ told
gives_as shown (Some a) e f told = (sym e ∙ told.0, told.1 ∙ f)

pub given_by : {A B : Type 0} (shown : A → B) (a : A) {x : B} (good b : Bool) → b ≡ good → shown a ≡ x → GivesIf good shown x (then_some b a)
given_by shown a good true e f = (sym e, f)
given_by shown a good false e f = sym e

-- the members of a structure give it
module _ (tag : ℕ) (good : Items → Bool) (items : Items) {A B : Type 0} (shown : A → B) (of : Items → B) where
  pub structure_gives : (members behind : Items) → from tag items ≡ structure tag members behind
      → (r : Option A) → GivesIf (good members) shown (of members) r → GivesIf (has (tag holds good) items) shown (of (members_of (from tag items))) r
  structure_gives members behind is r =
      gives_as shown r (structure_alone tag good items members behind is) (ap (λ i. of (members_of i)) (sym is))

-- a structure behind a row that was met gives it
module _ (first : Want) (items rest : Items)
    (met : ((wants : List Want) → in_order (first ∷ wants) items ≡ in_order wants rest) × (behind_of (from (tag_of first) items) ≡ rest))
    (tag : ℕ) (good : Items → Bool) where
  pub last_missed : ((g more : Items → Bool) → structure_then g more (from tag rest) ≡ false)
      → in_order (first ∷ (tag holds good) ∷ []) items ≡ false
  last_missed missed = met.0 ((tag holds good) ∷ []) ∙ structure_missed tag good rest missed []

  pub last_gives : {A B : Type 0} (shown : A → B) (of : Items → B) (members behind : Items) → from tag rest ≡ structure tag members behind
      → (r : Option A) → GivesIf (good members) shown (of members) r
      → GivesIf (in_order (first ∷ (tag holds good) ∷ []) items) shown (of (members_of (from tag (behind_of (from (tag_of first) items))))) r
  last_gives shown of members behind is r =
      gives_as shown r (structure_alone tag good rest members behind is ∙ sym (met.0 ((tag holds good) ∷ [])))
      (ap of (sym (ap (λ i. members_of (from tag i)) met.1 ∙ ap members_of is)))
