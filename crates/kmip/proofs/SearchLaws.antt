-- Looking through a run: items that are passed over, and the first of a tag.
-- Assumes nothing.
use mathlib.Core.Path.{◌≡◌, refl, sym, ap, ◌∙◌}
use mathlib.Core.Bool.{Bool, true, false, not, ◌&&◌}
use mathlib.Core.List.{List, [], ◌∷◌}
use Prim.Native.Nat.{ℕ, suc}
use lib.Dec.{eqb}
use borrow.Author.Tests.{eq-eqb, ne_eqb}
use Rattle.std.specs.Prelude.{Option, Some, None, MatchOption, IfSome, IsTrue, slice_get}
use Rattle.std.specs.Borrow.{Bor}
use Rattle.std.specs.Iterator.{Yields, YieldsThen, FindsMapped}
use Rattle.std.specs.Iterator.Runs.{SomeRun, AllItemsGive, AllItems, YieldsRun}
use Rattle.std.specs.Iterator.Runs as Runs
use Rattle.std.proofs.lemmas.Option.{IfSome_then}
use Rattle.std.specs.Fn.{Called}
use Rattle.std.specs.List.{FoldsTo}
use denote.Param.Members.{Mut}
use Rattle.rules.specs.Ttlv.{Items, end}
use Rattle.rules.specs.Kmip.{from, lacks, value_then, structure_then}
use Rattle.kmip.specs.declared.run.Run.{Run}
use Rattle.kmip.specs.declared.members.Body.{Body}
use Rattle.kmip.specs.declared.members.Body.TheVariants.{Value, Structure}
use Rattle.kmip.specs.declared.members.Item.{Item}
use Rattle.kmip.specs.Runs.{items_of, with_body, First}

-- the steps of a run's iterator
abbrev pub steps : Run → Option Item → Run → Type 0
steps s r t = MatchOption r (items_of s ≡ end) (λ item. First s item t)

-- what is asked of a run is asked of the run behind each item that the search passes over
module _ {F A : Type 0} (R : F → Item → F → Type 0) (f : F) (asked : Items → A) (Over : Item → Type 0)
    (over : (x : Item) (behind : Items) → Over x → asked (with_body x.tag x.body behind) ≡ asked behind) where
  pub passed : ((x : Item) (q : F) → R f x q → (q ≡ f) × Over x)
      → (xs : List Item) (s t : Run) (j : F) → Yields steps s xs t → FoldsTo R f xs j → (j ≡ f) × (asked (items_of s) ≡ asked (items_of t))
  passed acts [] s t j y k = (sym k, ap (λ r. asked (items_of r)) y)
  passed acts (x ∷ xs) s t j y k =
      let o = acts x k.0 k.1 in
      let ih = passed acts xs y.0 t j y.2 (rw o.0 at k.2) in
      (ih.0, ap asked y.1.is ∙ over x (items_of y.0) o.1 ∙ ih.1)

-- the same of a search that gives something of an item: it passed over all, or over those before the item that gave it
module _ {A : Type 0} (asked : Items → A) (Over : Item → Type 0)
    (over : (x : Item) (behind : Items) → Over x → asked (with_body x.tag x.body behind) ≡ asked behind) where
  all_over : (xs : List Item) (s t : Run) → ((k : ℕ) → IfSome (slice_get xs k) Over) → Yields steps s xs t → asked (items_of s) ≡ asked (items_of t)
  all_over [] s t each y = ap (λ r. asked (items_of r)) y
  all_over (x ∷ xs) s t each y =
      ap asked y.1.is ∙ over x (items_of y.0) (each 0) ∙ all_over xs y.0 t (λ k. each (suc k)) y.2

  whole_over : (p : Runs.Run steps) → p.whole ≡ true → AllItems p Over → asked (items_of p.from) ≡ asked end
  unfolding YieldsRun
  whole_over p whole each =
      let drained = p.gave.0 in
      all_over p.items p.from drained.0 (λ k. let e = p.gave.1 k in rw e at (each k)) drained.1 ∙ ap asked (drained.2 whole).1

  module _ {B : Type 0} (shown : B → A) (Here : Item → B → Type 0)
      (here : (x : Item) (b : B) (behind : Items) → Here x b → asked (with_body x.tag x.body behind) ≡ shown b)
      {F : Type 0} (g : Mut F (Item × Unit {0}) (Option B)) (f : F) (keeps : (x : Item) (r : Option B) (q : F) → Called g f (x, tt) r q → q ≡ f)
      (none : (x : Item) (q : F) → Called g f (x, tt) None q → Over x)
      (given : (x : Item) (b : B) (q : F) → Called g f (x, tt) (Some b) q → Here x b) where
    pub gave : (P : Runs.Run steps → B → Type 0) (r : Option B) (s u : Run) → FindsMapped steps g s f r u
        → SomeRun steps s (λ p. MatchOption r (IsTrue p.whole × AllItemsGive p g f None) (P p))
        → MatchOption r (asked (items_of s) ≡ asked end) (λ b. asked (items_of s) ≡ shown b)
    gave P None s u ran runs =
        let p = runs.0 in
        let each = runs.2.1 (λ a r q h. keeps a.0 r q h) in
        ap (λ r. asked (items_of r)) (sym runs.1)
        ∙ whole_over p runs.2.0 (λ k. IfSome_then (p.at k) (each k) (λ x h. none x f h))
    gave P (Some b) s u ran runs = by ran.1 ran.3.2 ran.5
      where
        before : (ran.2 ≡ f) × (asked (items_of s) ≡ asked (items_of ran.3.0))
        before = passed (λ p x q. Called g p (x, tt) None q) f asked Over over (λ x q h. (keeps x None q h, none x q h)) ran.0 s ran.3.0 ran.2 ran.3.1 ran.4

        by : (o : Option Item) → steps ran.3.0 o u → MatchOption o (Some b ≡ None) (λ x. (h : F) × Called g ran.2 (x, tt) (Some b) h)
            → asked (items_of s) ≡ shown b
        by None st m = cc
        by (Some x) st m = before.1 ∙ ap asked st.is ∙ here x b (items_of u) (given x b m.0 (rw before.0 at m.1))

-- what is asked of each item, and was asked of all
module _ {F : Type 0} {g : Mut F (Item × Unit {0}) Bool} (f : F) (asked : Items → Bool) (test : Item → Bool)
    (on : (x : Item) (behind : Items) → asked (with_body x.tag x.body behind) ≡ test x && asked behind) (none : asked end ≡ true) where
  pub all_asked : (r : Bool) (s u : Run)
      → (xs : List Item) × (o : Option Item) × (j : F) × YieldsThen steps s xs o u × FoldsTo (λ p x q. Called g p (x, tt) true q) f xs j
      × MatchOption o (r ≡ true) (λ x. (r ≡ false) × ((h : F) × Called g j (x, tt) false h))
      → ((x : Item) (b : Bool) (q : F) → Called g f (x, tt) b q → (q ≡ f) × (b ≡ test x))
      → r ≡ asked (items_of s)
  all_asked r s u ran acts =
      let p = passed (λ p x q. Called g p (x, tt) true q) f asked (λ x. true ≡ test x)
      (λ x behind over. on x behind ∙ ap (λ b. b && asked behind) (sym over)) (λ x q h. acts x true q h) ran.0 s ran.3.0 ran.2 ran.3.1 ran.4 in
      by ran.1 p.0 p.1 ran.3.2 ran.5
    where
      by : (o : Option Item) → ran.2 ≡ f → asked (items_of s) ≡ asked (items_of ran.3.0) → steps ran.3.0 o u
          → MatchOption o (r ≡ true) (λ x. (r ≡ false) × ((h : F) × Called g ran.2 (x, tt) false h)) → r ≡ asked (items_of s)
      by None e p y m = m ∙ sym (p ∙ ap asked y ∙ none)
      by (Some x) e p y m =
          let a = acts x false m.1.0 (rw e at m.1.1) in
          m.0 ∙ sym (p ∙ ap asked y.is ∙ on x (items_of u) ∙ ap (λ b. b && asked (items_of u)) (sym a.1))

-- ------------------------------------------------------------------------
-- Tags

abbrev pub Other : ℕ → Item → Type 0
Other tag x = x.tag ≡ tag → ⊥

from_other : (tag t : ℕ) (body : Body) (behind : Items) → (t ≡ tag → ⊥) → from tag (with_body t body behind) ≡ from tag behind
unfolding from
from_other tag t (Value kind bytes) behind other = rw (ne_eqb t tag other)
from_other tag t (Structure run) behind other = rw (ne_eqb t tag other)

pub from_over : (tag : ℕ) (x : Item) (behind : Items) → Other tag x → from tag (with_body x.tag x.body behind) ≡ from tag behind
from_over tag x behind other = from_other tag x.tag x.body behind other

pub from_here : (tag : ℕ) (body : Body) (behind : Items) → from tag (with_body tag body behind) ≡ with_body tag body behind
unfolding from
from_here tag (Value kind bytes) behind = rw (eq-eqb tag tag refl)
from_here tag (Structure run) behind = rw (eq-eqb tag tag refl)

lacks_by : (tag t : ℕ) (body : Body) (behind : Items) → lacks tag (with_body t body behind) ≡ not (eqb t tag) && lacks tag behind
unfolding lacks
lacks_by tag t (Value kind bytes) behind = refl
lacks_by tag t (Structure run) behind = refl

pub lacks_on : (tag : ℕ) (x : Item) (behind : Items) → lacks tag (with_body x.tag x.body behind) ≡ not (eqb x.tag tag) && lacks tag behind
lacks_on tag x behind = lacks_by tag x.tag x.body behind

-- ------------------------------------------------------------------------
-- Types

not_value : (kind tag : ℕ) (body : Body) (behind : Items) → ((bytes : Bor (List ℕ)) → body ≡ Value kind bytes → ⊥)
    → (good : List ℕ → Bool) (more : Items → Bool) → value_then kind good more (with_body tag body behind) ≡ false
unfolding value_then
not_value kind tag (Value k bytes) behind other good more = rw (ne_eqb k kind (λ e. other bytes (ap (λ j. Value j bytes) e)))
not_value kind tag (Structure run) behind other good more = refl

pub no_value : (kind tag : ℕ) (body : Body) (behind items : Items) → items ≡ with_body tag body behind
    → ((bytes : Bor (List ℕ)) → body ≡ Value kind bytes → ⊥)
    → (good : List ℕ → Bool) (more : Items → Bool) → value_then kind good more items ≡ false
no_value kind tag body behind items e other good more = ap (value_then kind good more) e ∙ not_value kind tag body behind other good more

not_structure : (tag : ℕ) (body : Body) (behind : Items) → ((run : Run) → body ≡ Structure run → ⊥)
    → (good more : Items → Bool) → structure_then good more (with_body tag body behind) ≡ false
unfolding structure_then
not_structure tag (Value k bytes) behind other good more = refl
not_structure tag (Structure run) behind other good more = absurd (other run refl)

pub no_structure : (tag : ℕ) (body : Body) (behind items : Items) → items ≡ with_body tag body behind → ((run : Run) → body ≡ Structure run → ⊥)
    → (good more : Items → Bool) → structure_then good more items ≡ false
no_structure tag body behind items e other good more = ap (structure_then good more) e ∙ not_structure tag body behind other good more
