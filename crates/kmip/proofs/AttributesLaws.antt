-- What is asked of the Attributes of a run, item by item.
-- Assumes nothing.
use mathlib.Core.Path.{◌≡◌, refl, sym, ap, ◌∙◌}
use mathlib.Core.Bool.{Bool, true, false, not, ◌&&◌, ◌||◌, cond, or-false}
use mathlib.Core.List.{List}
use Prim.Native.Nat.{ℕ}
use lib.Dec.{eqb}
use Rattle.cells.specs.Predicates.{same}
use Rattle.rules.specs.Ttlv.{Items, Text}
use Rattle.rules.specs.Kmip.{has, ◌is_a◌with◌, vendored, each_vendored, named, Attribute, AttributeName}
use Rattle.kmip.specs.declared.run.Run.{Run}
use Rattle.kmip.specs.declared.members.Body.{Body}
use Rattle.kmip.specs.declared.members.Body.TheVariants.{Value, Structure}
use Rattle.kmip.specs.declared.members.Item.{Item}
use Rattle.kmip.specs.Runs.{items_of, with_body}

-- members that are the vendor's
abbrev pub vendored_body : Body → Bool
vendored_body (Value kind bytes) = false
vendored_body (Structure run) = vendored (items_of run)

abbrev pub vendored_item : Item → Bool
vendored_item x = not (eqb x.tag Attribute) || vendored_body x.body

each_by : (t : ℕ) (body : Body) (behind : Items)
    → each_vendored (with_body t body behind) ≡ (not (eqb t Attribute) || vendored_body body) && each_vendored behind
unfolding each_vendored
each_by t (Value kind bytes) behind = ap (λ b. b && each_vendored behind) (sym (or-false (not (eqb t Attribute))))
each_by t (Structure run) behind = refl

pub each_on : (x : Item) (behind : Items) → each_vendored (with_body x.tag x.body behind) ≡ vendored_item x && each_vendored behind
each_on x behind = each_by x.tag x.body behind

-- members that have this name
abbrev pub named_body : List ℕ → Body → Bool
named_body name (Value kind bytes) = false
named_body name (Structure run) = has (AttributeName is_a Text with (λ n. same n name)) (items_of run)

abbrev pub Unnamed : List ℕ → Item → Type 0
Unnamed name x = eqb x.tag Attribute && named_body name x.body ≡ false

unnamed_by : (name : List ℕ) (t : ℕ) (body : Body) (behind : Items) → eqb t Attribute && named_body name body ≡ false
    → named name (with_body t body behind) ≡ named name behind
unfolding named
unnamed_by name t (Value kind bytes) behind other = refl
unnamed_by name t (Structure run) behind other = ap (λ b. cond b (items_of run) (named name behind)) other

pub unnamed_over : (name : List ℕ) (x : Item) (behind : Items) → Unnamed name x → named name (with_body x.tag x.body behind) ≡ named name behind
unnamed_over name x behind other = unnamed_by name x.tag x.body behind other

abbrev pub Named : List ℕ → Item → Run → Type 0
Named name x run = (x.body ≡ Structure run) × (eqb x.tag Attribute && has (AttributeName is_a Text with (λ n. same n name)) (items_of run) ≡ true)

named_by : (name : List ℕ) (t : ℕ) (run : Run) (behind : Items)
    → eqb t Attribute && has (AttributeName is_a Text with (λ n. same n name)) (items_of run) ≡ true
    → named name (with_body t (Structure run) behind) ≡ items_of run
unfolding named
named_by name t run behind here = ap (λ b. cond b (items_of run) (named name behind)) here

pub named_here : (name : List ℕ) (x : Item) (run : Run) (behind : Items) → Named name x run → named name (with_body x.tag x.body behind) ≡ items_of run
named_here name x run behind h = ap (λ body. named name (with_body x.tag body behind)) h.0 ∙ named_by name x.tag run behind h.1
