-- A whole message: exactly one outermost item.
-- Assumes nothing.
use mathlib.Core.Path.{◌≡◌, refl, sym, ap, ◌∙◌}
use mathlib.Core.Bool.{Bool, true, false, ◌&&◌, cond, true≢false}
use mathlib.Core.List.{List}
use mathlib.Core.Option.{Option, none, some}
use Prim.Native.Nat.{ℕ}
use borrow.Author.Tests.{eq-eqb, ne_eqb}
use Rattle.std.specs.Prelude as std
use Rattle.std.specs.Prelude.{MatchOption}
use Rattle.rules.specs.Ttlv.{Items, end, value, structure, read_items}
use Rattle.rules.specs.Kmip.{in_order, request_message, is_request, payload_in, brought_by, load_in, load_of, RequestMessage}
use Rattle.ttlv.specs.ItemList.{is_some}
use Rattle.kmip.specs.declared.run.Run.{Run}
use Rattle.kmip.specs.declared.members.Body.{Body}
use Rattle.kmip.specs.declared.members.Body.TheVariants.{Value, Structure}
use Rattle.kmip.specs.declared.message.Load.{Load}
use Rattle.kmip.specs.Reading.{shown, loaded}
use Rattle.kmip.specs.Runs.{items_of, with_body, GivesIf}
use Rattle.kmip.proofs.RunLaws.{read_is}

no_items : (o : Option Items) → is_some o ≡ false → o ≡ none
no_items none e = refl
no_items (some items) e = absurd (true≢false e)

pub unsound_none : (ns tag : ℕ) (xs : List ℕ) → is_some (read_items xs) ≡ false → none ≡ load_of ns tag xs
unfolding load_in
unsound_none ns tag xs e = sym (ap (load_in ns tag) (no_items (read_items xs) e))

several : (ns tag t u : ℕ) (members : Items) (body : Body) (behind : Items) → is_request ns tag (structure t members (with_body u body behind)) ≡ false
unfolding is_request
several ns tag t u members (Value kind bytes) behind = refl
several ns tag t u members (Structure run) behind = refl

other_tag : (ns tag t : ℕ) (members behind : Items) → (t ≡ RequestMessage → ⊥) → is_request ns tag (structure t members behind) ≡ false
unfolding is_request
other_tag ns tag t members end other = ap (λ b. b && in_order (request_message ns tag) members) (ne_eqb t RequestMessage other)
other_tag ns tag t members (value u kind bytes behind) other = refl
other_tag ns tag t members (structure u others behind) other = refl

-- what was told of an option, where there is something
pub some_told : {A : Type 0} (P : Type 0) (Q : A → Type 0) (o : std.Option A) → std.is_some o ≡ true → MatchOption o P Q → (x : A) × Q x
some_told P Q std.None e told = cc
some_told P Q (std.Some x) e told = (x, told)

module _ (ns tag : ℕ) (xs : List ℕ) (run : Run) (is : run.bytes.now ≡ xs) where
  load_by : (b : Bool) → is_request ns tag (items_of run) ≡ b → load_of ns tag xs ≡ cond b (some (brought_by (payload_in (items_of run)))) none
  unfolding load_in
  load_by b e =
      ap (load_of ns tag) (sym is) ∙ ap (load_in ns tag) (read_is run.bytes.now run.sound)
      ∙ ap (λ c. cond c (some (brought_by (payload_in (items_of run)))) none) e

  none_by : is_request ns tag (items_of run) ≡ false → none ≡ load_of ns tag xs
  none_by e = sym (load_by false e)

  pub empty_none : items_of run ≡ end → none ≡ load_of ns tag xs
  unfolding is_request
  empty_none e = none_by (ap (is_request ns tag) e)

  module _ (t : ℕ) (body : Body) (behind : Items) (first : items_of run ≡ with_body t body behind) where
    pub other_none : ((members : Run) → body ≡ Structure members → ⊥) → none ≡ load_of ns tag xs
    unfolding is_request
    other_none other = none_by (ap (is_request ns tag) first ∙ by body other)
      where
        by : (b : Body) → ((members : Run) → b ≡ Structure members → ⊥) → is_request ns tag (with_body t b behind) ≡ false
        by (Value kind bytes) o = refl
        by (Structure members) o = absurd (o members refl)

    module _ (members : Run) (opens : body ≡ Structure members) where
      one : items_of run ≡ structure t (items_of members) behind
      one = first ∙ ap (λ b. with_body t b behind) opens

      pub several_none : (u : ℕ) (next : Body) (more : Items) → behind ≡ with_body u next more → none ≡ load_of ns tag xs
      several_none u next more e =
          none_by (ap (is_request ns tag) (one ∙ ap (structure t (items_of members)) e) ∙ several ns tag t u (items_of members) next more)

      pub tag_none : (t ≡ RequestMessage → ⊥) → none ≡ load_of ns tag xs
      tag_none other = none_by (ap (is_request ns tag) one ∙ other_tag ns tag t (items_of members) behind other)

      module _ (alone : behind ≡ end) where
        alone_is : items_of run ≡ structure t (items_of members) end
        alone_is = one ∙ ap (structure t (items_of members)) alone

        pub message_loads : t ≡ RequestMessage → (r : std.Option Load)
            → GivesIf (in_order (request_message ns tag) (items_of members)) shown (brought_by (payload_in (structure t (items_of members) end))) r
            → loaded r ≡ load_of ns tag xs
        unfolding is_request
        message_loads here r told = by r told
          where
            judged : is_request ns tag (items_of run) ≡ in_order (request_message ns tag) (items_of members)
            judged =
                ap (is_request ns tag) alone_is
                ∙ ap (λ b. b && in_order (request_message ns tag) (items_of members)) (eq-eqb t RequestMessage here)

            by : (o : std.Option Load)
                → GivesIf (in_order (request_message ns tag) (items_of members)) shown (brought_by (payload_in (structure t (items_of members) end))) o
                → loaded o ≡ load_of ns tag xs
            by std.None h = none_by (judged ∙ h)
            by (std.Some l) h =
                ap some (h.1 ∙ sym (ap (λ i. brought_by (payload_in i)) alone_is)) ∙ sym (load_by true (judged ∙ h.0))
