-- A cell that holds a value of any type is lent as `&κ mut`, and comes back:
-- `denote.Lend`'s `lends_ref` and `ref_back`, with what lies in memory taken apart.
--     lends_cell   (b, o) ↦ vs ∗ own h vs  ⊢ ⇛ ∃ γ. own (the `&κ mut T` ((b, o), γ, h)) ∗ the lender's part
--     cell_back    [†κ] ∗ the lender's part ∗ res γ h  ⊢ ⇛ ((b, o) ↦ vals h ∗ own h (vals h))
-- The cell is raw: `at_raw` makes one of a local's cell, and `raw_at` a local's cell of it again.
-- Assumes nothing.
use Prim.Native.Nat.{ℕ}
use mathlib.Core.List.{List, [], ◌∷◌}
use seplogic.Ra.Ura.{Ura}
use base.Fraction.{full_share}
use mir.Syntax.{Lifetime}
use mir.Val.{Val}
use base.Logic.{ent, sep, ex, via}
use base.Fml.{Lft, GName, fsep, fdead, flent, fres}
use types.Logic.{Logic, sem}
use types.Kit.{‵, later, ◌$◌, ◌∵◌, !, qed, use3, fsplit, fjoin, fpick, fpack, await, updating, now as at_once, done}
use types.SemTy.{Body}
use denote.RattleType.{RattleType}
use denote.Laws.{Is, Tells, shows}
use denote.Memory.{cell_at, part_at, part_of, mem}
use denote.Lend.{LentRef, lends_ref, ref_back}
use denote.Struct.Steps.{spelt}

module _ {M : Type 1} {𝓤 : Ura M} (𝓛 : Logic 𝓤) (T : RattleType) (κ : Lft) (b o : ℕ) where
  open 𝓛 use {H, A}

  pub lends_cell : (ℓ : Lifetime) (h : T.Denot) (vs : List Val)
      → ent 𝓤 (sep 𝓤 (sem 𝓛 (cell_at full_share T.mir vs b o)) (sem 𝓛 (T.own_val h vs)))
      (H.⇛ (ex 𝓤 (LentRef 𝓛 T ℓ κ h b o)))
  unfolding part_of
  lends_cell ℓ h vs =
      via 𝓤 (sem 𝓛 (part_at T full_share h b o))
      (qed 𝓛 (‵ (cell_at full_share T.mir vs b o) ∷ ‵ (T.own_val h vs) ∷ []) ∵ fjoin ! $
      fpack ! (List Val) (λ us. fsep (cell_at full_share T.mir us b o) (T.own_val h us)) vs $ done !)
      (lends_ref 𝓛 T ℓ κ h b o)

  pub cell_back : (vals : T.Denot → List Val) → Tells T (Is T) vals → (γ : GName) (h : T.Denot)
      → ent 𝓤 (sep 𝓤 (A.dead κ) (sep 𝓤 (A.lent κ (Body (mem T) b o γ)) (A.res γ (T.coded.code h))))
      (H.⇛ (sep 𝓤 (sem 𝓛 (cell_at full_share T.mir (vals h) b o)) (sem 𝓛 (T.own_val h (vals h)))))
  unfolding part_of
  cell_back vals tl γ h =
      qed 𝓛 (‵ (fdead κ) ∷ ‵ (flent κ (Body (mem T) b o γ)) ∷ ‵ (fres γ (T.coded.code h)) ∷ []) ∵ updating ! $
      use3 𝓛 (later (‵ (part_at T full_share h b o))) (ref_back 𝓛 T κ γ h b o) $ await ! tt $
      fpick ! (λ vs. fsplit ! $ spelt ! T (Is T) (shows 𝓛 T) vals tl full_share h vs b o $ at_once ! $ done !)
