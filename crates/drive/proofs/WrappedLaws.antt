-- A wrapped load as the code takes it apart: the slot's checks, then 07 10 or a load
-- of the key that was opened where it lay.
-- Assumes nothing.
use Rattle.std.proofs.Common.{◌≡◌, ℕ, ◌+◌, ◌≤◌, true, false, List, [], ◌++◌, length, drop, sym, refl, ap, ◌∙◌, true≢false}
use Rattle.std.proofs.Common.{arith, length-append, eq-eqb}
use mathlib.Core.Option.{Option, none, some}
use Rattle.cells.specs.Cells.{part, write}
use Rattle.cells.proofs.CellsLaws.{length_part, length_write, part_write_in, part_write_before, drop_write, length_zeros, part_whole}
use Rattle.rules.specs.declared.Namespace.{Namespace}
use Rattle.rules.specs.declared.Tag.{Tag}
use Rattle.rules.specs.declared.Registers.{Registers}
use Rattle.rules.specs.declared.Refusal.{Refusal}
use Rattle.rules.specs.Numbers.{uid_most, key_size, wrapped_size, slots_size}
use Rattle.rules.specs.View.{view_of}
use Rattle.rules.specs.Checks.{AllPass}
use Rattle.rules.specs.Answers.{07·10}
use Rattle.rules.specs.State.{State, refuse, obey, key_encryption_key}
use Rattle.rules.specs.Slots.{Contents, FitKey, FitWrapped}
use Rattle.rules.specs.Frames.{contents_at}
use Rattle.rules.specs.KeyWrap.{initial_value, unwrap}
use Rattle.rules.specs.Order.{frame_rule, slot_checks, with_uid, load, load_wrapped}
use Rattle.rules.proofs.AesLaws.{unwrap_length}
use Rattle.rules.proofs.ChecksLaws.{judged_pass}
use Rattle.rules.proofs.WrappedLaws.{wrapped_rule, wrapped_is, wrapped_first, loads_clear}
use Rattle.wrap.specs.Wrapping.{told, opened_in}
use Rattle.std.specs.Prelude.{Err}
use Rattle.drive.specs.Acting.{state, replace_most, opened_at, located}
use Rattle.drive.proofs.ActingLaws.{refused_by}

-- with both sizes right, what is told of the opening is what unwrapping gives
pub opened_by : (kek bytes : List ℕ) → length kek ≡ 32 → length bytes ≡ wrapped_size → opened_in kek bytes ≡ told (unwrap kek bytes)
unfolding opened_in
opened_by kek bytes k l = rw (eq-eqb (length kek) 32 k, eq-eqb (length bytes) wrapped_size l)

pub shut : (o : Option (List ℕ)) → false ≡ (told o).opened → o ≡ none
unfolding told
shut none e = refl
shut (some key) e = absurd (true≢false (sym e))

pub record Open (o : Option (List ℕ)) : Type 0 where
  pub key : List ℕ
  pub is : o ≡ some key
  pub bytes : (told o).bytes ≡ initial_value ++ key

pub opens : (o : Option (List ℕ)) → true ≡ (told o).opened → Open o
unfolding told
opens none e = absurd (true≢false e)
opens (some key) e = record { key = key; is = refl; bytes = refl }

pub told_size : (o : Option (List ℕ)) → ((key : List ℕ) → o ≡ some key → length key ≡ key_size) → length (told o).bytes ≡ wrapped_size
unfolding told initial_value
told_size none h = length_zeros 40
told_size (some key) h = length-append initial_value key ∙ omega (arith, h key refl)

module _ (d : Registers) (keys marks : List ℕ) (ns : Namespace) (tag : Tag) (x : Contents) where
  abbrev s : State
  s = state d keys marks

  abbrev kek : List ℕ
  kek = drop slots_size keys

  by_rule : obey s (load_wrapped (view_of s) ns tag x) ≡ obey s (wrapped_rule s ns tag (with_uid x.uid (unwrap kek x.key)))
  unfolding frame_rule key_encryption_key
  by_rule = ap (obey s) (wrapped_is s ns tag x)

  pub wrapped_refused : (r : Refusal) → Err r ≡ located (state d [] []) ns tag → refuse s r ≡ obey s (load_wrapped (view_of s) ns tag x)
  wrapped_refused r e = sym (by_rule ∙ wrapped_first s ns tag (with_uid x.uid (unwrap kek x.key)) ∙ refused_by d keys marks ns tag r _ e)

  pub wrapped_shut : AllPass (slot_checks (view_of (state d [] [])) ns tag) → unwrap kek x.key ≡ none
      → refuse s 07·10 ≡ obey s (load_wrapped (view_of s) ns tag x)
  wrapped_shut p e =
      sym (by_rule ∙ ap (λ o. obey s (wrapped_rule s ns tag (with_uid x.uid o))) e ∙ wrapped_first s ns tag none
      ∙ judged_pass (slot_checks (view_of s) ns tag) (refuse s) (refuse s 07·10) p)

  pub wrapped_open : (key : List ℕ) → unwrap kek x.key ≡ some key
      → obey s (load (view_of s) ns tag (record { uid = x.uid; key = key })) ≡ obey s (load_wrapped (view_of s) ns tag x)
  wrapped_open key e =
      sym (by_rule ∙ ap (λ o. obey s (wrapped_rule s ns tag (with_uid x.uid o))) e ∙ loads_clear s ns tag (record { uid = x.uid; key = key }))

-- the frame, with what came out in the wrapped key's place
module _ (kek f : List ℕ) (l : ℕ) (fit : FitWrapped (contents_at wrapped_size 5 l f)) (room : 5 + l + wrapped_size ≤ length f) where
  pub uid_short : l ≤ uid_most
  uid_short = let e = length_part 5 l f (omega arith) in let m = fit.short in omega arith

  abbrev wrapped : List ℕ
  wrapped = part (5 + l) wrapped_size f

  abbrev o : Option (List ℕ)
  o = unwrap kek wrapped

  key_size_lem : (key : List ℕ) → o ≡ some key → length key ≡ key_size
  key_size_lem key e = unwrap_length kek wrapped key fit.whole e

  size : length (told o).bytes ≡ wrapped_size
  size = told_size o key_size_lem

  module _ (new : List ℕ) (e : new ≡ write (5 + l) wrapped_size (told o).bytes f) where
    pub new_room : 5 + l + wrapped_size ≤ length new
    new_room = let k = ap length e ∙ length_write (5 + l) wrapped_size (told o).bytes f (omega arith) size in omega arith

    pub rest_same : drop replace_most new ≡ drop replace_most f
    rest_same =
        let m = uid_short in
        ap (drop replace_most) e ∙ drop_write (5 + l) wrapped_size (told o).bytes f (omega arith) size replace_most (omega arith)

    module _ (p : Open o) where
      uid_same : part 5 l new ≡ part 5 l f
      uid_same = ap (part 5 l) e ∙ part_write_before (5 + l) wrapped_size (told o).bytes f (omega arith) size 5 l (omega arith)

      key_is : part (5 + l + 8) key_size new ≡ p.key
      unfolding part initial_value
      key_is =
          let k = key_size_lem p.key p.is in
          ap (part (5 + l + 8) key_size) e
          ∙ part_write_in (5 + l) wrapped_size (told o).bytes f (omega arith) size 8 key_size (omega arith)
          ∙ ap (part 8 key_size) p.bytes ∙ part_whole key_size p.key k

      pub contents_is : opened_at l new ≡ record { uid = part 5 l f; key = p.key }
      contents_is = λ i. record { uid = uid_same i; key = key_is i }

      pub opened_fits : FitKey (opened_at l new)
      opened_fits = rw contents_is (record { some = fit.some; short = fit.short; whole = key_size_lem p.key p.is })
