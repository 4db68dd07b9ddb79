-- What unwrapping comes to for a caller in C.
-- Assumes nothing.
use mathlib.Core.Path.{◌≡◌, sym, ap, ◌∙◌}
use mathlib.Core.Bool.{true, false}
use mathlib.Core.Option.{none}
use Rattle.std.specs.Prelude.{Ok, Err}
use mathlib.Core.List.{List}
use Prim.Native.Nat.{ℕ}
use lib.ListN.{length, drop}
use borrow.Author.Tests.{eq-eqb}
use Rattle.rules.specs.declared.Granted.TheVariants.{Done}
use Rattle.rules.specs.Answers.{07·10, number}
use Rattle.rules.specs.KeyWrap.{wrap, unwrap}
use Rattle.wrap.specs.Wrapping.{wrapped_in, Opening, told, opened_in}
use Rattle.drive.proofs.WrappedLaws.{opened_by, shut, opens}
use Rattle.tuffaleen_c.specs.Courier.{CUnwrapped, unwrapped, c_unwrap}

pub wrapped_by : (kek bytes : List ℕ) → length kek ≡ 32 → length bytes ≡ 40 → wrapped_in kek bytes ≡ wrap kek (drop 8 bytes)
unfolding wrapped_in
wrapped_by kek bytes k l = rw (eq-eqb (length kek) 32 k, eq-eqb (length bytes) 40 l)

module _ (kek bytes left : List ℕ) (k : length kek ≡ 32) (l : length bytes ≡ 40) (n : ℕ) where
  pub c_opened : ◌≡◌ {A = Opening} (record { opened = true; bytes = left }) (opened_in kek bytes) → n ≡ number (Ok Done)
      → ◌≡◌ {A = CUnwrapped} (record { number = n; bytes = left }) (c_unwrap kek bytes)
  unfolding c_unwrap
  c_opened e d =
      let is = e ∙ opened_by kek bytes k l in
      let o = opens (unwrap kek bytes) (ap (λ (x : Opening). x.opened) is) in
      let b = ap (λ (x : Opening). x.bytes) is ∙ o.bytes in
      (λ i. record { number = d i; bytes = b i }) ∙ sym (ap unwrapped o.is)

  pub c_shut : ◌≡◌ {A = Opening} (record { opened = false; bytes = left }) (opened_in kek bytes) → n ≡ number (Err 07·10)
      → ◌≡◌ {A = CUnwrapped} (record { number = n; bytes = left }) (c_unwrap kek bytes)
  unfolding c_unwrap told
  c_shut e d =
      let is = e ∙ opened_by kek bytes k l in
      let z : unwrap kek bytes ≡ none = shut (unwrap kek bytes) (ap (λ (x : Opening). x.opened) is) in
      let b = ap (λ (x : Opening). x.bytes) is ∙ ap (λ o. (told o).bytes) z in
      (λ i. record { number = d i; bytes = b i }) ∙ sym (ap unwrapped z)
