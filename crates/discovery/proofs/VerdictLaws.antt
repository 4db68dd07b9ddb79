-- What was tested on the way is the reader's verdict.
-- Assumes nothing.
use Rattle.std.proofs.Common.{◌≡◌, ℕ, ◌+◌, ◌-◌, ◌≤◌, ◌<◌, true, false, List, []}
use Rattle.std.proofs.Common.{length, take, refl, ap, sym, ◌∙◌, arith, le-ltb, lt-ltb}
use Rattle.std.specs.Prelude.{Option, Some, None, Result, Ok, Err, MatchOption, IsErrAnd}
use Rattle.std.specs.Borrow.{Bor}
use Rattle.std.specs.List.{slice_range}
use Rattle.discovery.specs.declared.Found.{Found}
use Rattle.rules.specs.declared.DiscoveryHeader.{DiscoveryHeader}
use mathlib.Core.Logic.{◌⊎◌, ⊎_elim, by_cases}
use native.Mathlib.Decide.{dec_lt}
use Rattle.cells.specs.Cells.{part}
use Rattle.cells.proofs.CellsLaws.{part_part}
use Rattle.rules.specs.declared.Refusal.{Refusal}
use Rattle.rules.specs.declared.Tper.{Tper}
use Rattle.rules.specs.declared.KeyPerIo.{KeyPerIo}
use Rattle.rules.specs.declared.Discovered.{Discovered}
use Rattle.rules.specs.Numbers.{length_size, header_size}
use Rattle.rules.specs.Answers.{07·16}
use Rattle.rules.specs.Fields.{big_endian}
use Rattle.rules.specs.Discovery.{tper_code, key_per_io_code}
use Rattle.rules.specs.Discovering.{end_of, header_from, features, runs_past, first_of, tper_in, key_per_io_in, found_in, discovered}
use Rattle.discovery.specs.Walking.{bytes_of, First}

-- a feature that is not there is read as no bytes are
read_is : {T : Type 0} (read : List ℕ → Option T) (f : Option (Bor (List ℕ))) (r : Option T) → read [] ≡ None
    → MatchOption f (r ≡ None) (λ b. r ≡ read b.now) → r ≡ read (bytes_of f)
read_is read None r none is = is ∙ sym none
read_is read (Some b) r none is = is

no_tper : tper_in [] ≡ None
unfolding tper_in
no_tper = refl

no_key_per_io : key_per_io_in [] ≡ None
unfolding key_per_io_in
no_key_per_io = refl

pub is_error : {A : Type 0} (r : Result A Refusal) (e : Refusal) → IsErrAnd r (λ x. x ≡ e) → r ≡ Err e
is_error (Ok x) e is = absurd is
is_error (Err x) e is = ap Err is

module _ (d : List ℕ) (enough : header_size ≤ length d) {head : List ℕ} (front : head ≡ take header_size d) where
  part_in_front : (a n : ℕ) → a + n ≤ header_size → part a n head ≡ part a n d
  unfolding part
  part_in_front a n h = let z : 0 + a ≡ a = omega arith in ap (part a n) front ∙ part_part 0 header_size a n d enough h ∙ ap (λ k. part k n d) z

  same_header : header_from head ≡ header_from d
  unfolding header_from
  same_header = rw (part_in_front 4 4 (omega arith), part_in_front 16 32 (omega arith))

  module _ {end : ℕ} (at : end ≡ length_size + big_endian (part 0 4 head)) where
    end_is : end ≡ end_of d
    end_is = at ∙ ap (λ l. length_size + big_endian l) (part_in_front 0 4 (omega arith))

    pub no_features : (end < header_size) ⊎ (length d < end) → ◌≡◌ {A = Result Discovered Refusal} (Err 07·16) (discovered d)
    unfolding discovered
    no_features out =
        by_cases (dec_lt (end_of d) header_size)
        (λ low. rw (le-ltb (length d) header_size enough, lt-ltb (end_of d) header_size low))
        (λ high.
        let past : length d < end_of d = ⊎_elim (λ low. absurd (omega (arith, end_is))) (λ p. omega (arith, end_is)) out in
        rw (le-ltb (length d) header_size enough, le-ltb (end_of d) header_size (omega arith), lt-ltb (length d) (end_of d) past))

    module _ {f : List ℕ} (low : header_size ≤ end) (inside : end ≤ length d) (is : f ≡ slice_range d header_size end) where
      features_are : f ≡ part header_size (end_of d - header_size) d
      unfolding part
      features_are = is ∙ ap (λ n. slice_range d header_size n) end_is

      pub past : runs_past (features 0 f) ≡ true → ◌≡◌ {A = Result Discovered Refusal} (Err 07·16) (discovered d)
      unfolding discovered
      past runs =
          let ran : runs_past (features 0 (part header_size (end_of d - header_size) d)) ≡ true =
          ap (λ l. runs_past (features 0 l)) (sym features_are) ∙ runs in
          rw (
            le-ltb (length d) header_size enough,
            le-ltb (end_of d) header_size (omega (arith, end_is)),
            le-ltb (length d) (end_of d) (omega (arith, end_is)),
            ran,
          )

      pub whole : (o : Found) {h : DiscoveryHeader} {t : Option Tper} {k : Option KeyPerIo} → h ≡ header_from head
          → (runs_past (features 0 f) ≡ false) × (First o.tper tper_code f × First o.key_per_io key_per_io_code f)
          → MatchOption o.tper (t ≡ None) (λ b. t ≡ tper_in b.now) → MatchOption o.key_per_io (k ≡ None) (λ b. k ≡ key_per_io_in b.now)
          → ◌≡◌ {A = Result Discovered Refusal} (Ok (record { header = h; tper = t; key_per_io = k })) (discovered d)
      unfolding discovered found_in
      whole o {h} {t} {k} header found tper key_per_io =
          let ran : runs_past (features 0 (part header_size (end_of d - header_size) d)) ≡ false =
          ap (λ l. runs_past (features 0 l)) (sym features_are) ∙ found.0 in
          let t_is : t ≡ tper_in (first_of tper_code (features 0 (part header_size (end_of d - header_size) d))) =
          read_is tper_in o.tper t no_tper tper ∙ ap tper_in (sym found.1.0) ∙ ap (λ l. tper_in (first_of tper_code (features 0 l))) features_are in
          let k_is : k ≡ key_per_io_in (first_of key_per_io_code (features 0 (part header_size (end_of d - header_size) d))) =
          read_is key_per_io_in o.key_per_io k no_key_per_io key_per_io ∙ ap key_per_io_in (sym found.1.1)
          ∙ ap (λ l. key_per_io_in (first_of key_per_io_code (features 0 l))) features_are in
          rw (
            le-ltb (length d) header_size enough,
            le-ltb (end_of d) header_size (omega (arith, end_is)),
            le-ltb (length d) (end_of d) (omega (arith, end_is)),
            ran,
            header ∙ same_header,
            t_is,
            k_is,
          )
