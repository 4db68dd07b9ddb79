-- Big-endian numbers by their bytes, and the fields of a feature, which lie in its front.
-- Assumes nothing.
use Rattle.std.specs.Int.{w16, w32, from_be_bytes}
use mathlib.Core.Path.{◌≡◌, ap, ◌∙◌}
use mathlib.Core.List.{List, [], ◌∷◌}
use Prim.Native.Nat.{ℕ, ◌+◌, ◌-◌, ◌<◌, ◌≤◌}
use native.Mathlib.Omega.{arith}
use lib.ListN.{length, get_or}
use Rattle.cells.specs.Cells.{part}
use Rattle.cells.proofs.CellsLaws.{part_next, part_four, part_byte, part_part}
use Rattle.std.specs.Prelude.{Option, Some, None, MatchOption, IsSomeAnd, cond, ltb}
use Rattle.std.specs.Array.{IsFirstChunk}
use Rattle.std.specs.Borrow.{Bor}
use Rattle.std.proofs.Common.{get_or-take, take, lit<, lit≤, lt-ltb, le-ltb}
use Rattle.rules.specs.declared.Tper.{Tper}
use Rattle.rules.specs.Numbers.{tper_size, key_per_io_size}
use Rattle.rules.specs.Fields.{big_endian, big}
use Rattle.rules.specs.declared.KeyPerIo.{KeyPerIo}
use Rattle.rules.specs.Discovering.{tper_from, key_per_io_from, tper_in, key_per_io_in}

module _ (a : ℕ) (f : List ℕ) where
  pub word_is : a + 2 ≤ length f → from_be_bytes w16 (get_or f a 0 ∷ get_or f (a + 1) 0 ∷ []) ≡ big_endian (part a 2 f)
  unfolding big_endian
  word_is h = rw (part_next a (a + 1) 1 f (omega arith) (omega arith), part_byte (a + 1) f (omega arith)) (omega arith)

  pub dword_is : a + 4 ≤ length f
      → from_be_bytes w32 (get_or f a 0 ∷ get_or f (a + 1) 0 ∷ get_or f (a + 2) 0 ∷ get_or f (a + 3) 0 ∷ []) ≡ big_endian (part a 4 f)
  unfolding big_endian
  dword_is h = rw (part_four a (a + 1) (a + 2) f (omega arith) (omega arith) (a + 3) (omega arith) (omega arith)) (omega arith)

-- ------------------------------------------------------------------------
-- What is read of a front is read of the whole

module _ (f : List ℕ) (n : ℕ) (enough : n ≤ length f) where
  big_in_front : (a z : ℕ) → a + (z + 1 - a) ≤ n → big a z (take n f) ≡ big a z f
  unfolding part
  big_in_front a z h = let e : 0 + a ≡ a = omega arith in
      ap big_endian (part_part 0 n a (z + 1 - a) f (omega arith) h ∙ ap (λ k. part k (z + 1 - a) f) e)

tper_front : (f : List ℕ) → tper_size ≤ length f → tper_from (take tper_size f) ≡ tper_from f
unfolding tper_from
tper_front f h = rw (get_or-take tper_size f 2 0 (omega arith), get_or-take tper_size f 4 0 (omega arith))

key_per_io_front : (f : List ℕ) → key_per_io_size ≤ length f → key_per_io_from (take key_per_io_size f) ≡ key_per_io_from f
unfolding key_per_io_from
key_per_io_front f h =
    rw (
      get_or-take key_per_io_size f 2 0 (lit< tt),
      get_or-take key_per_io_size f 12 0 (lit< tt),
      get_or-take key_per_io_size f 13 0 (lit< tt),
      get_or-take key_per_io_size f 16 0 (lit< tt),
      get_or-take key_per_io_size f 19 0 (lit< tt),
      get_or-take key_per_io_size f 21 0 (lit< tt),
      get_or-take key_per_io_size f 23 0 (lit< tt),
      get_or-take key_per_io_size f 25 0 (lit< tt),
      get_or-take key_per_io_size f 27 0 (lit< tt),
      get_or-take key_per_io_size f 42 0 (lit< tt),
      big_in_front f key_per_io_size h 4 5 (lit≤ tt),
      big_in_front f key_per_io_size h 6 7 (lit≤ tt),
      big_in_front f key_per_io_size h 8 9 (lit≤ tt),
      big_in_front f key_per_io_size h 10 11 (lit≤ tt),
      big_in_front f key_per_io_size h 14 15 (lit≤ tt),
      big_in_front f key_per_io_size h 17 18 (lit≤ tt),
      big_in_front f key_per_io_size h 32 35 (lit≤ tt),
      big_in_front f key_per_io_size h 36 39 (lit≤ tt),
      big_in_front f key_per_io_size h 40 41 (lit≤ tt),
    )

module _ {T : Type 0} (size : ℕ) (from : List ℕ → T) (front : (f : List ℕ) → size ≤ length f → from (take size f) ≡ from f) where
  told : (f : List ℕ) (chunk : Option (Bor (List ℕ))) (r : Option T) → MatchOption chunk (length f < size) (λ y. IsFirstChunk f y.now size)
      → MatchOption chunk (r ≡ None) (λ y. IsSomeAnd r (λ t. t ≡ from y.now)) → r ≡ cond (ltb (length f) size) None (Some (from f))
  told f None r short is = rw (is, lt-ltb (length f) size short)
  told f (Some y) None whole is = absurd is
  told f (Some y) (Some t) whole is = rw (le-ltb (length f) size whole.enough, is, whole.same, front f whole.enough)

pub tper_told : (f : List ℕ) (chunk : Option (Bor (List ℕ))) (r : Option Tper)
    → MatchOption chunk (length f < tper_size) (λ y. IsFirstChunk f y.now tper_size)
    → MatchOption chunk (r ≡ None) (λ y. IsSomeAnd r (λ t. t ≡ tper_from y.now)) → r ≡ tper_in f
unfolding tper_in
tper_told = told tper_size tper_from tper_front

pub key_per_io_told : (f : List ℕ) (chunk : Option (Bor (List ℕ))) (r : Option KeyPerIo)
    → MatchOption chunk (length f < key_per_io_size) (λ y. IsFirstChunk f y.now key_per_io_size)
    → MatchOption chunk (r ≡ None) (λ y. IsSomeAnd r (λ k. k ≡ key_per_io_from y.now)) → r ≡ key_per_io_in f
unfolding key_per_io_in
key_per_io_told = told key_per_io_size key_per_io_from key_per_io_front
