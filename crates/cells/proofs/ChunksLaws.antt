-- A list seen as the cells at its front, as the library's `as_chunks` gives them.
-- Assumes nothing.
use mathlib.Core.Path.{◌≡◌, refl, sym, ap, ◌∙◌}
use mathlib.Core.Bool.{Bool, ◌||◌}
use mathlib.Core.List.{List, ◌∷◌, ◌++◌}
use Prim.Native.Nat.{ℕ, zero, suc, ◌+◌, ◌*◌, ◌-◌, ◌≤◌, ◌<◌}
use native.Mathlib.Nat.{suc-mul, zero-mul}
use native.Mathlib.Omega.{arith}
use lib.ListN.{length, get_or, take, drop, replicate}
use lib.Seq.{take-take, take_at, drop_at}
use Rattle.std.proofs.lemmas.List.{drop-take}
use Rattle.std.proofs.lemmas.List.Folds.{list_any-append}
use lib.Seq.{drop-drop}
use Rattle.std.specs.List.{list_any, flat_map}
use Rattle.std.specs.Simd.{first_chunks}
use Rattle.cells.specs.Cells.{part, cell, copies}
use Rattle.cells.specs.Predicates.{some_from, some_cell}

-- ------------------------------------------------------------------------
-- Which cells they are

next : (i w : ℕ) → w + i * w ≡ suc i * w
next i w = omega (arith, suc-mul i w)

pub length_chunks : (w n : ℕ) (xs : List ℕ) → length (first_chunks w n xs) ≡ n
length_chunks w zero xs = refl
length_chunks w (suc n) xs = ap suc (length_chunks w n (drop w xs))

pub take_chunks : (w n m : ℕ) (xs : List ℕ) → n ≤ m → take n (first_chunks w m xs) ≡ first_chunks w n xs
take_chunks w zero m xs h = refl
take_chunks w (suc n) zero xs h = absurd (omega arith)
take_chunks w (suc n) (suc m) xs h = ap (λ cs. take w xs ∷ cs) (take_chunks w n m (drop w xs) (omega arith))

pub drop_chunks : (w i m : ℕ) (xs : List ℕ) → i ≤ m → drop i (first_chunks w m xs) ≡ first_chunks w (m - i) (drop (i * w) xs)
drop_chunks w zero m xs h =
    let e : m - 0 ≡ m = omega arith in
    rw (zero-mul, e)
drop_chunks w (suc i) zero xs h = absurd (omega arith)
drop_chunks w (suc i) (suc m) xs h =
    let e : suc m - suc i ≡ m - i = omega arith in
    drop_chunks w i m (drop w xs) (omega arith)
    ∙ ap (first_chunks w (m - i)) (drop-drop (i * w) w xs ∙ ap (λ k. drop k xs) (next i w))
    ∙ ap (λ k. first_chunks w k (drop (suc i * w) xs)) (sym e)

pub chunk_at : (w i m : ℕ) (xs d : List ℕ) → i < m → get_or (first_chunks w m xs) i d ≡ cell w i xs
unfolding cell part
chunk_at w i zero xs d h = absurd (omega arith)
chunk_at w zero (suc m) xs d h = rw zero-mul
chunk_at w (suc i) (suc m) xs d h = chunk_at w i m (drop w xs) d (omega arith) ∙ ap (take w) (drop-drop (i * w) w xs ∙ ap (λ k. drop k xs) (next i w))

-- ------------------------------------------------------------------------
-- A test of each

pub some_any : (w i n : ℕ) (f : List ℕ → Bool) (xs : List ℕ) → some_from w i n (λ j c. f c) xs ≡ list_any f (first_chunks w n xs)
unfolding some_from
some_any w i zero f xs = refl
some_any w i (suc n) f xs = ap (λ b. f (take w xs) || b) (some_any w (suc i) n f (drop w xs))

pub some_cell_any : (w i n : ℕ) (f : List ℕ → Bool) (xs : List ℕ)
    → some_cell w i n (λ j c. f c) xs ≡ list_any f (first_chunks w n (drop (i * w) xs))
unfolding some_cell
some_cell_any w i n f xs = some_any w i n f (drop (i * w) xs)

-- ------------------------------------------------------------------------
-- Equal cells, one behind the other

pub flat_copies : (n : ℕ) (v : List ℕ) → flat_map (λ x. x) (replicate n v) ≡ copies n v
unfolding copies
flat_copies zero v = refl
flat_copies (suc n) v = ap (λ vs. v ++ vs) (flat_copies n v)

pub chunks_copies : (w n : ℕ) (v : List ℕ) → length v ≡ w → first_chunks w n (copies n v) ≡ replicate n v
unfolding copies
chunks_copies w zero v e = refl
chunks_copies w (suc n) v e =
    let t : take w (v ++ copies n v) ≡ v = take_at v (copies n v) w e in
    let d : drop w (v ++ copies n v) ≡ copies n v = drop_at v (copies n v) w e in
    rw (t, d) (ap (λ cs. v ∷ cs) (chunks_copies w n v e))

-- ------------------------------------------------------------------------
-- Cells of m cells each

-- the first n cells, in a front that has them
pub chunks_take : (w n k : ℕ) (xs : List ℕ) → n * w ≤ k → first_chunks w n (take k xs) ≡ first_chunks w n xs
chunks_take w zero k xs h = refl
chunks_take w (suc n) k xs h =
    let more = next n w in
    let e : w + (k - w) ≡ k = omega arith in
    let first : take w (take k xs) ≡ take w xs = take-take w k xs (omega arith) in
    let rest : drop w (take k xs) ≡ take (k - w) (drop w xs) = ap (λ j. drop w (take j xs)) (sym e) ∙ drop-take w (k - w) xs in
    rw (first, rest) (ap (λ cs. take w xs ∷ cs) (chunks_take w n (k - w) (drop w xs) (omega arith)))

chunks_join : (w m n : ℕ) (xs : List ℕ) → first_chunks w (m + n) xs ≡ first_chunks w m xs ++ first_chunks w n (drop (m * w) xs)
chunks_join w zero n xs =
    let e : 0 + n ≡ n = omega arith in
    rw (e, zero-mul)
chunks_join w (suc m) n xs =
    let e : suc m + n ≡ suc (m + n) = omega arith in
    let at = drop-drop (m * w) w xs ∙ ap (λ k. drop k xs) (next m w) in
    ap (λ k. first_chunks w k xs) e
    ∙ ap (λ cs. take w xs ∷ cs) (chunks_join w m n (drop w xs) ∙ ap (λ ys. first_chunks w m (drop w xs) ++ first_chunks w n ys) at)

pub any_nested : (w m k : ℕ) (f : List ℕ → Bool) (xs : List ℕ)
    → list_any (λ c. list_any f (first_chunks w m c)) (first_chunks (m * w) k xs) ≡ list_any f (first_chunks w (k * m) xs)
any_nested w m zero f xs = rw zero-mul
any_nested w m (suc k) f xs =
    ap (λ cs. list_any f cs || list_any (λ c. list_any f (first_chunks w m c)) (first_chunks (m * w) k (drop (m * w) xs)))
    (chunks_take w m (m * w) xs (omega arith))
    ∙ ap (λ b. list_any f (first_chunks w m xs) || b) (any_nested w m k f (drop (m * w) xs))
    ∙ sym (list_any-append f (first_chunks w m xs) (first_chunks w (k * m) (drop (m * w) xs)))
    ∙ ap (list_any f) (sym (chunks_join w m (k * m) xs) ∙ ap (λ n. first_chunks w n xs) (next k m))

-- the cells that lie in whole cells of m each, and those behind them
pub any_and_rest : (w m k n : ℕ) (f : List ℕ → Bool) (xs : List ℕ)
    → list_any (λ c. list_any f (first_chunks w m c)) (first_chunks (m * w) k xs) || list_any f (first_chunks w n (drop (k * m * w) xs))
    ≡ list_any f (first_chunks w (k * m + n) xs)
any_and_rest w m k n f xs =
    ap (λ b. b || list_any f (first_chunks w n (drop (k * m * w) xs))) (any_nested w m k f xs)
    ∙ sym (list_any-append f (first_chunks w (k * m) xs) (first_chunks w n (drop (k * m * w) xs)))
    ∙ ap (list_any f) (sym (chunks_join w (k * m) n xs))
