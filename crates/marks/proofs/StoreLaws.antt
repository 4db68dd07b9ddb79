-- The marks in a run's bytes: set to one identity, and looked at for another.
-- Assumes nothing.
use mathlib.Core.Path.{◌≡◌, refl, sym, ap, ◌∙◌}
use mathlib.Core.Bool.{Bool, true, false, ◌&&◌, ◌||◌}
use mathlib.Core.List.{List, [], ◌++◌, append-nil, append_assoc}
use Prim.Native.Nat.{ℕ, zero, suc, ◌+◌, ◌*◌, ◌-◌, ◌/◌, ◌%◌, ◌≤◌}
use native.Mathlib.Nat.{zero-mul, suc-mul}
use native.Mathlib.Omega.{arith}
use native.Mathlib.Numerals.{add-one}
use lib.ListN.{length, take, drop, replicate, drop_of_length-le, length-drop}
use lib.Seq.{length-take-le}
use denote.Bor.{Bor}
use lib.Pointwise.{pointwise}
use Rattle.std.specs.Prelude.{Option, Some, None}
use Rattle.std.specs.Option.{MatchOption, option_eq}
use Rattle.std.specs.Array.{IsWholeChunk}
use Rattle.std.specs.List.{list_any}
use Rattle.std.specs.Simd.{first_chunks}
use Rattle.std.proofs.lemmas.Nat.{div-add-mod'}
use Rattle.cells.specs.Cells.{write, copies, fill}
use Rattle.cells.proofs.CellsLaws.{length_copies, copies_more, push}
use Rattle.cells.proofs.ChunksLaws.{some_cell_any, chunks_copies, chunks_take, any_and_rest}
use Rattle.rules.specs.Numbers.{mark_width, mark_places, store_size}
use Rattle.rules.specs.Marks.{differs}
use Rattle.rules.proofs.MarksLaws.{same_differs}
use Rattle.marks.specs.Runs.{run, one_differs}
use Rattle.marks.specs.Store.{in_store, some_differs, marked}
use borrow.Author.Tests.{eq-eqb, eqb-true, leb-true}
use lib.Dec.{eqb, leb}
use Rattle.cells.specs.Predicates.{same}
use Rattle.cells.proofs.PredicatesLaws.{and_left, and_right, same_eq, pointwise_same, to_false}

-- ------------------------------------------------------------------------
-- Cells of one list's bytes, set one by one

-- the first i are set, and the next
pub set_next : (w i : ℕ) (v xs : List ℕ) {now : List ℕ} → length v ≡ w → now ≡ copies i v ++ drop (i * w) xs
    → take (i * w) now ++ (v ++ drop (i * w + w - i * w) (drop (i * w) now)) ≡ copies (i + 1) v ++ drop ((i + 1) * w) xs
set_next w i v xs full is =
    let next : i * w + w ≡ (i + 1) * w = omega (arith, suc-mul i w, ap (λ k. k * w) (add-one i)) in
    rw (is, push (copies i v) xs v (i * w) (i * w + w) (length_copies w i v full) (omega arith), next)
    (ap (λ ys. ys ++ drop ((i + 1) * w) xs) (copies_more i v ∙ ap (λ k. copies k v) (sym (add-one i))))

-- all of them
pub set_all : (w : ℕ) (v xs : List ℕ) → length xs % w ≡ 0 → copies (length xs / w) v ++ drop (length xs / w * w) xs ≡ copies (length xs / w) v
set_all w v xs whole =
    let e : drop (length xs / w * w) xs ≡ [] = drop_of_length-le xs {i = length xs / w * w} (omega (arith, div-add-mod' (length xs) w)) in
    rw (e, append-nil)

-- ------------------------------------------------------------------------
-- Whether one differs

-- a mark against an identity as an array, which one of another length is not
pub array_same : (identity : List ℕ) (mark : Bor (List ℕ)) (array : Option (Bor (List ℕ))) → length mark.now ≡ mark_width
    → MatchOption array (length identity ≡ mark_width → ⊥) (λ y. IsWholeChunk identity y.now mark_width)
    → option_eq (λ (x : Bor (List ℕ)) (y : Bor (List ℕ)). pointwise eqb x.now y.now) (Some mark) array ≡ same mark.now identity
array_same identity mark None size wrong = to_false _ (λ e. wrong (sym (ap length (same_eq _ _ e)) ∙ size))
array_same identity mark (Some y) size is = pointwise_same mark.now y.now ∙ ap (same mark.now) is.same

none_differs : (n : ℕ) (v : List ℕ) → list_any (λ m. differs v m) (replicate n v) ≡ false
none_differs zero v = refl
none_differs (suc n) v = rw (same_differs v v refl) (none_differs n v)

-- a run that is the pattern
pub pattern_same : (v xs : List ℕ) → length v ≡ mark_width → length xs ≡ run * mark_width → xs ≡ copies run v → one_differs v xs ≡ false
pattern_same v xs full size is =
    let n : length xs / mark_width ≡ run = omega arith in
    ap (λ k. list_any (λ m. differs v m) (first_chunks mark_width k xs)) n
    ∙ ap (λ ys. list_any (λ m. differs v m) (first_chunks mark_width run ys)) is
    ∙ ap (list_any (λ m. differs v m)) (chunks_copies mark_width run v full)
    ∙ none_differs run v

-- ------------------------------------------------------------------------
-- Run by run, and the rest

copies_join : (m n : ℕ) (v : List ℕ) → copies m v ++ copies n v ≡ copies (m + n) v
unfolding copies
copies_join zero n v =
    let e : 0 + n ≡ n = omega arith in
    ap (λ k. copies k v) (sym e)
copies_join (suc m) n v =
    let e : suc (m + n) ≡ suc m + n = omega arith in
    append_assoc v (copies m v) (copies n v) ∙ ap (λ vs. v ++ vs) (copies_join m n v) ∙ ap (λ k. copies k v) e

copies_nested : (m k : ℕ) (v : List ℕ) → copies k (copies m v) ≡ copies (k * m) v
unfolding copies
copies_nested m zero v = rw zero-mul
copies_nested m (suc k) v =
    let e : m + k * m ≡ suc k * m = omega (arith, suc-mul k m) in
    ap (λ vs. copies m v ++ vs) (copies_nested m k v) ∙ copies_join m (k * m) v ∙ ap (λ n. copies n v) e

-- the marks of l bytes, in whole runs and behind them
pub set_by_runs : (l : ℕ) (v runs rest : List ℕ) → length runs ≡ l / (run * mark_width) * (run * mark_width)
    → length rest + l / (run * mark_width) * (run * mark_width) ≡ l
    → copies (length runs / (run * mark_width)) (copies run v) ++ copies (length rest / mark_width) v ≡ copies (l / mark_width) v
set_by_runs l v runs rest whole all =
    let k = length runs / (run * mark_width) in
    let e : length runs / (run * mark_width) * run + length rest / mark_width ≡ l / mark_width = omega arith in
    ap (λ vs. vs ++ copies (length rest / mark_width) v) (copies_nested run k v)
    ∙ copies_join (k * run) (length rest / mark_width) v
    ∙ ap (λ n. copies n v) e

module _ (v : List ℕ) where
  each_run : (k : ℕ) (xs : List ℕ) → k * (run * mark_width) ≤ length xs
      → list_any (λ c. one_differs v c) (first_chunks (run * mark_width) k xs)
      ≡ list_any (λ c. list_any (λ m. differs v m) (first_chunks mark_width run c)) (first_chunks (run * mark_width) k xs)
  each_run zero xs h = refl
  each_run (suc k) xs h =
      let l : length (take (run * mark_width) xs) ≡ run * mark_width = length-take-le (run * mark_width) xs (omega arith) in
      let n : length (take (run * mark_width) xs) / mark_width ≡ run = omega arith in
      rw (n, each_run k (drop (run * mark_width) xs) (simp length-drop (omega arith)))

  -- b tells whether one of the runs has a mark that differs
  pub by_runs : (xs rest : List ℕ) {b : Bool}
      → b ≡ list_any (λ c. one_differs v c) (first_chunks (run * mark_width) (length xs / (run * mark_width)) xs)
      → rest ≡ drop (length xs / (run * mark_width) * (run * mark_width)) xs → one_differs v xs ≡ b || one_differs v rest
  by_runs xs rest in_runs is =
      let k : ℕ = length xs / (run * mark_width) in
      let l : length rest ≡ length xs - length xs / (run * mark_width) * (run * mark_width) =
      ap length is ∙ length-drop (length xs / (run * mark_width) * (run * mark_width)) xs in
      let n : length xs / (run * mark_width) * run + length rest / mark_width ≡ length xs / mark_width = omega arith in
      let at : length xs / (run * mark_width) * run * mark_width ≡ length xs / (run * mark_width) * (run * mark_width) = omega arith in
      let d : drop (length xs / (run * mark_width) * run * mark_width) xs ≡ rest = ap (λ j. drop j xs) at ∙ sym is in
      sym (
      ap (λ a. a || one_differs v rest) (in_runs ∙ each_run k xs (omega arith))
      ∙ ap (λ ys. list_any (λ c. list_any (λ m. differs v m) (first_chunks mark_width run c)) (first_chunks (run * mark_width) k xs)
      || list_any (λ m. differs v m) (first_chunks mark_width (length rest / mark_width) ys)) (sym d)
      ∙ any_and_rest mark_width run k (length rest / mark_width) (λ m. differs v m) xs
      ∙ ap (λ j. list_any (λ m. differs v m) (first_chunks mark_width j xs)) n
      )

-- ------------------------------------------------------------------------
-- The run of n marks from first, as it is lent

pub in_store_then : (marks : List ℕ) (first n : ℕ) → in_store marks first n ≡ true → (length marks ≡ store_size) × (first + n ≤ mark_places)
in_store_then marks first n e =
    let size = eqb-true (length marks) store_size (and_left _ _ (and_left _ (leb n (mark_places - first)) e)) in
    let start = leb-true first mark_places (and_right (eqb (length marks) store_size) _ (and_left _ (leb n (mark_places - first)) e)) in
    let end = leb-true n (mark_places - first) (and_right (eqb (length marks) store_size && leb first mark_places) _ e) in
    (size, omega arith)

module _ (first n : ℕ) (v marks : List ℕ) (there : in_store marks first n ≡ true) where
  abbrev lent : List ℕ
  lent = take ((first + n) * mark_width - first * mark_width) (drop (first * mark_width) marks)

  width : (first + n) * mark_width - first * mark_width ≡ n * mark_width
  width = omega arith

  count : length lent / mark_width ≡ n
  count =
      let sized = in_store_then marks first n there in
      let l : length (take (n * mark_width) (drop (first * mark_width) marks)) ≡ n * mark_width =
      length-take-le (n * mark_width) (drop (first * mark_width) marks) (simp length-drop (omega (arith, sized.0, sized.1))) in
      rw width (omega (arith, l))

  pub some_differs_is : one_differs v lent ≡ some_differs first n v marks
  unfolding some_differs
  some_differs_is =
      ap (λ k. list_any (λ m. differs v m) (first_chunks mark_width k lent)) count
      ∙ ap (list_any (λ m. differs v m))
      (chunks_take mark_width n ((first + n) * mark_width - first * mark_width) (drop (first * mark_width) marks) (omega arith))
      ∙ sym (some_cell_any mark_width first n (λ m. differs v m) marks)
      ∙ (rw there)

  pub marked_is : length v ≡ mark_width → {now : List ℕ} → now ≡ copies (length lent / mark_width) v
      → take (first * mark_width) marks ++ (now ++ drop ((first + n) * mark_width - first * mark_width) (drop (first * mark_width) marks))
      ≡ marked first n v marks
  unfolding marked fill write
  marked_is full is = rw (is, count, width, there, eq-eqb (length v) mark_width full)
