-- What the stores of one item leave.
-- Assumes nothing.
use mathlib.Core.Path.{◌≡◌, sym, ap, ◌∙◌}
use mathlib.Core.List.{List, ◌++◌, append_assoc, append-nil}
use Prim.Native.Nat.{ℕ, ◌+◌, ◌-◌, ◌≤◌}
use native.Mathlib.Omega.{arith}
use lib.ListN.{length, take, drop, length-append, length-drop}
use lib.Seq.{drop-drop, drop_at, take_at, length-take-le}
use borrow.Author.Tests.{eq-eqb, ne_eqb}
use Rattle.cells.specs.Cells.{part, zeros}
use Rattle.cells.proofs.CellsLaws.{push, length_part, lent_is, lent_length_to}
use Rattle.rules.specs.Ttlv.{Structure, head, item_head, to_eight}
use Rattle.rules.proofs.TtlvFrontLaws.{length_head}
use Rattle.ttlv.specs.declared.Item.{Item}
use Rattle.ttlv.specs.Writing.{room_of}
use Rattle.ttlv.specs.Pieces.{piece_of, value_put, Inside}

-- a part from k to e, lent and back
part_back : (k e : ℕ) (v d : List ℕ) → k ≤ e → take k d ++ (v ++ drop (e - k) (drop k d)) ≡ (take k d ++ v) ++ drop e d
part_back k e v d h =
    let q : k + (e - k) ≡ e = omega arith in
    rw (drop-drop (e - k) k d, q) (sym (append_assoc (take k d) v (drop e d)))

-- where a value starts
abbrev from : ℕ
from = item_head

-- the value, then zeros
value_put_lem : (v out : List ℕ) → from + to_eight (length v) ≤ length out
    → let n = length v in
    let end = from + to_eight n in
    let o = take from out ++ (v ++ drop (from + n - from) (drop from out)) in
    take (from + n) o ++ (zeros (end - (from + n)) ++ drop (end - (from + n)) (drop (from + n) o)) ≡ value_put v out
unfolding value_put
value_put_lem v out l =
    let n = length v in
    let end = from + to_eight n in
    let p = take from out ++ v in
    let lp : length p ≡ from + n = length-append (take from out) v ∙ ap (◌+ n) (length-take-le from out (omega arith)) in
    let e : end - (from + n) ≡ to_eight n - n = omega arith in
    let z = zeros (to_eight n - n) in
    let rest = drop end out in
    ap (λ o. take (from + n) o ++ (zeros (end - (from + n)) ++ drop (end - (from + n)) (drop (from + n) o))) (part_back from (from + n) v out (omega arith))
    ∙ push p out (zeros (end - (from + n))) (from + n) end lp (omega arith)
    ∙ rw e (append_assoc p z rest ∙ append_assoc (take from out) v (z ++ rest) ∙ ap (λ x. take from out ++ x) (sym (append_assoc v z rest)))

pub room_head : (i : Item) → item_head ≤ room_of i
unfolding room_of
room_head i = omega arith

pub piece_head : (values : List ℕ) (i : Item) (out : List ℕ) → i.kind ≡ Structure
    → head i.tag i.kind i.length ++ drop item_head out ≡ piece_of values i ++ drop (room_of i) out
unfolding piece_of room_of
piece_head values i out e = sym (rw (eq-eqb i.kind Structure e, append-nil (head i.tag i.kind i.length)))

piece_value : (values : List ℕ) (i : Item) (out : List ℕ) → (i.kind ≡ Structure → ⊥) → length (part i.start i.length values) ≡ i.length
    → value_put (part i.start i.length values) (head i.tag i.kind i.length ++ drop item_head out) ≡ piece_of values i ++ drop (room_of i) out
unfolding piece_of room_of value_put
piece_value values i out n l =
    let h = head i.tag i.kind i.length in
    let v = part i.start i.length values in
    let lh = length_head i.tag i.kind i.length in
    let m = to_eight i.length in
    let z = zeros (m - i.length) in
    let d : drop (item_head + m) (h ++ drop item_head out) ≡ drop (item_head + m) out =
    sym (drop-drop m item_head (h ++ drop item_head out)) ∙ ap (drop m) (drop_at h (drop item_head out) item_head lh) ∙ drop-drop m item_head out in
    rw (l, take_at h (drop item_head out) item_head lh, d, ne_eqb i.kind Structure n) (sym (append_assoc h (v ++ z) (drop (item_head + m) out)))

-- the two loans of `put_value`, by what the callees leave
pub value_by : (v out y w : List ℕ) (m : ℕ) → m ≡ to_eight (length v) → from + to_eight (length v) ≤ length out
    → let n = length v in
    let end = from + m in
    let o = take from out ++ (y ++ drop (from + n - from) (drop from out)) in
    y ≡ v
    → w ≡ zeros (length (take (end - (from + n)) (drop (from + n) o)))
    → take (from + n) o ++ (w ++ drop (end - (from + n)) (drop (from + n) o)) ≡ value_put v out
value_by v out y w m em l ey ew =
    let n = length v in
    let end = from + m in
    let o = take from out ++ (y ++ drop (from + n - from) (drop from out)) in
    let o' = take from out ++ (v ++ drop (from + n - from) (drop from out)) in
    let lh : length (take from out) ≡ from = length-take-le from out (omega arith) in
    let lo : length o' ≡ length out = ap length (part_back from (from + n) v out (omega arith)) ∙ simp (length-append, length-drop, lh) (omega arith) in
    let oo : o ≡ o' = ap (λ a. take from out ++ (a ++ drop (from + n - from) (drop from out))) ey in
    let wz : w ≡ zeros (end - (from + n)) =
    ew
    ∙ ap (λ a. zeros (length (take (end - (from + n)) (drop (from + n) a)))) oo
    ∙ ap zeros (lent_length_to (from + n) end o' (omega arith)) in
    ap (λ a. take (from + n) a ++ (w ++ drop (end - (from + n)) (drop (from + n) a))) oo
    ∙ ap (λ a. take (from + n) o' ++ (a ++ drop (end - (from + n)) (drop (from + n) o'))) wz
    ∙ ap (λ k. take (from + n) o' ++ (zeros (from + k - (from + n)) ++ drop (from + k - (from + n)) (drop (from + n) o'))) em
    ∙ value_put_lem v out l

pub after_head : (i : Item) (out o : List ℕ) → item_head ≤ length out → o ≡ head i.tag i.kind i.length ++ drop item_head out
    → length o ≡ length out
after_head i out o h e = ap length e ∙ simp (length-append, length_head, length-drop) (omega arith)

-- an item with a value, by what the callees leave
pub piece_by : (values : List ℕ) (i : Item) (out o r : List ℕ) → (i.kind ≡ Structure → ⊥) → Inside values i
    → o ≡ head i.tag i.kind i.length ++ drop item_head out
    → r ≡ value_put (take (i.start + i.length - i.start) (drop i.start values)) o → r ≡ piece_of values i ++ drop (room_of i) out
piece_by values i out o r n h eo er =
    er
    ∙ ap (λ v. value_put v o) (lent_is i.start i.length values)
    ∙ ap (value_put (part i.start i.length values)) eo
    ∙ piece_value values i out n (length_part i.start i.length values (h.there n))
