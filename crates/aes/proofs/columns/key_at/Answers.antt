-- `aes::columns::key_at` meets its contract: the words of chunk r are those of the round key.
-- Assumes nothing.
use mathlib.Core.Path.{◌≡◌, ap, ◌∙◌}
use mathlib.Core.List.{[]}
use Prim.Native.Nat.{ℕ, ◌+◌, ◌*◌, ◌/◌, ◌<◌}
use native.Mathlib.Nat.{add-zero}
use native.Mathlib.Omega.{arith}
use lib.ListN.{length, get_or}
use lib.Dec.{lit<}
use Rattle.aes.proofs.LoopsLaws.{chunk_word}
use Rattle.aes.proofs.columns.key_at.Goals as goal

pub returns : goal.returns
returns c =
    let w = c.args.w.now in
    let r = c.args.r in
    let keys = c.as_chunks.result.0.now in
    let at : (j : ℕ) → j < 4 → get_or (get_or keys r []) j 0 ≡ get_or w (4 * r + j) 0 =
    λ j h. ap (λ l. get_or (get_or l r []) j 0) c.as_chunks.ensures.front ∙ chunk_word w (length w / 4) r (omega arith) j h in
    let a = at 0 (lit< tt) ∙ ap (λ n. get_or w n 0) (add-zero (4 * r)) in
    let b = at 1 (lit< tt) in
    let d = at 2 (lit< tt) in
    let e = at 3 (lit< tt) in
    λ i. record { a = a i; b = b i; c = d i; d = e i }
