-- `aes::keys::first_words` meets its contract: the first i words are the key's, the rest is as it was.
-- Assumes nothing.
use mathlib.Core.Path.{◌≡◌, refl, ap, ◌∙◌}
use mathlib.Core.List.{[], ◌++◌}
use Prim.Native.Nat.{◌/◌}
use native.Mathlib.Omega.{arith}
use lib.ListN.{length, drop, set, get_or, length-set}
use Rattle.std.specs.Int.{w32, from_be_bytes}
use Rattle.aes.specs.ByTables.{words_of}
use Rattle.aes.proofs.LoopsLaws.{chunk_as_word, first_more}
use Rattle.aes.proofs.keys.first_words.Goals as goal

pub loop-i-init : goal.loop-i-init
unfolding words_of
loop-i-init c = (refl, omega arith)

pub loop-i-preserved : goal.loop-i-preserved
loop-i-preserved c =
    let key = c.args.key.now in
    let i = c.loop-i.i in
    let word =
    c.from_be_bytes.ensures ∙ ap (λ l. from_be_bytes w32 (get_or l i [])) c.as_chunks.ensures.front
    ∙ chunk_as_word key (length key / 4) i (omega (arith, c.as_chunks.ensures.front_len)) in (
      ap (λ l. set l i c.from_be_bytes.result) c.loop-i.invariant.0 ∙ first_more key c.args.w.now i _ word (omega (arith, c.as_chunks.ensures.front_len)),
      (simp length-set (omega arith)),
    )

pub returns : goal.returns
returns c =
    let all : c.loop-i.i ≡ 8 = omega (arith, c.as_chunks.ensures.front_len) in
    c.loop-i.invariant.0 ∙ ap (λ n. words_of c.args.key.now n ++ drop n c.args.w.now) all
