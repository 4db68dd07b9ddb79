-- Assumes nothing.
use mathlib.Core.Path.{◌≡◌}
use mathlib.Core.List.{◌++◌, map}
use lib.ListN.{take, drop}
use Rattle.aes.specs.ByTables.{unmixed_word}
use Rattle.aes.proofs.keys.unmix.Given as goal

abbrev pub invariant-loop-word : goal.invariant-loop-word
invariant-loop-word l =
    let old = l.initial.word-items in
    l.word-items ≡ map (unmixed_word l.tables.mix.now l.tables.sub.now) (take l.word-index old) ++ drop l.word-index old
