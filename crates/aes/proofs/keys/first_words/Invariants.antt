-- Assumes nothing.
use mathlib.Core.Path.{◌≡◌}
use mathlib.Core.List.{◌++◌}
use lib.ListN.{length, drop}
use Rattle.aes.specs.ByTables.{words_of}
use Rattle.aes.proofs.keys.first_words.Given as goal

abbrev pub invariant-loop-i : goal.invariant-loop-i
invariant-loop-i l = (l.w ≡ words_of l.key l.i ++ drop l.i l.initial.w) × (length l.w ≡ 60)
