-- Assumes nothing.
use mathlib.Core.Path.{◌≡◌}
use Prim.Native.Nat.{◌-◌}
use lib.ListN.{length, take}
use Rattle.aes.specs.ByTables.{expanded_by}
use Rattle.aes.proofs.keys.next_words.Given as goal

abbrev pub invariant-loop-i : goal.invariant-loop-i
invariant-loop-i l = (take l.i l.w ≡ expanded_by l.sub (take 8 l.initial.w) (l.i - 8)) × (length l.w ≡ 60)
