-- The answer to a line or a call: what an accepted frame is told, or the refusal.
-- Assumes nothing.
use Rattle.std.specs.Prelude.{Result}
use Rattle.rules.specs.declared.Granted.{Granted}
use Rattle.rules.specs.declared.Refusal.{Refusal}
pub use Rattle.rules.specs.declared.Granted.TheVariants.{Done, LockStates, Discovery}

abbrev pub Answer : Type 0
Answer = Result Granted Refusal
