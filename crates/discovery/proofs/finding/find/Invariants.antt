-- Assumes nothing.
use Rattle.std.proofs.Common.{◌≡◌, length}
use Rattle.rules.specs.Discovery.{tper_code, key_per_io_code}
use Rattle.rules.specs.Discovering.{features, runs_past}
use Rattle.discovery.proofs.WalkingLaws.{Seen}
use Rattle.discovery.proofs.finding.find.Given as goal

abbrev pub invariant-loop-rest : goal.invariant-loop-rest
invariant-loop-rest l = (runs_past (features 0 l.features) ≡ runs_past (features 0 l.rest))
    × Seen l.tper tper_code l.features l.rest × Seen l.key_per_io key_per_io_code l.features l.rest

abbrev pub decreases-loop-rest : goal.decreases-loop-rest
decreases-loop-rest l = length l.rest
