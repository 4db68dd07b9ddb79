-- The promises of discovery hold of the code, since what it leaves is what the
-- definitions say.
-- Assumes nothing.
use Rattle.rules.proofs.DiscoveryPromised as rules
use Rattle.promises.specs.Discovery.{DiscoveryDemands}
use Rattle.promises.proofs.LeavesLaws.{response_is, finding_is}

pub discovery_demands : DiscoveryDemands
discovery_demands = record {
  writer_refuses = λ f out o l. rules.writer_refuses f out o (response_is f out o l);
  writer_writes = λ f out o l. rules.writer_writes f out o (response_is f out o l);
  no_response_when = λ d o l. rules.no_response_when d o (finding_is d o l);
  fields_or_none = λ d o l. rules.fields_or_none d o (finding_is d o l);
  first_tper_counts = λ d o l. rules.first_tper_counts d o (finding_is d o l);
  first_key_per_io_counts = λ d o l. rules.first_key_per_io_counts d o (finding_is d o l);
  other_changes_nothing = λ d o l found a p b x other small o' l'.
      rules.other_changes_nothing d o (finding_is d o l) found a p b x other small o' (finding_is _ o' l');
  reads_back = λ f fit out w l a o l'. rules.reads_back f fit out w (response_is f out w l) a o (finding_is w.out o l');
}
