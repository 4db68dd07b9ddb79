-- What is promised of discovery, of the code: each is a statement of `rules`
-- `DiscoveryPromises`, here of what `write` and `read` of `discovery` leave
-- (Leaves.antt). proofs/Discovery.antt has a proof of each.
-- Assumes nothing.
use Rattle.rules.specs.DiscoveryPromises.{WriterRefuses, WriterWrites, NoResponseWhen, FieldsOrNone, FirstTperCounts, FirstKeyPerIoCounts}
use Rattle.rules.specs.DiscoveryPromises.{OtherChangesNothing, ReadsBack}
use Rattle.promises.specs.Leaves.{ResponseLeaves, ReadFinds}

pub record DiscoveryDemands : Type 0 where
  -- the writer, for any fields and any output
  pub writer_refuses : WriterRefuses ResponseLeaves
  pub writer_writes : WriterWrites ResponseLeaves
  -- the reader, for any bytes
  pub no_response_when : NoResponseWhen ReadFinds
  pub fields_or_none : FieldsOrNone ReadFinds
  pub first_tper_counts : FirstTperCounts ReadFinds
  pub first_key_per_io_counts : FirstKeyPerIoCounts ReadFinds
  pub other_changes_nothing : OtherChangesNothing ReadFinds
  -- both
  pub reads_back : ReadsBack ResponseLeaves ReadFinds
