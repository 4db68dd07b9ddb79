-- `reading::key_per_io` meets its contract: what is too short is absent, and what is read of the front is read of the whole.
-- Assumes nothing.
use Rattle.discovery.proofs.ReadingLaws.{key_per_io_told}
use Rattle.discovery.proofs.reading.key_per_io.Goals as goal

pub returns : goal.returns
returns c = key_per_io_told c.args.f.now _ _ c.first_chunk.ensures.cases c.map.ensures.cases
