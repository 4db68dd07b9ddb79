-- `reading::tper` meets its contract: what is too short is absent, and what is read of the front is read of the whole.
-- Assumes nothing.
use Rattle.discovery.proofs.ReadingLaws.{tper_told}
use Rattle.discovery.proofs.reading.tper.Goals as goal

pub returns : goal.returns
returns c = tper_told c.args.f.now _ _ c.first_chunk.ensures.cases c.map.ensures.cases
