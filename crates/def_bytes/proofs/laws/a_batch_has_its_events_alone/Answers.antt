use Rattle.def_bytes.proofs.OfBatches.{batch-events}
use Rattle.def_bytes.proofs.laws.a_batch_has_its_events_alone.Goals as goal

pub returns : goal.returns
returns c events others one other is = batch-events events others one other is
