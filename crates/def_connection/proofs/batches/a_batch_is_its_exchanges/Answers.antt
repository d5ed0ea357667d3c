use Rattle.def_connection.proofs.BatchLemmas.{batch-lines, batch-reads, batch-deeds, batch-text, batch-moments}
use Rattle.def_connection.proofs.batches.a_batch_is_its_exchanges.Goals as goal

pub returns-clause-lines : goal.returns-clause-lines
returns-clause-lines c manner at lines calls replies asked few = batch-lines manner at lines calls replies asked few

pub returns-clause-reads : goal.returns-clause-reads
returns-clause-reads c manner at lines calls replies asked = batch-reads manner at lines calls replies asked

pub returns-clause-deeds : goal.returns-clause-deeds
returns-clause-deeds c manner session at lines calls replies asked = batch-deeds manner session at lines calls replies asked

pub returns-clause-text : goal.returns-clause-text
returns-clause-text c manner speech at lines calls replies asked few = batch-text manner speech at lines calls replies asked few

pub returns-clause-moments : goal.returns-clause-moments
returns-clause-moments c manner at lines calls replies asked = batch-moments manner at lines calls replies asked
