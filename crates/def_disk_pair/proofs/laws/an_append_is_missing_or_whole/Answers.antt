use Rattle.std.proofs.Common.{inl, inr, refl, arith}
use Rattle.def_disk_pair.proofs.Disks.{shut_holds, one_more}
use Rattle.def_disk_pair.proofs.OfRecords.{records_more}
use Rattle.def_disk_pair.proofs.laws.an_append_is_missing_or_whole.Goals as goal

pub returns-clause-shut : goal.returns-clause-shut
returns-clause-shut c plant digest front version before from batches to course bytes tail is =
    shut_holds plant digest front version before from batches to course bytes tail 0 (λ no. omega (arith, no)) (inl refl) is

pub returns-clause-opening : goal.returns-clause-opening
returns-clause-opening c plant digest front version before from batches to course events after next bytes tail gate shut is =
    shut_holds plant digest front version before from batches to course bytes _ gate shut (inr (events, after, tail, next, refl)) is

pub returns-clause-opened : goal.returns-clause-opened
returns-clause-opened c plant digest front version before from batches to course events after next =
    one_more plant digest front version before from batches to events after course next

pub returns-clause-records : goal.returns-clause-records
returns-clause-records c front version batches events = records_more version front batches events
