use Rattle.law_records.proofs.Recorded.{each-recorded, force-recorded}
use Rattle.law_records.proofs.transactions.a_lease_has_its_record.Goals as goal

pub returns-clause-leases : goal.returns-clause-leases
returns-clause-leases c plant d sound = each-recorded plant d sound

pub returns-clause-in_force : goal.returns-clause-in_force
returns-clause-in_force c plant d point lease sound is = force-recorded plant d sound point lease is
