use Rattle.law_records.proofs.Known.{slots-known, slots-few}
use Rattle.law_records.proofs.Own.{open-parts, leases-by-parts, open-any, live-count, ends-by-slots}
use Rattle.law_records.proofs.Renewals.{meant-by-slots, renewed-by-slots, longer-by-slots, first-by-slots}
use Rattle.law_records.proofs.Reverting.{pending-by-points}
use Rattle.law_records.proofs.transactions.a_transaction_is_seen_from_its_record.Goals as goal

pub returns-clause-open_parts : goal.returns-clause-open_parts
returns-clause-open_parts c plant d txn t sound found = open-parts plant d sound txn t found

pub returns-clause-leases_by_parts : goal.returns-clause-leases_by_parts
returns-clause-leases_by_parts c plant d txn t sound found = leases-by-parts plant d sound txn t found

pub returns-clause-open_any : goal.returns-clause-open_any
returns-clause-open_any c plant d txn t sound found = open-any plant d sound txn t found

pub returns-clause-live_count : goal.returns-clause-live_count
returns-clause-live_count c plant d txn t sound found = live-count plant d sound txn t found

pub returns-clause-ends_by_slots : goal.returns-clause-ends_by_slots
returns-clause-ends_by_slots c plant d txn t sound found why n first = ends-by-slots plant d sound txn t found why n first

pub returns-clause-meant_by_slots : goal.returns-clause-meant_by_slots
returns-clause-meant_by_slots c plant d txn t sound found points = meant-by-slots plant d sound txn t found points

pub returns-clause-renewed_by_slots : goal.returns-clause-renewed_by_slots
returns-clause-renewed_by_slots c plant d txn t sound found points asked n = renewed-by-slots plant d sound txn t found points asked n

pub returns-clause-longer_by_slots : goal.returns-clause-longer_by_slots
returns-clause-longer_by_slots c plant d txn t sound found points until = longer-by-slots plant d sound txn t found points until

pub returns-clause-first_by_slots : goal.returns-clause-first_by_slots
returns-clause-first_by_slots c plant d txn t sound found points asked n = first-by-slots plant d sound txn t found points asked n

pub returns-clause-pending_by_points : goal.returns-clause-pending_by_points
returns-clause-pending_by_points c plant d txn t sound found reverting right = pending-by-points plant d sound txn t found reverting right

pub returns-clause-known_slots : goal.returns-clause-known_slots
returns-clause-known_slots c plant d txn t sound found points = slots-known plant d sound txn t found points

pub returns-clause-few_slots : goal.returns-clause-few_slots
returns-clause-few_slots c plant d txn t sound found points few = slots-few plant d sound txn t found points few
