-- Source: own.
-- The test of a whole state, in the order in which the code makes it: what is searched by halves is found to rise first.
use Rattle.std.specs.Prelude.{nat_le, Bool, ◌&&◌, List, length}
use Rattle.std.specs.List.{list_all}
use Rattle.boss_model.specs.declared.kept.Kept.{Kept}
use Rattle.boss_model.specs.declared.state.Actuator.{Actuator}
use Rattle.boss_model.specs.Limits.{done_kept, most_processes, last_moment, last_number}
use Rattle.boss_model.specs.State.{lease_slot, pending_slot}
use Rattle.boss_state_check.specs.Searches.{rises, kept_rank}
use Rattle.boss_state_check.specs.Tests.{is_lease, is_pending, is_alone, is_transaction, is_told_lease, is_told_pending, are_distinct, is_recorded, is_settled, is_process, have_own_names}

abbrev pub numbers_pass : Kept → Bool
numbers_pass kept = nat_le kept.now last_moment && nat_le 1 kept.next && nat_le kept.next last_number

abbrev pub orders_pass : Kept → Bool
orders_pass kept = rises lease_slot kept.leases && rises pending_slot kept.pending && rises kept_rank kept.txns

abbrev pub slots_pass : List Actuator → Kept → Bool
slots_pass plant kept = list_all (is_lease plant kept.now) kept.leases && list_all (is_pending plant kept.now) kept.pending && list_all (is_alone kept.leases) kept.pending

abbrev pub records_pass : List Actuator → Kept → Bool
records_pass plant kept = list_all (is_transaction plant kept) kept.txns && list_all (is_told_lease kept.txns) kept.leases && list_all (is_told_pending kept.txns) kept.pending

abbrev pub done_passes : Kept → Bool
done_passes kept = nat_le (length kept.done) done_kept && are_distinct kept.done && list_all (is_recorded kept.txns) kept.done && list_all (is_settled kept.pending kept.done) kept.txns

abbrev pub processes_pass : List Actuator → Kept → Bool
processes_pass plant kept = nat_le (length kept.processes) most_processes && have_own_names kept.processes && list_all (is_process (length plant) kept.now) kept.processes

abbrev pub all_pass : List Actuator → Kept → Bool
all_pass plant kept = numbers_pass kept && orders_pass kept && slots_pass plant kept && records_pass plant kept && done_passes kept && processes_pass plant kept
