use Rattle.law_records.proofs.Lookups.{any-at}
use Rattle.law_records.proofs.Renewals.{extended-rising}
use Rattle.law_records.proofs.Turns.{extended-both, shorter-both}
use Rattle.law_records.proofs.slots.leases_are_extended_in_turn.Goals as goal

pub returns-clause-all : goal.returns-clause-all
returns-clause-all c first next until leases = extended-both first next until leases

pub returns-clause-longer : goal.returns-clause-longer
returns-clause-longer c first next until leases = shorter-both first next until leases

pub returns-clause-in_order : goal.returns-clause-in_order
returns-clause-in_order c first until leases rising = extended-rising first until leases rising

pub returns-clause-looked_up : goal.returns-clause-looked_up
returns-clause-looked_up c test point priority leases rising = any-at test point priority leases rising
