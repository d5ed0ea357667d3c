-- Source: BOSS (Dawson-Haggerty et al., NSDI 2013), transaction manager (reversion sequences); values held in turn,
-- and their arithmetic, own.
use Rattle.std.specs.Prelude.{ℕ, ◌+◌, ℤ, unsigned_abs, nat_lt, if◌then◌else◌, List, [], ◌∷◌, ◌++◌, map, Option, Some, None}
use Rattle.boss_model.specs.declared.command.Step.{Step}
use Rattle.boss_model.specs.Order.{in_order}
use Rattle.boss_model.specs.State.{Lease, Pending, pending_slot}

abbrev pub hold : Step → ℕ
hold step = unsigned_abs step.hold

-- the moment at which steps that start at this one are over
abbrev pub over : ℕ → List Step → ℕ
over start [] = start
over start (step ∷ steps) = over (start + hold step) steps

-- the moments at which one of them ends
abbrev pub turns : ℕ → List Step → List ℕ
turns start [] = []
turns start (step ∷ steps) = (start + hold step) ∷ turns (start + hold step) steps

-- the value of the step that holds at a moment; none before the first and after the last
abbrev pub value_from : ℕ → List Step → ℕ → Option ℤ
value_from start [] moment = None
value_from start (step ∷ steps) moment =
    if nat_lt moment start then None else
    (if nat_lt moment (start + hold step) then Some step.value else value_from (start + hold step) steps moment)

abbrev pub end_of : Pending → ℕ
end_of reversion = over reversion.start reversion.steps

abbrev pub value_at : Pending → ℕ → Option ℤ
value_at reversion moment = value_from reversion.start reversion.steps moment

-- the reversion that starts when the lease ends; without steps it is over as it starts
abbrev pub reversion_of : Lease → Pending
reversion_of lease = record {
  txn = lease.txn;
  owner = lease.owner;
  point = lease.point;
  priority = lease.priority;
  steps = lease.revert;
  start = lease.until;
}

-- all reversions, under way and to come, in order of slots
abbrev pub courses : List Pending → List Lease → List Pending
courses pending leases = in_order pending_slot (pending ++ map reversion_of leases)
