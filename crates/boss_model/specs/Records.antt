-- Source: BOSS (Dawson-Haggerty et al., NSDI 2013), transaction manager (transactions and their error policies); the
-- form of a record own.
use Rattle.std.specs.Prelude.{ℕ, List, Option}
use Rattle.boss_model.specs.declared.command.Policy.{Policy}
use Rattle.boss_model.specs.declared.notice.Cause.{Cause}

-- how a lease ended: why, and at which moment
pub record End : Type 0 where
  pub cause : Cause
  pub at : ℕ

-- one write of a transaction: its slot, and how its lease ended, none as long as it is live
pub record Part : Type 0 where
  pub point : ℕ
  pub priority : ℕ
  pub end : Option End

-- what is kept of a transaction: its number, the process that submitted it, its error policy, and its writes in their order
pub record Transaction : Type 0 where
  pub txn : ℕ
  pub owner : ℕ
  pub policy : Policy
  pub parts : List Part
