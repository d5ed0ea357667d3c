-- Source: own.
use Rattle.std.specs.Prelude.{◌≡◌, ℕ, ◌==◌, ◌&&◌, Bool, true, false, if◌then◌else◌, List, map, Option, Some, None}
use Rattle.std.specs.List.{AllByRecursion, list_any}
use Rattle.boss_model.specs.declared.notice.What.{What}
use Rattle.boss_model.specs.declared.notice.What.TheVariants as what
use Rattle.boss_model.specs.declared.state.Pending.{Pending}
use Rattle.boss_model.specs.Happenings.{Happening, tell}
use Rattle.boss_model.specs.Lists.{member}
use Rattle.boss_model.specs.State.{Process, Persistent}
use Rattle.boss_stages.specs.Stages.{Stages, number, kept_as, is_over, after_lease, after_reversion}

-- something that happened, and whether a reversion begins with it
pub record Telling : Type 0 where
  pub happening : Happening
  pub reverts : Bool

-- the records of transactions, and what the processes were told
pub record Books : Type 0 where
  pub stages : Stages
  pub processes : List Process

-- what it makes of the records
abbrev pub after_what : ℕ → ℕ → Bool → Option What → Stages → Stages
after_what txn at reverts None stages = stages
after_what txn at reverts (Some (what.Fault point)) stages = stages
after_what txn at reverts (Some (what.Ended point cause)) stages = after_lease txn point cause at reverts stages
after_what txn at reverts (Some (what.Reverted point)) stages = after_reversion txn point stages
after_what txn at reverts (Some (what.Cut point by)) stages = after_reversion txn point stages
after_what txn at reverts (Some what.Done) stages = stages

-- a part of a transaction ends with it
abbrev pub is_end : Option What → Bool
is_end None = false
is_end (Some (what.Fault point)) = false
is_end (Some (what.Ended point cause)) = true
is_end (Some (what.Reverted point)) = true
is_end (Some (what.Cut point by)) = true
is_end (Some what.Done) = false

abbrev pub all_done : Happening → Happening
all_done happening = record happening { told = Some what.Done }

-- the owner is told; and that the transaction is done, where that was its last part
abbrev pub told_with_done : Bool → List Process → Happening → List Process
told_with_done done processes happening = if done then tell (tell processes happening) (all_done happening) else tell processes happening

abbrev pub booked : Books → Telling → Books
booked books telling =
    let h = telling.happening in
    let stages = after_what h.txn h.at telling.reverts h.told books.stages in
    record {
      stages = stages;
      processes = told_with_done (is_end h.told && is_over (kept_as h.txn stages.kept)) books.processes h;
    }

-- a reversion of the transaction is pending on the point
abbrev pub reverts_on : ℕ → ℕ → List Pending → Bool
reverts_on txn point pending = list_any (λ reversion. (reversion.txn == txn) && (reversion.point == point)) pending

-- The records stand for those of a persistent part: the same transactions and the same done ones, and for each transaction the
-- points on which its reversions are pending.
pub record StandsFor (stages : Stages) (d : Persistent) : Type 0 where
  pub txns : map (λ kept. kept.transaction) stages.kept ≡ d.txns
  pub done : stages.done ≡ d.done
  pub reverting : AllByRecursion (λ kept. (point : ℕ) → member point kept.reverting ≡ reverts_on (number kept) point d.pending) stages.kept
