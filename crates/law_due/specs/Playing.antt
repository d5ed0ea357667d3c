-- Source: own.
use Rattle.std.specs.Prelude.{ℕ, ◌≤◌, ◌^◌, nat_lt, nat_le, ◌&&◌, max, List, length, fold, filter}
use Rattle.std.specs.List.{AllByRecursion}
use Rattle.boss_model.specs.declared.command.Step.{Step}
use Rattle.boss_model.specs.Limits.{longest_hold, most_steps}
use Rattle.boss_model.specs.Reversions.{hold, turns}
use Rattle.boss_model.specs.declared.state.Lease.{Lease}
use Rattle.boss_model.specs.declared.state.Pending.{Pending}

-- the moments of these steps stay far from the end of their type
abbrev pub CanPlay : List Step → Type 0
CanPlay steps = (length steps ≤ most_steps) × AllByRecursion (λ step. hold step ≤ longest_hold) steps

abbrev pub IsPlayable : Pending → Type 0
IsPlayable reversion = (reversion.start ≤ 2 ^ 61) × CanPlay reversion.steps

-- and those of the reversion that the lease leaves
abbrev pub IsEndable : Lease → Type 0
IsEndable lease = (lease.until ≤ 2 ^ 61) × CanPlay lease.revert

-- the last of the moments after `now`, up to and with n, at which one of the steps ends, or `now`
abbrev pub last_turn : ℕ → List Step → ℕ → ℕ → ℕ
last_turn start steps now n = fold max now (filter (λ turn. nat_lt now turn && nat_le turn n) (turns start steps))
