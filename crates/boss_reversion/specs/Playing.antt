-- Source: BOSS (Dawson-Haggerty et al., NSDI 2013), transaction manager (reversion sequences); bounds and boundaries
-- own.
use Rattle.std.specs.Prelude.{ℕ, ◌≤◌, ◌^◌, nat_lt, nat_le, ◌&&◌, max, List, length, Option, fold, filter, find}
use Rattle.std.specs.List.{AllByRecursion}
use Rattle.boss_model.specs.declared.command.Step.{Step}
use Rattle.boss_model.specs.Reversions.{hold, turns}
use Rattle.boss_model.specs.declared.state.Pending.{Pending}

-- the moments of these steps stay far from the end of their type
abbrev pub CanPlay : List Step → Type 0
CanPlay steps = (length steps ≤ 8) × AllByRecursion (λ step. hold step ≤ 86400000) steps

abbrev pub IsPlayable : Pending → Type 0
IsPlayable reversion = (reversion.start ≤ 2 ^ 61) × CanPlay reversion.steps

-- the last of the moments after `now`, up to and with n, at which one of the steps ends, or `now`
abbrev pub last_turn : ℕ → List Step → ℕ → ℕ → ℕ
last_turn start steps now n = fold max now (filter (λ turn. nat_lt now turn && nat_le turn n) (turns start steps))

-- the first of the moments after `now` at which one of the steps ends
abbrev pub next_boundary : Pending → ℕ → Option ℕ
next_boundary reversion now = find (λ turn. nat_lt now turn) (turns reversion.start reversion.steps)
