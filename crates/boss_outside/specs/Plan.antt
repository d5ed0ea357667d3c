-- Source: own.
use Rattle.std.specs.Prelude.{ℕ, ◌+◌, ◌-◌, ◌^◌, min, Bool, ◌==◌, nat_lt, List, if◌then◌else◌}
use Rattle.std.specs.List.{list_any}
use Rattle.boss_outside.specs.Counts.{one_more}

-- which calls of an object in memory fail, by their numbers from 1, and how many calls and faults there were
pub record Plan : Type 0 where
  pub fails : List ℕ
  pub calls : ℕ
  pub faults : ℕ

-- the plan before the first call
abbrev pub new_plan : List ℕ → Plan
new_plan fails = record { fails = fails; calls = 0; faults = 0 }

-- whether the next call is one that fails
abbrev pub fails_next : Plan → Bool
fails_next plan = list_any (λ number. number == one_more plan.calls) plan.fails

-- the plan after one call more, which failed or not
abbrev pub after_call : Plan → Bool → Plan
after_call plan failed = record {
  fails = plan.fails;
  calls = one_more plan.calls;
  faults = if failed then one_more plan.faults else plan.faults;
}

-- the plan after a part was taken back: with the part's faults more, as far as a `u64` counts; a part without one changes no count
abbrev pub after_join : Plan → Plan → Plan
after_join plan part = record {
  fails = plan.fails;
  calls = plan.calls;
  faults = if nat_lt 0 part.faults then min (plan.faults + part.faults) (2 ^ 64 - 1) else plan.faults;
}
