-- Source: own.
use Rattle.std.specs.Prelude.{◌≡◌, ℕ, ◌-◌, Bool, false, ◌==◌, ◌||◌, [], ◌∷◌, ◌++◌, Option, Some, None, option_map, Result, OnOk, OnErr, IsErr, IsTrue, is_err}
use Rattle.boss_outside.specs.Plan.{fails_next, after_call}
use Rattle.boss_disk.specs.declared.failures.Failures.{Failures}
use Rattle.boss_disk.specs.declared.memory.DiskCall.{DiskCall}
use Rattle.boss_disk.specs.Record.{DiskRecord}

-- a stop has no call left before it
abbrev pub has_come : Option ℕ → Bool
has_come None = false
has_come (Some left) = left == 0

-- the next call fails
abbrev pub fails_now : Failures → Bool
fails_now failures = fails_next failures.plan || has_come failures.left

-- after one call more, which failed or not
abbrev pub after_try : Failures → Bool → Failures
after_try failures failed = record {
  plan = after_call failures.plan failed;
  left = option_map (λ left. left - 1) failures.left;
}

-- a call leaves this record, or none where it failed, and is counted
pub record HasNoted {T E : Type 0} (call : DiskCall) (old new : DiskRecord) (result : Result T E) : Type 0 where
  pub start : new.start ≡ old.start
  pub kind : new.is_whole ≡ old.is_whole
  pub done : OnOk result (new.calls ≡ old.calls ++ call ∷ [])
  pub failed : OnErr result (new.calls ≡ old.calls)
  pub fails : IsTrue (fails_now old.failures) → IsErr result
  pub counted : new.failures ≡ after_try old.failures (is_err result)

-- a call that leaves no record fails where it is to, and is counted
pub record HasRead {T E : Type 0} (old new : DiskRecord) (result : Result T E) : Type 0 where
  pub start : new.start ≡ old.start
  pub kind : new.is_whole ≡ old.is_whole
  pub calls : new.calls ≡ old.calls
  pub fails : is_err result ≡ fails_now old.failures
  pub counted : new.failures ≡ after_try old.failures (is_err result)
