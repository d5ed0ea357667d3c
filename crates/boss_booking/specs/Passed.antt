-- Source: own.
use Rattle.std.specs.Prelude.{◌≡◌, ℕ, ◌≤◌, ◌<◌, List, [], ◌∷◌, Some}
use Rattle.std.specs.List.{AllByRecursion}
use Rattle.boss_model.specs.declared.notice.Cause.{Cause}
use Rattle.boss_model.specs.declared.state.Lease.{Lease}
use Rattle.boss_model.specs.Ends.{fault}
use Rattle.boss_model.specs.Happenings.{Happening}
use Rattle.boss_model.specs.Reversions.{end_of}
use Rattle.boss_model.specs.State.{Persistent}
use Rattle.boss_model.specs.Target.{in_force}

-- time has passed up to n: nothing more is due, and all that stands outlasts n
pub record IsPassed (n : ℕ) (d : Persistent) : Type 0 where
  pub reached : d.now ≤ n
  pub live : AllByRecursion (λ lease. n < lease.until) d.leases
  pub running : AllByRecursion (λ reversion. n < end_of reversion) d.pending

-- what is told before the ends of leases: nothing, or that a device did not take the value of the lease in force on a point
pub data IsFirstTold (why : Cause) (n : ℕ) (d : Persistent) : List Happening → Type 0 where
  nothing : IsFirstTold why n d []
  faulted : (point : ℕ) (lease : Lease) → in_force d.leases point ≡ Some lease → IsFirstTold why n d (fault n lease ∷ [])
