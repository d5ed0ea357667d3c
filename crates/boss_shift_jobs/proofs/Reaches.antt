-- By how much moments can be taken back.
use Rattle.std.proofs.Common.{ℕ, ◌≤◌, ◌<◌, List, [], ◌∷◌, arith}
use Rattle.std.specs.List.{AllByRecursion}
use Rattle.boss_model.specs.declared.state.Pending.{Pending}
use Rattle.boss_model.specs.State.{Persistent}
use Rattle.law_shift.specs.Shifted.{MayShift}

all-less : (by most : ℕ) (pending : List Pending) → by ≤ most → AllByRecursion (λ reversion. most ≤ reversion.start) pending → AllByRecursion (λ reversion. by ≤ reversion.start) pending
all-less by most [] less all = tt
all-less by most (reversion ∷ pending) less all = (omega (arith, less, all.0), all-less by most pending less all.1)

-- by less than what they can
pub less-may : (by most : ℕ) (d : Persistent) → by ≤ most → MayShift most d → MayShift by d
less-may by most d less may = record { now = omega (arith, less, may.now); started = all-less by most d.pending less may.started }

-- by more than the most that they can
pub more-may-not : (by most : ℕ) (d : Persistent) → most < by → ((other : ℕ) → MayShift other d → other ≤ most) → ¬ MayShift by d
more-may-not by most d more greatest may = absurd (omega (arith, more, greatest by may))
