-- Where nothing is refused by a list of places that stands for the renumbering, the adopted state is sound.
use Rattle.std.proofs.Common.{◌≡◌, ℕ, map, Option, None, sym, subst}
use Rattle.boss_model.specs.Catalogue.{Catalogue, actuators}
use Rattle.boss_model.specs.Sound.{DistinctNames, IsSoundPersistent}
use Rattle.boss_model.specs.State.{Persistent}
use Rattle.law_adoption.specs.Adopted.{adopted}
use Rattle.law_adoption.specs.MayMove.{in_use, unfit}
use Rattle.law_adoption.specs.Renumber.{renumbered}
use Rattle.law_adoption.proofs.MovedSound.{adoption-sound}

pub sound-by : (old new : Catalogue) (to : ℕ → Option ℕ) (d : Persistent) → to ≡ renumbered old new → DistinctNames (map (λ point. point.name) old.points) →
    IsSoundPersistent (actuators old) d → in_use to d ≡ None → unfit (actuators new) to d ≡ None → IsSoundPersistent (actuators new) (adopted to d)
sound-by old new to d is apart sound unused fit =
    subst (λ (f : ℕ → Option ℕ). in_use f d ≡ None → unfit (actuators new) f d ≡ None → IsSoundPersistent (actuators new) (adopted f d)) (sym is)
    (λ a b. adoption-sound old new d apart sound a b) unused fit
