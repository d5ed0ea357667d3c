-- One part more.
use Rattle.std.proofs.Common.{List, [], ◌∷◌, ◌++◌, refl, subst}
use Rattle.boss_outside.specs.declared.actuators.Actuators as actuators
use Rattle.boss_plans.specs.declared.plan.Part.{Part}
use Rattle.boss_assignment.specs.Assignments.{Assigns, AssignsOne}

module _ {A : Type 0} (a : actuators.Ghosts A) where
  pub and-one : (parts : List Part) (part : Part) (old between new : List A) → Assigns a parts old between → AssignsOne a part between new → Assigns a (parts ++ part ∷ []) old new
  and-one [] part old between new same one = (new, subst (λ devices. AssignsOne a part devices new) same one, refl)
  and-one (earlier ∷ parts) part old between new it one = (it.0, it.1, and-one parts part it.0 between new it.2 one)
