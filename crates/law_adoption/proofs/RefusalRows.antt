-- States that cannot be adopted, computed from the definitions alone.
use Rattle.std.proofs.Common.{◌≡◌, ℕ, [], ◌∷◌, refl, Option, None, Some}
use Rattle.boss_model.specs.declared.command.Command.TheVariants as command
use Rattle.boss_model.specs.Catalogue.{Catalogue, actuators}
use Rattle.boss_model.specs.Machine.{step}
use Rattle.boss_model.specs.State.{Persistent}
use Rattle.boss_model.proofs.Building.{damper, lamp, fan, at, write, reverting, held, submit, cancel}
use Rattle.law_adoption.specs.MayMove.{in_use, unfit}
use Rattle.law_adoption.specs.Renumber.{renumbered}
use Rattle.law_adoption.proofs.Catalogues.{old, changed, without_damper, lamp_alone, narrow, narrow_without_fan, lamp_of_two_states, after, one_lease}

abbrev used_of : Catalogue → Persistent → Option ℕ
used_of new d = in_use (renumbered old new) d

abbrev unfit_of : Catalogue → Persistent → Option ℕ
unfit_of new d = unfit (actuators new) (renumbered old new) d

-- ---- in use

-- the damper, which is held, is removed
held_point : used_of without_damper one_lease ≡ Some damper
unfolding step
held_point = refl

-- a part that has ended counts as long as its transaction is not done, though another transaction took its slot
abbrev ended_part : Persistent
ended_part = after (
    at 1000 1 (submit (write damper 45000 8 60000 ∷ write fan 2 8 60000 ∷ [])) ∷
    at 2000 2 (submit (write fan 3 8 60000 ∷ [])) ∷
    at 3000 2 (cancel 2) ∷ [])

ended_part_counts : used_of changed ended_part ≡ Some fan
unfolding step
ended_part_counts = refl

-- until it is done
done_does_not_count : used_of changed (after (
    at 1000 1 (submit (write damper 45000 8 60000 ∷ write fan 2 8 60000 ∷ [])) ∷
    at 2000 2 (submit (write fan 3 8 60000 ∷ [])) ∷
    at 3000 2 (cancel 2) ∷
    at 4000 1 (cancel 1) ∷ []))
    ≡ None
unfolding step
done_does_not_count = refl

-- of two points the one of the least old number, whoever came first
least_point : used_of lamp_alone (after (at 1000 1 (submit (write fan 2 8 60000 ∷ [])) ∷ at 2000 2 (submit (write damper 45000 8 60000 ∷ [])) ∷ [])) ≡ Some damper
unfolding step
least_point = refl

-- a reversion that is under way is use
reversion_counts : used_of changed (after (at 1000 1 (submit (reverting (held 3 5000 ∷ []) (write fan 2 8 1000) ∷ [])) ∷ at 2000 1 command.Tick ∷ [])) ≡ Some fan
unfolding step
reversion_counts = refl

-- ---- unfit

-- the damper is held at a value that is too great for the new one
too_great : (used_of narrow one_lease ≡ None) × (unfit_of narrow one_lease ≡ Some damper)
unfolding step
too_great = (refl, refl)

-- a step to come does not fit, though the lease does
step_to_come : unfit_of narrow (after (at 1000 1 (submit (reverting (held 50000 5000 ∷ []) (write damper 30000 8 60000) ∷ [])) ∷ [])) ≡ Some damper
unfolding step
step_to_come = refl

-- nor does a step that is over, though the one that is played does
step_over : unfit_of narrow (after (
    at 1000 1 (submit (reverting (held 50000 5000 ∷ held 30000 5000 ∷ []) (write damper 30000 8 1000) ∷ [])) ∷
    at 8000 1 command.Tick ∷ []))
    ≡ Some damper
unfolding step
step_over = refl

-- the lamp becomes a point of two states: on, 1, is one of them, and off, 0, is none
lamp_on_fits : unfit_of lamp_of_two_states (after (at 1000 1 (submit (write lamp 1 8 60000 ∷ [])) ∷ [])) ≡ None
unfolding step
lamp_on_fits = refl

lamp_off_does_not : unfit_of lamp_of_two_states (after (at 1000 1 (submit (write lamp 0 8 60000 ∷ [])) ∷ [])) ≡ Some lamp
unfolding step
lamp_off_does_not = refl

-- ---- both at once

abbrev both : Persistent
both = after (at 1000 1 (submit (write damper 45000 8 60000 ∷ write fan 2 8 60000 ∷ [])) ∷ [])

in_use_and_unfit : (used_of narrow_without_fan both ≡ Some fan) × (unfit_of narrow_without_fan both ≡ Some damper)
unfolding step
in_use_and_unfit = (refl, refl)
