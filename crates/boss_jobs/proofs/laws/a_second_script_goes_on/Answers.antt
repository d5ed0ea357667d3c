use Rattle.boss_model.specs.Catalogue.{actuators}
use Rattle.boss_opening.specs.Opens.{digest_of, OpenedAt}
use Rattle.boss_jobs.proofs.Lifting.{same-two}
use Rattle.boss_jobs.proofs.Reopening.{number-so, state-so}
use Rattle.boss_jobs.proofs.laws.a_second_script_goes_on.Goals as goal

pub returns-clause-state : goal.returns-clause-state
returns-clause-state g c tells catalogue journal before left found after first_old first_new old new first_status status earlier later same whole =
    state-so (actuators catalogue) (digest_of catalogue) _ _ _ later.state later.number ((earlier.holds tells).whole whole)
    (same-two (λ a b. OpenedAt (actuators catalogue) (digest_of catalogue) a b later.state later.number) _ _ _ _ same (later.opened tells))

pub returns-clause-number : goal.returns-clause-number
returns-clause-number g c tells catalogue journal before left found after first_old first_new old new first_status status earlier later same whole few =
    number-so (actuators catalogue) (digest_of catalogue) _ _ _ _ later.state later.number few ((earlier.holds tells).counted whole few)
    (same-two (λ a b. OpenedAt (actuators catalogue) (digest_of catalogue) a b later.state later.number) _ _ _ _ same (later.opened tells))
