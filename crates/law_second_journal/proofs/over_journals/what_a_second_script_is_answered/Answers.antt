use Rattle.std.proofs.Common.{ap, sym}
use Rattle.boss_model.specs.Catalogue.{actuators}
use Rattle.boss_model.specs.State.{State}
use Rattle.def_history.specs.History.{run}
use Rattle.def_history.proofs.Sound.{legal-sound}
use Rattle.boss_opening.specs.Opens.{digest_of, OpenedAt}
use Rattle.boss_jobs.proofs.Lifting.{same-two}
use Rattle.boss_jobs.proofs.Reopening.{state-so}
use Rattle.law_second_script.proofs.Answered.{same-answers}
use Rattle.law_second_journal.proofs.Lasting.{opened-at-sound}
use Rattle.law_second_journal.proofs.over_journals.what_a_second_script_is_answered.Goals as goal

pub returns : goal.returns
returns g c tells catalogue journal before left found after first_old first_new old new first_status status earlier later same whole on goes only asks_only is =
    let plant = actuators catalogue in
    let starts = opened-at-sound plant (digest_of catalogue) _ _ earlier.state earlier.number (earlier.opened tells) in
    let ends = run plant earlier.made earlier.state in
    let opens = state-so plant (digest_of catalogue) _ _ _ later.state later.number ((earlier.holds tells).whole whole)
    (same-two (λ a b. OpenedAt plant (digest_of catalogue) a b later.state later.number) _ _ _ _ same (later.opened tells)) in
    same-answers plant ends later.state on later.made (legal-sound plant earlier.made earlier.state starts earlier.legal).persistent (sym (ap (λ (s : State). s.persistent) opens))
    goes later.legal only asks_only is
