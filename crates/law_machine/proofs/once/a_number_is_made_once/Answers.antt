use Rattle.std.proofs.Common.{◌<◌, length, refl}
use Rattle.law_soundness.proofs.StepSound.{found-attached}
use Rattle.law_machine.proofs.OnceStep.{step-kept, step-repeated, step-lesser, step-changed, never-falls}
use Rattle.law_machine.proofs.once.a_number_is_made_once.Goals as goal

pub returns-clause-kept : goal.returns-clause-kept
returns-clause-kept c plant s session owner seq command m accepted sound under is =
    step-kept plant session owner seq command m s accepted (found-attached (λ k. k < length s.persistent.processes) s.attached session owner sound.attached under.held) under is

pub returns-clause-changed : goal.returns-clause-changed
returns-clause-changed c plant s session owner command m = step-changed plant session owner command m s

pub returns-clause-never_falls : goal.returns-clause-never_falls
returns-clause-never_falls c plant s session owner command m = never-falls plant session owner command m s

pub returns-clause-reopened : goal.returns-clause-reopened
returns-clause-reopened c plant d owner = refl

pub returns-clause-again : goal.returns-clause-again
returns-clause-again c plant s session owner command m reply under found = (step-repeated plant session 0 owner command m s reply under found).0

pub returns-clause-lesser : goal.returns-clause-lesser
returns-clause-lesser c plant s session owner seq command m reply under found less = step-lesser plant session owner seq command m s reply under found less
