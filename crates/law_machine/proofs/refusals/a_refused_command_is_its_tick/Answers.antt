use Rattle.std.proofs.Common.{◌<◌, sym, subst}
use Rattle.law_machine.proofs.OnceStep.{repeat-found, step-repeated}
use Rattle.law_machine.proofs.Refused.{refused-step}
use Rattle.law_machine.specs.Once.{seq_of}
use Rattle.law_machine.proofs.refusals.a_refused_command_is_its_tick.Goals as goal

pub returns-clause-refused : goal.returns-clause-refused
returns-clause-refused c plant s session other command m why is = refused-step plant s session other command m why is

pub returns-clause-repeated : goal.returns-clause-repeated
returns-clause-repeated c plant s session other owner command m held is =
    let kept = repeat-found owner (seq_of command) s.persistent is in
    (step-repeated plant session other owner command m s kept.0 (record { held = held; number = sym kept.2; some = subst (λ k. 0 < k) (sym kept.2) kept.3 }) kept.1).1
