use Rattle.std.proofs.Common.{rules}
use Rattle.boss_model.specs.Sound.{IsAllowed}
use Rattle.boss_model.specs.declared.command.Command.TheVariants.{Attach}
use Rattle.trial_keeper.proofs.Keepers.{if_ok}
use Rattle.trial_keeper.proofs.asking.asked.Goals as goal

pub returns-clause-may : goal.returns-clause-may
returns-clause-may c =
    if_ok c.two_asked.result c.two_asked.ensures.may (λ asked may plant some.
    let attach : IsAllowed plant (Attach c.args.name) = search rules in
    may plant attach (c.in_ok-submit.ensures plant some))
