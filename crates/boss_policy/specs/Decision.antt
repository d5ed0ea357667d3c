-- Source: BOSS (Dawson-Haggerty et al., NSDI 2013), transaction manager (error policies); the first failure alone
-- counting is own.
use Rattle.std.specs.Prelude.{Bool, true, false, Option, Some, None}
use Rattle.boss_model.specs.declared.command.Policy.{Policy}
use Rattle.boss_model.specs.declared.command.Policy.TheVariants.{Abort, Keep}
use Rattle.boss_policy.specs.declared.Decision.{Decision}
use Rattle.boss_policy.specs.declared.Decision.TheVariants.{EndAll, Tell, Mark}

-- the decision table: by the policy of the lease in force, and by whether the value fails for the first time
abbrev pub decision : Option Policy → Bool → Decision
decision (Some Abort) true = EndAll
decision (Some Keep) true = Tell
decision (Some Abort) false = Mark
decision (Some Keep) false = Mark
decision None true = Mark
decision None false = Mark
