use Rattle.std.proofs.Common.{rules, tests, not, ◌∙◌}
use Rattle.std.proofs.lemmas.Iterator.{YieldsList-from_slice}
use Rattle.std.proofs.lemmas.Iterator.Search.{position_from_yields_List}
use Rattle.boss_model.specs.declared.command.Setting.{Setting}
use Rattle.boss_model.specs.Submit.{is_level}
use Rattle.boss_persistent.proofs.refusals.first_bad_level.Goals as goal

pub returns : goal.returns
returns c = c.told.ensures ∙ position_from_yields_List (λ (write : Setting). not (is_level write.priority)) _ _ c.position.result c.position.ensures.ran (YieldsList-from_slice c.args.writes.now (cc)) (λ x b q k. search (rules, tests))
