use Rattle.std.proofs.Common.{rules, tests, not, ◌∙◌}
use Rattle.std.proofs.lemmas.Iterator.{YieldsList-from_slice}
use Rattle.std.proofs.lemmas.Iterator.Search.{position_from_yields_List}
use Rattle.std.proofs.Common.{ℕ}
use Rattle.boss_model.specs.Renew.{wrote}
use Rattle.boss_persistent.proofs.refusals.first_unwritten.Goals as goal

pub returns : goal.returns
returns c = c.told.ensures ∙ position_from_yields_List (λ (point : ℕ). not (wrote c.args.parts.now point)) _ _ c.position.result c.position.ensures.ran (YieldsList-from_slice c.args.points.now (cc)) (λ x b q k. search (rules, tests))
