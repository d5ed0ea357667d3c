use Rattle.std.proofs.Common.{rules}
use Rattle.std.proofs.lemmas.List.Elements.{filter_from_retain}
use Rattle.boss_stages.specs.Entries.{is_kept}
use Rattle.boss_stages.proofs.list.close_up.Goals as goal

pub returns-clause-items : goal.returns-clause-items
returns-clause-items c = filter_from_retain _ is_kept (λ f entry b g called. search rules) _ _ _ c.retain.ensures.filtered
